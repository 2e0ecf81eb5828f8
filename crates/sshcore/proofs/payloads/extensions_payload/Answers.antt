use Rattle.std.proofs.Common.{◌≤◌, arith, length, map, refl, string_bytes}
use Rattle.sshcore.proofs.RequestLemmas.{few_texts}
use Rattle.sshcore.proofs.payloads.extensions_payload.Goals as goal

pub list_of-requires : goal.list_of-requires
list_of-requires c =
    let few : length c.args.names.now ≤ 1001 =
    few_texts c.names_law.ensures.body string_bytes c.args.names.now (map string_bytes c.args.names.now) refl c.requires in
    omega arith
