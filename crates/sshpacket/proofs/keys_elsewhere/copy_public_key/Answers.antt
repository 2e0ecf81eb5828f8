use Rattle.std.proofs.Common.{◌≡◌, ◌∙◌, true, rules}
use Rattle.sshpacket.specs.declared.limits.TheConstants.{BLOB_LIMIT}
use Rattle.sshpacket.specs.KeysElsewhere.{begins_with_name}
use Rattle.sshpacket.specs.KeysElsewhereLaws.{take_cut}
use Rattle.sshpacket.proofs.keys_elsewhere.copy_public_key.Goals as goal

pub returns : goal.returns
returns c =
    let on : begins_with_name c.args.public_key.now ≡ true = search rules in
    rw on (c.in_ok-from_slice.ensures.items ∙ take_cut c.args.public_key.now BLOB_LIMIT c.min-len.result c.min-len.ensures)
