use Rattle.std.proofs.Common.{rules}
use Rattle.sshwire.proofs.EndLemmas.{body_utf8}
use Rattle.sshwire.proofs.name_list.text_of.Goals as goal

pub unwrap-text-requires : goal.unwrap-text-requires
unwrap-text-requires c = let u = body_utf8 c.args.body.now c.requires in search rules
