use Rattle.std.proofs.Common.{refl}
use Rattle.sshwire.proofs.put.put_mpint.Goals as goal

pub returns-clause-spells : goal.returns-clause-spells
returns-clause-spells c = (c.body.ensures.bytes, c.body.ensures.shortest, (c.body.ensures.short, refl))
