use Rattle.std.proofs.Common.{rules}
use Rattle.rezdolin.proofs.PartsLemmas.{held_is}
use Rattle.rezdolin.proofs.parts.is_held.Goals as goal

pub returns-then-eq : goal.returns-then-eq
returns-then-eq c = search (held_is c.args.algorithm.now c.args.private_key.now, c.eq.ensures, c.if-eq.true, c.if-eq.ensures, c.as_slice.ensures, rules)

pub returns-else-eq : goal.returns-else-eq
returns-else-eq c = search (held_is c.args.algorithm.now c.args.private_key.now, c.eq.ensures, c.if-eq.false, c.if-eq.ensures, c.as_slice.ensures, rules)
