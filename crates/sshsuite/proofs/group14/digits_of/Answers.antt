use Rattle.std.proofs.Common.{rules}
use Rattle.sshsuite.proofs.ByteNumberLemmas.{after_zero, positive_some}
use Rattle.sshsuite.proofs.group14.digits_of.Goals as goal

pub bounds-body-0 : goal.bounds-body-0
bounds-body-0 c = positive_some c.args.body.now c.requires

pub after_first-requires : goal.after_first-requires
after_first-requires c = positive_some c.args.body.now c.requires

pub returns-then-body-eq0-clause-number : goal.returns-then-body-eq0-clause-number
returns-then-body-eq0-clause-number c = rw c.after_first.ensures (after_zero c.args.body.now c.requires (search rules)).0

pub returns-then-body-eq0-clause-some : goal.returns-then-body-eq0-clause-some
returns-then-body-eq0-clause-some c = rw c.after_first.ensures (after_zero c.args.body.now c.requires (search rules)).1

pub returns-then-body-eq0-clause-first : goal.returns-then-body-eq0-clause-first
returns-then-body-eq0-clause-first c = rw c.after_first.ensures (after_zero c.args.body.now c.requires (search rules)).2
