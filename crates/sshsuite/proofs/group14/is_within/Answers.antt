use Rattle.std.proofs.Common.{rules}
use Rattle.sshsuite.specs.LongNumbers.{number_of}
use Rattle.sshsuite.proofs.PowerLemmas.{within_else, within_then}
use Rattle.sshsuite.proofs.group14.is_within.Goals as goal

pub returns-then-is_below-eq1 : goal.returns-then-is_below-eq1
returns-then-is_below-eq1 c =
    within_then (number_of c.args.number.now) c.is_below.result c.is_below-then-is_below-eq1.result c.is_below.ensures (search rules) c.is_below-then-is_below-eq1.ensures

pub returns-else-is_below-eq1 : goal.returns-else-is_below-eq1
returns-else-is_below-eq1 c = within_else (number_of c.args.number.now) c.is_below.result c.is_below.ensures (search rules)
