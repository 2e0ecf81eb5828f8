use Rattle.std.proofs.Common.{◌≡◌, Some, drop}
use Rattle.sshlab.specs.ScenarioFields.{with_digits}
use Rattle.sshlab.proofs.schedule.count_of.Given as goal

-- the digits that are left make the whole number of the count
abbrev pub invariant-loop-digit : goal.invariant-loop-digit
invariant-loop-digit l = with_digits (Some 0) l.digits ≡ with_digits (Some l.count) (drop l.digit-index l.digits)
