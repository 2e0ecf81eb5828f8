use Rattle.std.proofs.Common.{rules, ◌≡◌, Some, None, slice_index_or, sym, ◌∙◌, arith}
use Rattle.sshlab.specs.ScenarioFields.{with_digit}
use Rattle.sshlab.proofs.ScenarioFieldLemmas.{digits_end, digits_more, digits_stop, number_is, number_empty, number_long}
use Rattle.sshlab.proofs.schedule.count_of.Goals.{then-is_empty-via-then-is_empty, then-is_empty-via-else-is_empty+then-digits-gt-MOST_DIGITS}
use Rattle.sshlab.proofs.schedule.count_of.Goals as goal

pub returns-then-is_empty : goal.returns-then-is_empty
returns-then-is_empty c = elim c.then-is_empty.branch [
  | then-is_empty-via-then-is_empty w ↦ sym (number_empty c.args.digits.now (search rules))
  | then-is_empty-via-else-is_empty+then-digits-gt-MOST_DIGITS w ↦ sym (number_long c.args.digits.now (search rules))
]

pub returns-in_err-count : goal.returns-in_err-count
returns-in_err-count c =
    let stop : with_digit c.loop-digit.count (slice_index_or c.args.digits.now c.loop-digit.digit-index 0) ≡ None = search rules in
    let none : c.from_residual.result ≡ None = search rules in
    none ∙ sym (number_is c.args.digits.now (search rules) (search rules)
    ∙ digits_stop _ c.loop-digit.count 0 c.loop-digit.digit-index c.args.digits.now c.loop-digit-test.true c.loop-digit.invariant stop)

pub loop-digit-preserved : goal.loop-digit-preserved
loop-digit-preserved c =
    let more : with_digit c.loop-digit.count (slice_index_or c.args.digits.now c.loop-digit.digit-index 0) ≡ Some c.in_ok-count.count = search rules in
    digits_more _ c.loop-digit.count c.in_ok-count.count 0 c.loop-digit.digit-index c.args.digits.now c.loop-digit-test.true c.loop-digit.invariant more

pub returns : goal.returns
returns c =
    sym (number_is c.args.digits.now (search rules) (search rules)
    ∙ digits_end _ c.loop-digit.count c.loop-digit.digit-index c.args.digits.now (omega arith) c.loop-digit.invariant)
