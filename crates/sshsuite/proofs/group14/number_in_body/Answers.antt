use Rattle.std.proofs.Common.{ℕ, ◌<◌, arith, rules, ◌∙◌}
use Rattle.std.specs.Prelude.{slice_index}
use Rattle.sshsuite.specs.Group14.{number_high}
use Rattle.sshsuite.specs.LongNumbers.{number_of}
use Rattle.sshsuite.proofs.ByteNumberLemmas.{high_big, high_small, read_none_of, read_some_of}
use Rattle.sshsuite.proofs.group14.number_in_body.Goals as goal

pub returns-then-digits-gt256 : goal.returns-then-digits-gt256
returns-then-digits-gt256 c =
    let digits = c.digits_of-digits in
    let big = high_big digits.result.now (omega arith) digits.ensures.first in
    read_none_of (number_high c.args.body.now) (rw digits.ensures.number at big)

pub returns : goal.returns
returns c =
    let digits = c.digits_of-digits in
    let bytes : (k : ℕ) → slice_index digits.result.now k < 256 = search rules in
    let small = high_small digits.result.now (omega arith) bytes in
    read_some_of (number_of c.number_of_bytes.result) (number_high c.args.body.now) (c.number_of_bytes.ensures ∙ c.filled_before.ensures ∙ digits.ensures.number) (rw digits.ensures.number at small)
