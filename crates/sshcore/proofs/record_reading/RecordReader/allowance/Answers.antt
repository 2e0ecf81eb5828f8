use Rattle.std.proofs.Common.{◌∙◌, ◌<◌, ◌^◌, ℕ, ap, Some, sym}
use Rattle.sshcore.specs.RecordText.{number_text}
use Rattle.sshcore.proofs.RecordLemmas.{absent, fits_there, there}
use Rattle.sshcore.proofs.record_reading.RecordReader.allowance.Goals as goal

pub returns-then-flag : goal.returns-then-flag
returns-then-flag c = λ x rest fits e.
    let found = there number_text c.args.self.now c.flag.new.self c.flag.result c.flag.ensures x rest c.if-flag.true e in
    let number = c.number.ensures found.0 rest (fits_there (λ (n : ℕ). n < 2 ^ 32) x found.0 fits found.1) found.2 in
    (ap Some number.0 ∙ sym found.1, number.1, number.2 ∙ found.3)

pub returns-else-flag : goal.returns-else-flag
returns-else-flag c = λ x rest fits e. absent number_text c.args.self.now c.flag.new.self c.flag.result c.flag.ensures x rest c.if-flag.false e
