use Rattle.std.proofs.Common.{◌∙◌, Some, ap, sym}
use Rattle.sshcore.specs.RecordText.{IsShort, bytes_text}
use Rattle.sshcore.proofs.RecordLemmas.{absent, fits_there, there}
use Rattle.sshcore.proofs.record_reading.RecordReader.waiting.Goals as goal

pub returns-then-not-flag : goal.returns-then-not-flag
returns-then-not-flag c = λ x rest fits e.
    absent bytes_text c.args.self.now c.flag.new.self c.flag.result c.flag.ensures x rest c.if-not-flag.true e

pub returns : goal.returns
returns c = λ x rest fits e.
    let found = there bytes_text c.args.self.now c.flag.new.self c.flag.result c.flag.ensures x rest c.if-not-flag.false e in
    let k = found.0 in
    let payload = c.bytes.ensures k _ (fits_there IsShort x k fits found.1) found.2 in
    (ap Some payload.0 ∙ sym found.1, payload.1, payload.2 ∙ found.3)
