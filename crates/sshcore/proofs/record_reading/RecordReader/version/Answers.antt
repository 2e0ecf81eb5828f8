use Rattle.std.proofs.Common.{arith, rules}
use Rattle.sshcore.specs.declared.record_fault.TheConstants.{RECORD_VERSION}
use Rattle.sshcore.proofs.record_reading.RecordReader.version.Goals as goal

pub returns-then-number-ne-RECORD_VERSION : goal.returns-then-number-ne-RECORD_VERSION
returns-then-number-ne-RECORD_VERSION c = λ rest e.
    let read = c.number.ensures RECORD_VERSION rest (omega arith) e in
    absurd (search (read.0, c.if-number-ne-RECORD_VERSION.true, rules))

pub returns-else-number-ne-RECORD_VERSION : goal.returns-else-number-ne-RECORD_VERSION
returns-else-number-ne-RECORD_VERSION c = λ rest e. let read = c.number.ensures RECORD_VERSION rest (omega arith) e in (read.1, read.2)
