use Rattle.std.proofs.Common.{◌∙◌, arith, rules}
use Rattle.sshcore.specs.declared.record_fault.TheConstants.{RECORD_VERSION}
use Rattle.sshcore.proofs.record_reading.is_of_other_version.Goals as goal

pub returns-then-reader-clause-this : goal.returns-then-reader-clause-this
returns-then-reader-clause-this c = λ rest e.
    let read = c.number-version.ensures RECORD_VERSION rest (omega arith) (c.new.ensures ∙ e) in
    search (read.0, rules)
