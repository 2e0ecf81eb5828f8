use Rattle.std.proofs.Common.{refl}
use Rattle.sshwire.specs.Types.{string}
use Rattle.sshcore.proofs.RecordLemmas.{string_one}
use Rattle.sshcore.proofs.record_reading.RecordReader.bytes.Goals as goal

pub returns-in-Ok : goal.returns-in-Ok
returns-in-Ok c = λ x rest short e.
    let read = c.in-Ok.ensures.reads in
    let same = string_one c.in-Ok.bytes.now x c.string.new.self rest c.args.self.now.reader read.0 read.1 read.2 short e in
    (same.0, same.1, refl)

pub returns-in-Err : goal.returns-in-Err
returns-in-Err c = λ x rest short e. absurd (c.in-Err.ensures.reads.1 c.in-Err.ensures.no_memory x (string x) rest (short, refl) e)
