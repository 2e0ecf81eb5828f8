use Rattle.std.proofs.Common.{refl}
use Rattle.sshwire.specs.Types.{uint32}
use Rattle.sshcore.proofs.record_reading.RecordReader.number.Goals as goal

pub returns-in-Err : goal.returns-in-Err
returns-in-Err c = λ x rest short e. absurd (c.in-Err.ensures.reads.1 c.in-Err.ensures.no_memory x (uint32 x) rest (short, refl) e)
