use Rattle.std.proofs.Common.{length, take}
use Rattle.sshcore.specs.RecordText.{Adds, number_text}
use Rattle.rezdolin.specs.PartsText.{each_text, key_text}
use Rattle.rezdolin.proofs.parts_digest.put_lent.Given as goal

abbrev pub invariant-loop-bytes : goal.invariant-loop-bytes
invariant-loop-bytes l = Adds (λ rest. number_text (length l.list) (each_text key_text (take l.bytes-index l.list) rest)) l.fn.out.items l.out.items
