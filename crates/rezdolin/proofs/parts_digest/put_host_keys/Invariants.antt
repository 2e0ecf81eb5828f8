use Rattle.std.proofs.Common.{length, take}
use Rattle.sshcore.specs.RecordText.{Adds, number_text}
use Rattle.rezdolin.specs.PartsText.{each_text, host_key_text}
use Rattle.rezdolin.proofs.parts_digest.put_host_keys.Given as goal

abbrev pub invariant-loop-key : goal.invariant-loop-key
invariant-loop-key l = Adds (λ rest. number_text (length l.keys) (each_text host_key_text (take l.key-index l.keys) rest)) l.fn.out.items l.out.items
