use Rattle.std.proofs.Common.{length, take}
use Rattle.sshcore.specs.RecordText.{Adds, number_text}
use Rattle.rezdolin.specs.PartsText.{each_text, user_text}
use Rattle.rezdolin.proofs.parts_digest.put_users.Given as goal

abbrev pub invariant-loop-user : goal.invariant-loop-user
invariant-loop-user l = Adds (λ rest. number_text (length l.users) (each_text user_text (take l.user-index l.users) rest)) l.fn.out.items l.out.items
