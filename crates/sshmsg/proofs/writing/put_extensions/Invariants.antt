use Rattle.std.proofs.Common.{◌≡◌, ◌++◌, take}
use Rattle.sshmsg.specs.View.{pairs_of}
use Rattle.sshmsg.specs.Written.{pairs_written}
use Rattle.sshmsg.proofs.writing.put_extensions.Given as goal

abbrev pub invariant-loop-extension : goal.invariant-loop-extension
invariant-loop-extension l = l.out.items ≡ l.fn.out.items ++ pairs_written (pairs_of (take l.extension-index l.extensions))
