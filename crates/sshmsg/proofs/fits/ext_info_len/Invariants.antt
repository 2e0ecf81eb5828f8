use Rattle.std.proofs.Common.{◌≡◌, ◌+◌, length, take}
use Rattle.sshmsg.specs.View.{pairs_of}
use Rattle.sshmsg.specs.Written.{pairs_written}
use Rattle.sshmsg.proofs.fits.ext_info_len.Given as goal

abbrev pub invariant-loop-extension : goal.invariant-loop-extension
invariant-loop-extension l = l.len ≡ 5 + length (pairs_written (pairs_of (take l.extension-index l.extensions)))
