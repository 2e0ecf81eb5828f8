use Rattle.std.proofs.Common.{arith, sym}
use Rattle.std.proofs.lemmas.List.{length-take-le}
use Rattle.sshsuite.proofs.bits.first_half.Goals as goal

pub slice_bounds-copy_from_slice-end-2 : goal.slice_bounds-copy_from_slice-end-2
slice_bounds-copy_from_slice-end-2 c = sym (length-take-le 32 c.args.bytes.now (omega arith))
