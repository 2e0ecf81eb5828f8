use Rattle.std.proofs.Common.{◌++◌, ap₂, length}
use Rattle.std.proofs.lemmas.List.{drop-replicate}
use Rattle.sshsuite.specs.Sealing.{filled_up}
use Rattle.sshsuite.proofs.bits.filled_up.Goals as goal

pub returns : goal.returns
unfolding filled_up
returns c = ap₂ ◌++◌ c.copy_from_slice.ensures.after (drop-replicate (length c.args.bytes.now) 64 0)
