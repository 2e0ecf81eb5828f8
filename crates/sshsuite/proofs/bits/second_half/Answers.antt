use Rattle.std.proofs.Common.{◌∙◌}
use Rattle.std.proofs.lemmas.List.{take_rest}
use Rattle.sshsuite.proofs.bits.second_half.Goals as goal

pub returns : goal.returns
returns c = c.copy_from_slice.ensures.after ∙ take_rest c.args.bytes.now 32
