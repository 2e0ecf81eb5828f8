use Rattle.std.proofs.Common.{◌-◌, ap, arith, length, ◌∙◌}
use Rattle.sshsuite.specs.Group14.{number_high}
use Rattle.sshsuite.proofs.ByteNumberLemmas.{filled_is, zeros_before}
use Rattle.sshsuite.proofs.rsa.filled_before.Goals as goal

pub returns : goal.returns
returns c =
    ap number_high (filled_is 1024 (length c.args.bytes.now) c.copy_from_slice.new.self (omega arith))
    ∙ zeros_before (1024 - length c.args.bytes.now) c.copy_from_slice.new.self ∙ ap number_high c.copy_from_slice.ensures.after
