use Rattle.std.proofs.Common.{arith}
use Rattle.sshwire.specs.Masks.{xored_from}
use Rattle.sshlabsuites.proofs.lab_suite.xor_with.Goals as goal

pub returns : goal.returns
returns c = xored_from c.loop-i.bytes c.args.bytes.now c.args.mask.now c.loop-i.auto.bytes (λ k h. c.loop-i.invariant.0 k (omega arith))
