use Rattle.std.proofs.Common.{ℕ, List, ap, ◌∙◌, length}
use Rattle.rand_core.specs.Stream.{Stream}
use Rattle.sshsuite.specs.KeyStream.{filled_is}
use Rattle.sshsuite.proofs.chacha20.fill.Goals as goal

pub returns : goal.returns
returns c = ap (λ (p : List ℕ × Stream). p.0) c.fill_bytes.ensures ∙ filled_is c.args.generator (length c.args.bytes.now)
