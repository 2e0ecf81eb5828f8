use Rattle.sshcore.proofs.StrictEnds.{keeps_strict}
use Rattle.sshcore.proofs.law.strict_law.Goals as goal

pub returns : goal.returns
returns c = record {
  keeps = λ setup units refusal end e. keeps_strict (record { numbers = c.numbers_law.ensures.message_number; alike = c.numbers_law.ensures.alike; right = c.markers_law.ensures.right }) setup units refusal end e;
}
