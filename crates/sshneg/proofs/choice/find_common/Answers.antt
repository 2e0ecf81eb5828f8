use Rattle.sshneg.specs.ChoiceReadings.{is_in}
use Rattle.sshneg.proofs.PositionLemmas.{position_found}
use Rattle.sshneg.proofs.choice.find_common.Goals as goal

pub returns : goal.returns
returns c = rw c.first_listed.ensures (position_found (λ name. is_in c.args.server.now name) c.args.client.now)
