use Rattle.std.specs.Prelude.{◌&&◌}
use Rattle.sshneg.specs.Choice.{serves}
use Rattle.sshneg.specs.ChoiceReadings.{is_in}
use Rattle.sshneg.proofs.PositionLemmas.{position_found}
use Rattle.sshneg.proofs.choice.find_host_key.Goals as goal

pub returns : goal.returns
returns g c =
    rw c.first_able.ensures (position_found (λ name. is_in c.args.server.now.server_host_key_algorithms name
    && serves c.args.need ((g.S.Suite.meaning c.args.suite.now).can name)) c.args.client.now.server_host_key_algorithms)
