use Rattle.sshneg.specs.declared.side.Side.TheVariants.{Server}
use Rattle.sshcore.specs.EndpointParts.{config_of_server}
use Rattle.sshcore.specs.Redrawn.{redrawn_server}
use Rattle.sshcore.proofs.RecordLawLemmas.{goes_on}
use Rattle.sshcore.proofs.asking_paused.PausedEndpoint.server_of_record.Goals as goal

pub returns-clause-goes_on : goal.returns-clause-goes_on
returns-clause-goes_on g c =
    goes_on g.S.Suite.meaning Server (config_of_server (redrawn_server c.args.draws c.args.config.now)) c.args.suite.now c.args.text.now c.endpoint_of.result c.endpoint_of.ensures.made
