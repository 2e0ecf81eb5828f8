use Rattle.sshneg.specs.declared.side.Side.TheVariants.{Client}
use Rattle.sshcore.specs.EndpointParts.{config_of_client}
use Rattle.sshcore.specs.Redrawn.{redrawn_client}
use Rattle.sshcore.proofs.RecordLawLemmas.{goes_on}
use Rattle.sshcore.proofs.asking_paused.PausedEndpoint.client_of_record.Goals as goal

pub returns-clause-goes_on : goal.returns-clause-goes_on
returns-clause-goes_on g c =
    goes_on g.S.Suite.meaning Client (config_of_client (redrawn_client c.args.draws c.args.config.now)) c.args.suite.now c.args.text.now c.endpoint_of.result c.endpoint_of.ensures.made
