use Rattle.sshsuite.proofs.PublicPowerLemmas.{refined_is}
use Rattle.sshsuite.proofs.public_power.refined.Goals as goal

pub returns : goal.returns
returns c = refined_is c.args.odd c.args.inverse
