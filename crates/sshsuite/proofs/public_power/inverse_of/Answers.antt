use Rattle.sshsuite.proofs.PublicPowerLemmas.{inverted}
use Rattle.sshsuite.proofs.public_power.inverse_of.Goals as goal

pub returns : goal.returns
returns c =
    inverted c.args.odd c.refined-two.result c.refined-four.result c.refined-eight.result c.refined-sixteen.result c.refined-half.result c.refined.result c.requires
    c.refined-two.ensures c.refined-four.ensures c.refined-eight.ensures c.refined-sixteen.ensures c.refined-half.ensures c.refined.ensures
