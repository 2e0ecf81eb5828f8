use Rattle.std.proofs.Common.{rules}
use Rattle.sshsuite.proofs.FrontLemmas.{front_is}
use Rattle.sshsuite.proofs.public_power.front.Goals as goal

pub returns-clause-same : goal.returns-clause-same
returns-clause-same c = front_is c.args.number.now c.args.words (search rules) c.requires.holds
