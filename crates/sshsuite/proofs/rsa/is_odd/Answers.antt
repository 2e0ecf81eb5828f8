use Rattle.std.proofs.Common.{rules}
use Rattle.sshsuite.proofs.PublicPowerLemmas.{odd_test}
use Rattle.sshsuite.proofs.rsa.is_odd.Goals as goal

pub returns : goal.returns
returns c = odd_test c.args.number.now 127 (search rules)
