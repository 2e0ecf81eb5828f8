use Rattle.sshpolynomials.proofs.PolynomialLemmas.{follows}
use Rattle.sshpolynomials.proofs.identity_law.Goals as goal

pub returns : goal.returns
returns c = follows
