use Rattle.sshmlkem.proofs.EncodingLemmas.{compressed_again_1, compressed_again_10, compressed_again_4}
use Rattle.sshmlkem.proofs.Samples.{gammas_are, to_10_is, to_1_is, to_4_is, zetas_are}
use Rattle.sshmlkem.proofs.laws.mlkem_law.Goals as goal

pub returns-clause-zetas : goal.returns-clause-zetas
returns-clause-zetas c = zetas_are

pub returns-clause-gammas : goal.returns-clause-gammas
returns-clause-gammas c = gammas_are

pub returns-clause-to_10 : goal.returns-clause-to_10
returns-clause-to_10 c = to_10_is

pub returns-clause-to_4 : goal.returns-clause-to_4
returns-clause-to_4 c = to_4_is

pub returns-clause-to_1 : goal.returns-clause-to_1
returns-clause-to_1 c = to_1_is

pub returns-clause-from_10 : goal.returns-clause-from_10
returns-clause-from_10 c = compressed_again_10

pub returns-clause-from_4 : goal.returns-clause-from_4
returns-clause-from_4 c = compressed_again_4

pub returns-clause-from_1 : goal.returns-clause-from_1
returns-clause-from_1 c = compressed_again_1
