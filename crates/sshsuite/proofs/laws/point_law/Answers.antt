use Rattle.sshsuite.proofs.DecodingLemmas.{point_in_is}
use Rattle.sshsuite.proofs.WordLemmas.{are_words}
use Rattle.sshsuite.proofs.BaseLemmas.{base_multiple_is, table_is}
use Rattle.sshsuite.proofs.EdwardsLemmas.{bytes_are, multiple_is}
use Rattle.sshsuite.proofs.laws.point_law.Goals as goal

pub returns-clause-base : goal.returns-clause-base
returns-clause-base c = table_is

pub returns-clause-base_multiplied : goal.returns-clause-base_multiplied
returns-clause-base_multiplied c = base_multiple_is

pub returns-clause-multiplied : goal.returns-clause-multiplied
returns-clause-multiplied c = multiple_is

pub returns-clause-encoded : goal.returns-clause-encoded
returns-clause-encoded c = bytes_are

pub returns-clause-decoded : goal.returns-clause-decoded
returns-clause-decoded c = λ bytes h. point_in_is bytes (are_words bytes h)
