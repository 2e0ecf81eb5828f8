use Rattle.sshmlkem.proofs.KeyLemmas.{own_key}
use Rattle.sshmlkem.proofs.ModulusLemmas.{key_is}
use Rattle.sshmlkem.proofs.laws.key_law.Goals as goal

pub returns-clause-checked : goal.returns-clause-checked
returns-clause-checked c = key_is

pub returns-clause-generated : goal.returns-clause-generated
returns-clause-generated c = own_key
