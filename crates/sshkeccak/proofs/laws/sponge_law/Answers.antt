use Rattle.sshkeccak.proofs.SpongeLemmas.{sponge_is}
use Rattle.sshkeccak.proofs.laws.sponge_law.Goals as goal

pub returns : goal.returns
returns c = sponge_is
