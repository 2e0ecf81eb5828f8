use Rattle.sshsuite.specs.LongNumbers.{number_of}
use Rattle.sshsuite.proofs.PowerLemmas.{peer_small}
use Rattle.sshsuite.proofs.group14.group14_shared.Goals as goal

pub power-requires-clause-base : goal.power-requires-clause-base
power-requires-clause-base c = peer_small (number_of c.in-Some.number) c.args.peer.now c.in-Some.ensures
