use Rattle.std.proofs.Common.{string_bytes}
use Rattle.sshwire.specs.Types.{IsName}
use Rattle.sshcore.proofs.SuiteFitLemmas.{item_is}
use Rattle.sshcore.proofs.config_suite_judge.unknown_name.Goals as goal

pub has_algorithm-requires : goal.has_algorithm-requires
has_algorithm-requires g c =
    rw c.deref.ensures (item_is IsName string_bytes c.args.names.now c.loop-name.name-index c.name-item.result c.loop-name-test.true c.name-item.is c.requires)
