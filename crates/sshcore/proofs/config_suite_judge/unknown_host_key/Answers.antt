use Rattle.sshcore.proofs.SuiteFitLemmas.{key_is_named}
use Rattle.sshcore.proofs.config_suite_judge.unknown_host_key.Goals as goal

pub has_algorithm-requires : goal.has_algorithm-requires
has_algorithm-requires g c =
    rw c.deref.ensures (key_is_named c.args.keys.now c.loop-key.key-index c.key-item.result c.loop-key-test.true c.key-item.is c.requires)
