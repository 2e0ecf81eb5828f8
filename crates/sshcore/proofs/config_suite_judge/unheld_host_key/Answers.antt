use Rattle.std.proofs.Common.{◌≤◌, length, arith}
use Rattle.sshcore.specs.declared.config_parts.TheConstants.{PRIVATE_KEY_LIMIT}
use Rattle.sshcore.specs.ConfigParts.{HostKeyData}
use Rattle.sshcore.specs.ConfigView.{host_key_data}
use Rattle.sshcore.proofs.SuiteFitLemmas.{item_is, key_is_named}
use Rattle.sshcore.proofs.config_suite_judge.unheld_host_key.Goals as goal

pub holds-requires-clause-algorithm : goal.holds-requires-clause-algorithm
holds-requires-clause-algorithm g c =
    rw c.deref.ensures (key_is_named c.args.keys.now c.loop-position.position c.index-keys-position.result (omega arith) c.index-keys-position.is c.requires.names)

pub holds-requires-clause-private_key : goal.holds-requires-clause-private_key
holds-requires-clause-private_key g c =
    let short = item_is (λ (key : HostKeyData). length key.secret ≤ PRIVATE_KEY_LIMIT) host_key_data c.args.keys.now c.loop-position.position c.index-keys-position.result (omega arith) c.index-keys-position.is c.requires.short in
    rw c.deref-in-loop-position.ensures.value (omega (arith, short))
