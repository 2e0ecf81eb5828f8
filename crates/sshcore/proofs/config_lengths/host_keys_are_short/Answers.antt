use Rattle.std.proofs.Common.{◌≤◌, arith, length, string_bytes, sym}
use Rattle.sshcore.specs.declared.config_parts.HostKey.{HostKey}
use Rattle.sshcore.proofs.ConfigLemmas.{exceeds, list_over}
use Rattle.sshcore.proofs.config_lengths.host_keys_are_short.Goals as goal

pub returns-then-len-left : goal.returns-then-len-left
returns-then-len-left c =
    let long : c.loop-key.left ≤ length (string_bytes c.key-item.result.algorithm) = grind arith in
    sym (list_over c.names_law.ensures.body (λ (k : HostKey). string_bytes k.algorithm) c.args.keys.now
    (exceeds (λ (k : HostKey). string_bytes k.algorithm) c.args.keys.now c.loop-key.key-index c.key-item.result c.loop-key.left c.loop-key.invariant c.loop-key-test.true c.key-item.is long))
