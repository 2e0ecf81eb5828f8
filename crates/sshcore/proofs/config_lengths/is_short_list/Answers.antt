use Rattle.std.proofs.Common.{◌≤◌, arith, length, string_bytes, sym}
use Rattle.sshcore.proofs.ConfigLemmas.{exceeds, list_over}
use Rattle.sshcore.proofs.config_lengths.is_short_list.Goals as goal

pub returns-then-len-left : goal.returns-then-len-left
returns-then-len-left c =
    let long : c.loop-name.left ≤ length (string_bytes c.name-item.result) = grind arith in
    sym (list_over c.names_law.ensures.body (string_bytes) c.args.names.now
    (exceeds (string_bytes) c.args.names.now c.loop-name.name-index c.name-item.result c.loop-name.left c.loop-name.invariant c.loop-name-test.true c.name-item.is long))
