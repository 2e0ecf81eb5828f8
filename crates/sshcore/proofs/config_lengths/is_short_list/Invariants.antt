use Rattle.std.proofs.Common.{◌≡◌, ◌+◌, length, string_bytes, take}
use Rattle.std.specs.List.{sum_by}
use Rattle.sshcore.proofs.config_lengths.is_short_list.Given as goal

abbrev pub invariant-loop-name : goal.invariant-loop-name
invariant-loop-name l = sum_by (λ x. length (string_bytes x) + 1) (take l.name-index l.names) + l.left ≡ 1001
