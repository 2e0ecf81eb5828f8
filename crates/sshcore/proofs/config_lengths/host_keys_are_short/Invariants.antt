use Rattle.std.proofs.Common.{◌≡◌, ◌+◌, length, string_bytes, take}
use Rattle.std.specs.List.{sum_by}
use Rattle.sshcore.proofs.config_lengths.host_keys_are_short.Given as goal

abbrev pub invariant-loop-key : goal.invariant-loop-key
invariant-loop-key l = sum_by (λ x. length (string_bytes x.algorithm) + 1) (take l.key-index l.keys) + l.left ≡ 1001
