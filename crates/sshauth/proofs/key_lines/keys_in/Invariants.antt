use Rattle.std.proofs.Common.{◌≡◌, map}
use Rattle.std.specs.List.{filter_map}
use Rattle.sshauth.specs.KeyLines.{key_in}
use Rattle.sshauth.proofs.key_lines.keys_in.Given as goal

-- the keys are those of the lines so far
abbrev pub invariant-loop-line : goal.invariant-loop-line
invariant-loop-line l = map (λ key. key.items) l.keys.items ≡ filter_map (key_in l.fn.kind) (map (λ line. line.now) l.yielded)
