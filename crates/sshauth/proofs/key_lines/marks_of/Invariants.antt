use Rattle.std.proofs.Common.{◌≡◌, map}
use Rattle.sshauth.specs.KeyLines.{is_line}
use Rattle.sshauth.proofs.key_lines.marks_of.Given as goal

-- the marks are those of the lines so far
abbrev pub invariant-loop-line : goal.invariant-loop-line
invariant-loop-line l = l.marks.items ≡ map (is_line l.fn.kind) (map (λ line. line.now) l.yielded)
