use Rattle.std.proofs.Common.{◌≡◌, ◌++◌, flat_map, map, take}
use Rattle.sshwire.specs.Lines.{version_line}
use Rattle.sshcore.proofs.greeting.send_lines.Given as goal

abbrev pub invariant-loop-line : goal.invariant-loop-line
invariant-loop-line l = l.sent.items ≡ l.fn.sent.items ++ flat_map version_line (map (λ line. line.items) (take l.line-index l.line-items))
