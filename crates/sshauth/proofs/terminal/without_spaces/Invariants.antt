use Rattle.std.proofs.Common.{◌≡◌, not, take}
use Rattle.std.specs.List.{filter}
use Rattle.sshauth.specs.Typed.{is_space}
use Rattle.sshauth.proofs.terminal.without_spaces.Given as goal

-- the line so far, without its spaces
abbrev pub invariant-loop-byte : goal.invariant-loop-byte
invariant-loop-byte l = l.rest.items ≡ filter (λ byte. not (is_space byte)) (take l.byte-index l.line)
