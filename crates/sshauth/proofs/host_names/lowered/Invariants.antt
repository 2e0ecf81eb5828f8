use Rattle.std.proofs.Common.{◌≡◌, map, take}
use Rattle.std.specs.Char.{to_ascii_lowercase}
use Rattle.sshauth.proofs.host_names.lowered.Given as goal

-- the bytes so far, in lower case
abbrev pub invariant-loop-byte : goal.invariant-loop-byte
invariant-loop-byte l = l.lowered.items ≡ map to_ascii_lowercase (take l.byte-index l.name)
