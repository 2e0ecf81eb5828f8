use Rattle.std.proofs.Common.{◌≡◌, map, reverse}
use Rattle.sshauth.proofs.HostNameLemmas.{row_of}
use Rattle.sshauth.proofs.host_names.matches.Given as goal

-- the row is that of the pattern's bytes so far, which are its last ones
abbrev pub invariant-loop-byte : goal.invariant-loop-byte
invariant-loop-byte l = l.row.items ≡ row_of (reverse (map (λ byte. byte.now) l.yielded)) l.text
