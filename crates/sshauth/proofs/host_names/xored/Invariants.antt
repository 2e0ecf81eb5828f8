use Rattle.std.proofs.Common.{◌≡◌, map, take}
use Rattle.std.specs.Prelude.{bit_xor}
use Rattle.sshauth.proofs.host_names.xored.Given as goal

-- the bytes so far, to each of which this one is added
abbrev pub invariant-loop-own : goal.invariant-loop-own
invariant-loop-own l = l.xored.items ≡ map (λ own. bit_xor own l.byte) (take l.own-index l.bytes)
