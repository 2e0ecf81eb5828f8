use Rattle.std.proofs.Common.{◌≡◌, ◌∷◌, false, map, take, true}
use Rattle.sshauth.proofs.host_names.first_row.Given as goal

-- a no for each byte so far
abbrev pub invariant-loop : goal.invariant-loop
invariant-loop l = l.row.items ≡ true ∷ map (λ byte. false) (take l.index l.text)
