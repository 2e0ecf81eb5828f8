use Rattle.std.proofs.Common.{◌≡◌, ◌∷◌, Bool, Bor, false, map, ℕ}
use Rattle.std.specs.Prelude.{◌&&◌}
use Rattle.sshauth.specs.HostNames.{is_like}
use Rattle.sshauth.proofs.host_names.row_after_one.Given as goal

-- the answers so far
abbrev pub invariant-loop-own : goal.invariant-loop-own
invariant-loop-own l = l.next.items ≡ false ∷ map (λ (pair : ℕ × Bool). is_like l.byte pair.0 && pair.1) (map (λ (pair : Bor ℕ × Bor Bool). (pair.0.now, pair.1.now)) l.yielded)
