-- The loop of the ladder keeps its points in the order that the last bit gave.

use Rattle.std.proofs.Common.{◌≡◌, ℕ, zero, suc, ◌+◌, ◌-◌, ◌%◌, ◌<◌, List, refl, sym, ap, ◌∙◌, arith}
use Rattle.sshcurve.specs.Bits.{bit_at}
use Rattle.sshsuite.specs.Curve25519.{ladder, ladder_bit, ladder_more, ladder_step, small_of, turned}
use Rattle.sshsuite.specs.declared.curve25519.LadderState.{LadderState}

-- points in the order of the last bit, put into that of the next by one exchange
pub turned_further : (s : LadderState) (last bit : ℕ) → last < 2 → bit < 2 → turned s ((last + bit) % 2) ≡ turned (turned s last) bit
turned_further s zero zero h k = refl
turned_further s zero (suc zero) h k = refl
turned_further s (suc zero) zero h k = refl
turned_further s (suc zero) (suc zero) h k = refl
turned_further s (suc (suc last)) bit h k = absurd (omega arith)
turned_further s last (suc (suc bit)) h k = absurd (omega arith)

-- a step after a further bit
pub ladder_kept : (scalar x1 : List ℕ) (s : LadderState) (last bit n : ℕ) → bit ≡ bit_at scalar (254 - n) → turned s last ≡ ladder scalar x1 n
    → turned (ladder_step (turned (turned s last) bit) x1 (small_of x1)) bit ≡ ladder scalar x1 (n + 1)
unfolding ladder_bit
ladder_kept scalar x1 s last bit n at is =
    ap (λ (r : LadderState). turned (ladder_step (turned r bit) x1 (small_of x1)) bit) is
    ∙ (ap (ladder_bit (ladder scalar x1 n) x1) at ∙ sym (ladder_more scalar x1 n))
