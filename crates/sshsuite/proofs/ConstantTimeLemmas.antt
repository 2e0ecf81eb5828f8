-- Choices by masks, and a comparison by the bits in which two lists differ.

use Rattle.std.proofs.Common.{◌≡◌, ℕ, zero, suc, ◌-◌, ◌%◌, ◌^◌, ◌<◌, refl, sym, ap, ◌∙◌, arith, cond, eqb}
use Rattle.std.proofs.lemmas.Nat.{and_comm, and_mask, xor_lt}
use Rattle.std.specs.Int.Bits.{and_zero_l, xor_assoc, xor_self, xor_zero_l, xor_zero_r}
use Rattle.std.specs.Prelude.{bit_and, bit_xor}
pub use Rattle.sshmlkem.proofs.ChoiceLemmas.{differences, differences_more, differences_none, equal_is}

xor_own : (a b : ℕ) → bit_xor a (bit_xor a b) ≡ b
xor_own a b = sym (xor_assoc a a b) ∙ (ap (λ (n : ℕ). bit_xor n b) (xor_self a) ∙ xor_zero_l b)

-- all bits, or none
chosen : (k a b bit : ℕ) → bit_xor a b % 2 ^ k ≡ bit_xor a b → bit < 2 → (mask : ℕ) → (bit ≡ 0 → mask ≡ 0) → (bit ≡ 1 → mask ≡ 2 ^ k - 1)
    → bit_xor a (bit_and mask (bit_xor a b)) ≡ cond (eqb bit 1) b a
chosen k a b zero whole low mask none all =
    ap (λ (n : ℕ). bit_xor a (bit_and n (bit_xor a b))) (none refl) ∙ (ap (bit_xor a) (and_zero_l (bit_xor a b)) ∙ xor_zero_r a)
chosen k a b (suc zero) whole low mask none all =
    ap (λ (n : ℕ). bit_xor a (bit_and n (bit_xor a b))) (all refl)
    ∙ (ap (bit_xor a) (and_comm (2 ^ k - 1) (bit_xor a b) ∙ (and_mask (bit_xor a b) k ∙ whole)) ∙ xor_own a b)
chosen k a b (suc (suc bit)) whole low mask none all = absurd (omega arith)

pub select_is : (a b bit : ℕ) → a < 2 ^ 64 → b < 2 ^ 64 → bit < 2 → bit_xor a (bit_and ((2 ^ 64 - bit) % 2 ^ 64) (bit_xor a b)) ≡ cond (eqb bit 1) b a
select_is a b bit h k low = chosen 64 a b bit (omega (arith, xor_lt 64 a b h k)) low ((2 ^ 64 - bit) % 2 ^ 64) (λ e. omega arith) (λ e. omega arith)

pub select_wide_is : (a b bit : ℕ) → a < 2 ^ 128 → b < 2 ^ 128 → bit < 2 → bit_xor a (bit_and ((2 ^ 128 - bit) % 2 ^ 128) (bit_xor a b)) ≡ cond (eqb bit 1) b a
select_wide_is a b bit h k low = chosen 128 a b bit (omega (arith, xor_lt 128 a b h k)) low ((2 ^ 128 - bit) % 2 ^ 128) (λ e. omega arith) (λ e. omega arith)

pub xor_none : (x y : ℕ) → bit_xor x y ≡ 0 → x ≡ y
xor_none x y e = sym (xor_zero_r x) ∙ (ap (bit_xor x) (sym e) ∙ xor_own x y)
