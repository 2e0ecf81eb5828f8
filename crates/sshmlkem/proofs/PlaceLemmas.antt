-- The places of the 128 pairs of a layer: they are apart, and each place is one of a pair.

use Rattle.std.proofs.Common.{◌≡◌, ℕ, zero, suc, ◌+◌, ◌*◌, ◌/◌, ◌%◌, ◌^◌, ◌<◌, ◌≤◌, arith, ⊎_elim, subst}
use Rattle.std.proofs.lemmas.Bool.{cases_lt}
use Rattle.sshmlkem.proofs.LoopLemmas.{Apart}
use Rattle.sshmlkem.specs.Ntt.{place}

-- the second place of a pair
abbrev pub partner : ℕ → ℕ → ℕ
partner s k = place s k + 2 ^ s

pub apart : (s : ℕ) → 1 ≤ s → s ≤ 7 → Apart (place s) (partner s)
unfolding place
apart zero h l = absurd (omega arith)
apart (suc zero) h l = record { first = λ a b x y e. omega (arith, e); second = λ a b x y e. omega (arith, e); both = λ a b x y e. omega (arith, e) }
apart (suc (suc zero)) h l = record { first = λ a b x y e. omega (arith, e); second = λ a b x y e. omega (arith, e); both = λ a b x y e. omega (arith, e) }
apart (suc (suc (suc zero))) h l = record { first = λ a b x y e. omega (arith, e); second = λ a b x y e. omega (arith, e); both = λ a b x y e. omega (arith, e) }
apart (suc (suc (suc (suc zero)))) h l = record { first = λ a b x y e. omega (arith, e); second = λ a b x y e. omega (arith, e); both = λ a b x y e. omega (arith, e) }
apart (suc (suc (suc (suc (suc zero))))) h l = record { first = λ a b x y e. omega (arith, e); second = λ a b x y e. omega (arith, e); both = λ a b x y e. omega (arith, e) }
apart (suc (suc (suc (suc (suc (suc zero)))))) h l = record { first = λ a b x y e. omega (arith, e); second = λ a b x y e. omega (arith, e); both = λ a b x y e. omega (arith, e) }
apart (suc (suc (suc (suc (suc (suc (suc zero))))))) h l = record { first = λ a b x y e. omega (arith, e, x, y); second = λ a b x y e. omega (arith, e, x, y); both = λ a b x y e. omega (arith, e, x, y) }
apart (suc (suc (suc (suc (suc (suc (suc (suc s)))))))) h l = absurd (omega arith)

pub below : (s k : ℕ) → 1 ≤ s → s ≤ 7 → k < 128 → partner s k < 256
unfolding place
below zero k low high h = absurd (omega arith)
below (suc zero) k low high h = omega arith
below (suc (suc zero)) k low high h = omega arith
below (suc (suc (suc zero))) k low high h = omega arith
below (suc (suc (suc (suc zero)))) k low high h = omega arith
below (suc (suc (suc (suc (suc zero))))) k low high h = omega arith
below (suc (suc (suc (suc (suc (suc zero)))))) k low high h = omega arith
below (suc (suc (suc (suc (suc (suc (suc zero))))))) k low high h = omega arith
below (suc (suc (suc (suc (suc (suc (suc (suc s)))))))) k low high h = absurd (omega arith)

-- each place is one of a pair
pair_of : ℕ → ℕ → ℕ
pair_of m x = x / (2 * m) * m + x % m

data IsPlace (s x : ℕ) : Type 0 where
  at_first : (k : ℕ) → k < 128 → place s k ≡ x → IsPlace s x
  at_second : (k : ℕ) → k < 128 → partner s k ≡ x → IsPlace s x

placed : (s m x : ℕ) → ((h : x / m % 2 < 1) → pair_of m x < 128) → ((h : x / m % 2 < 1) → place s (pair_of m x) ≡ x) → ((h : 1 ≤ x / m % 2) → pair_of m x < 128)
    → ((h : 1 ≤ x / m % 2) → partner s (pair_of m x) ≡ x) → IsPlace s x
placed s m x a b c d = ⊎_elim (λ (h : x / m % 2 < 1). at_first (pair_of m x) (a h) (b h)) (λ (h : 1 ≤ x / m % 2). at_second (pair_of m x) (c h) (d h)) (cases_lt (x / m % 2) 1)

place_of : (s x : ℕ) → 1 ≤ s → s ≤ 7 → x < 256 → IsPlace s x
unfolding place pair_of
place_of zero x low high l = absurd (omega arith)
place_of (suc zero) x low high l = placed 1 2 x (λ h. omega (arith, h, l)) (λ h. omega (arith, h, l)) (λ h. omega (arith, h, l)) (λ h. omega (arith, h, l))
place_of (suc (suc zero)) x low high l = placed 2 4 x (λ h. omega (arith, h, l)) (λ h. omega (arith, h, l)) (λ h. omega (arith, h, l)) (λ h. omega (arith, h, l))
place_of (suc (suc (suc zero))) x low high l = placed 3 8 x (λ h. omega (arith, h, l)) (λ h. omega (arith, h, l)) (λ h. omega (arith, h, l)) (λ h. omega (arith, h, l))
place_of (suc (suc (suc (suc zero)))) x low high l = placed 4 16 x (λ h. omega (arith, h, l)) (λ h. omega (arith, h, l)) (λ h. omega (arith, h, l)) (λ h. omega (arith, h, l))
place_of (suc (suc (suc (suc (suc zero))))) x low high l = placed 5 32 x (λ h. omega (arith, h, l)) (λ h. omega (arith, h, l)) (λ h. omega (arith, h, l)) (λ h. omega (arith, h, l))
place_of (suc (suc (suc (suc (suc (suc zero)))))) x low high l = placed 6 64 x (λ h. omega (arith, h, l)) (λ h. omega (arith, h, l)) (λ h. omega (arith, h, l)) (λ h. omega (arith, h, l))
place_of (suc (suc (suc (suc (suc (suc (suc zero))))))) x low high l = placed 7 128 x (λ h. omega (arith, h, l)) (λ h. omega (arith, h, l)) (λ h. omega (arith, h, l)) (λ h. omega (arith, h, l))
place_of (suc (suc (suc (suc (suc (suc (suc (suc s)))))))) x low high l = absurd (omega arith)

-- what holds at both places of each pair, holds at each place
pub by_pairs : (s : ℕ) → 1 ≤ s → s ≤ 7 → (P : ℕ → Type 0) → ((k : ℕ) → k < 128 → P (place s k)) → ((k : ℕ) → k < 128 → P (partner s k)) → (x : ℕ) → x < 256 → P x
by_pairs s low high P a b x h = go (place_of s x low high h)
  where
    go : IsPlace s x → P x
    go (at_first k l e) = subst P e (a k l)
    go (at_second k l e) = subst P e (b k l)
