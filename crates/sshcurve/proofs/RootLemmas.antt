-- Square roots modulo 2^255 - 19, as RFC 8032 section 5.1.3 computes them: one is found for each square, and what is found is one.

use Rattle.std.proofs.Common.{◌≡◌, ◌≢◌, ℕ, ◌+◌, ◌-◌, ◌*◌, ◌%◌, ◌^◌, ◌<◌, ◌⊎◌, inl, inr, Bool, true, false, cond, eqb, [], ◌∷◌, refl, sym, ap, ap₂, ◌∙◌, arith, ⊎_elim, Option, Some, None, eq-eqb, ne_eqb}
use Rattle.std.proofs.Math.Nat.{mod-eq_of_lt}
use Rattle.std.proofs.lemmas.Nat.{mul-mod, pow-mod, pow-add}
use Rattle.std.proofs.lemmas.Bool.{cases_eq, eqb-true}
use Prim.{tt, Unit}
use Rattle.sshcurve.specs.Primes.{IsField}
use Rattle.sshpolynomials.specs.Polynomials.{Expr, given, var, num, ◌⊕◌, ◌⊖◌, ◌⊗◌}
use Rattle.sshcurve.specs.FieldNumbers.{field, minus, plus, power, times}
use Rattle.sshcurve.specs.DecodingNumbers.{root_number, root_of, root_of_quotient}
use Rattle.sshcurve.proofs.PrimeLemmas.{pow-two, power_of_power}
use Rattle.sshcurve.proofs.FieldLemmas.{is_field, minus_low, times_zero, plus_low, times_low, times_nonzero}
use Rattle.sshcurve.proofs.CurveLemmas.{deduced}

-- two numbers of one square are the same or opposite
pub two_roots : (a b : ℕ) → a < field → b < field → times a a ≡ times b b → (a ≡ b) ⊎ (a ≡ minus 0 b)
unfolding times plus minus
two_roots a b ha hb e =
    let none : times (minus a b) (plus a b) ≡ 0 = deduced ((var 0 ⊖ var 1) ⊗ (var 0 ⊕ var 1)) (num 0) (given (num 1) (var 0 ⊗ var 0) (var 1 ⊗ var 1) ∷ []) (a ∷ b ∷ []) (ha, (hb, tt)) (e, tt) refl in
    ⊎_elim (λ (z : minus a b ≡ 0). inl (deduced (var 0) (var 1) (given (num 1) (var 0 ⊖ var 1) (num 0) ∷ []) (a ∷ b ∷ []) (ha, (hb, tt)) (z, tt) refl))
    (λ (z : plus a b ≡ 0). inr (deduced (var 0) (num 0 ⊖ var 1) (given (num 1) (var 0 ⊕ var 1) (num 0) ∷ []) (a ∷ b ∷ []) (ha, (hb, tt)) (z, tt) refl))
    (times_zero (minus a b) (plus a b) (minus_low a b) (plus_low a b) none)

-- The powers by which a root is found, modulo any prime m = 8 k + 5.
module _ (m : ℕ) (is : IsField m) (k h w : ℕ) (whole : h + h ≡ m - 1) (part : k + k + (k + k) + 2 ≡ h) where
  root_power : (w * w % m) ^ k % m ≡ w ^ (k + k) % m
  root_power =
      let e : 2 * k ≡ k + k = omega arith in
      pow-mod (w * w) k m ∙ ap (λ (n : ℕ). n % m) (ap (λ (n : ℕ). n ^ k) (sym (pow-two w)) ∙ power_of_power w 2 k ∙ ap (λ (n : ℕ). w ^ n) e)

  half_power : w * w % m * (w ^ (k + k) % m * (w ^ (k + k) % m) % m) % m ≡ w ^ h % m
  half_power =
      let q : ℕ = w ^ (k + k) in
      let e : k + k + (k + k) + 2 ≡ h = part in
      ap (λ (n : ℕ). w * w % m * n % m) (sym (mul-mod q q m)) ∙ sym (mul-mod (w * w) (q * q) m)
      ∙ ap (λ (n : ℕ). n % m) (ap₂ (λ (a b : ℕ). a * b) (sym (pow-two w)) (sym (pow-add w (k + k) (k + k))) ∙ order_of (w ^ 2) (w ^ (k + k + (k + k))) ∙ sym (pow-add w (k + k + (k + k)) 2) ∙ ap (λ (n : ℕ). w ^ n) e)
    where
      order_of : (a b : ℕ) → a * b ≡ b * a
      order_of a b = omega arith

  one_square : w % m ≢ 0 → w ^ h % m * (w ^ h % m) % m ≡ 1
  one_square some =
      sym (mul-mod (w ^ h) (w ^ h) m) ∙ ap (λ (n : ℕ). n % m) (sym (pow-add w h h) ∙ ap (λ (n : ℕ). w ^ n) whole) ∙ is.fermat w some

abbrev eighth : ℕ
eighth = 7237005577332262213973186563042994240829374041602535252466099000494570602493

abbrev half : ℕ
half = 28948022309329048855892746252171976963317496166410141009864396001978282409974

-- The candidate for a root of u / v, where u is x^2 v.
module _ (x v : ℕ) (x_low : x < field) (v_low : v < field) (v_nonzero : v ≢ 0) where
  abbrev u : ℕ
  u = times (times x x) v

  abbrev cube : ℕ
  cube = times (times v v) v

  abbrev seventh : ℕ
  seventh = times (times cube cube) v

  abbrev w : ℕ
  w = times x (times cube v)

  abbrev candidate : ℕ
  candidate = times (times u cube) (power (times u seventh) eighth)

  power_is : power (times u seventh) eighth ≡ power w (eighth + eighth)
  unfolding times power
  power_is =
      let e : times u seventh ≡ times w w = deduced (var 0 ⊗ var 0 ⊗ var 1 ⊗ (var 1 ⊗ var 1 ⊗ var 1 ⊗ (var 1 ⊗ var 1 ⊗ var 1) ⊗ var 1))
      (var 0 ⊗ (var 1 ⊗ var 1 ⊗ var 1 ⊗ var 1) ⊗ (var 0 ⊗ (var 1 ⊗ var 1 ⊗ var 1 ⊗ var 1))) [] (x ∷ v ∷ []) (x_low, (v_low, tt)) tt refl in
      ap (λ (n : ℕ). n ^ eighth % field) e ∙ root_power field is_field eighth half w refl refl

  power_low : (n e : ℕ) → power n e < field
  unfolding power
  power_low n e = let h : n ^ e % field < field = omega arith in h

  square_is : times v (times candidate candidate) ≡ times u (power w half)
  unfolding times power
  square_is =
      let q : ℕ = power (times u seventh) eighth in
      let same : q ≡ power w (eighth + eighth) = power_is in
      let s : times (times w w) (times q q) ≡ power w half = ap (λ (n : ℕ). times (times w w) (times n n)) same ∙ half_power field is_field eighth half w refl refl in
      let vu : Expr = var 0 ⊗ var 0 ⊗ var 1 in
      let vcube : Expr = var 1 ⊗ var 1 ⊗ var 1 in
      let vw : Expr = var 0 ⊗ (vcube ⊗ var 1) in
      deduced (var 1 ⊗ (vu ⊗ vcube ⊗ var 2 ⊗ (vu ⊗ vcube ⊗ var 2))) (vu ⊗ var 3) (given vu (vw ⊗ vw ⊗ (var 2 ⊗ var 2)) (var 3) ∷ [])
      (x ∷ v ∷ q ∷ power w half ∷ []) (x_low, (v_low, (power_low (times u seventh) eighth, (power_low w half, tt)))) (s, tt) refl

  -- the candidate's square times v is u or its opposite
  either_sign : (times v (times candidate candidate) ≡ u) ⊎ (times v (times candidate candidate) ≡ minus 0 u)
  unfolding times minus power
  either_sign =
      let s : ℕ = power w half in
      ⊎_elim (λ (z : x ≡ 0). inl (square_is ∙ deduced (var 0 ⊗ var 0 ⊗ var 1 ⊗ var 2) (var 0 ⊗ var 0 ⊗ var 1) (given (var 0 ⊗ var 1 ⊗ var 2 ⊖ var 0 ⊗ var 1) (var 0) (num 0) ∷ [])
      (x ∷ v ∷ s ∷ []) (x_low, (v_low, (power_low w half, tt))) (z, tt) refl))
      (λ (some : x ≢ 0).
      let w_nonzero : w ≢ 0 = times_nonzero x (times cube v) x_low (times_low cube v) some
      (times_nonzero cube v (times_low (times v v) v) v_low (times_nonzero (times v v) v (times_low v v) v_low (times_nonzero v v v_low v_low v_nonzero v_nonzero) v_nonzero) v_nonzero) in
      let w_low : w < field = times_low x (times cube v) in
      let one : times s s ≡ times 1 1 = one_square field is_field eighth half w refl refl (λ (k : w % field ≡ 0). w_nonzero (sym (mod-eq_of_lt w_low) ∙ k)) in
      ⊎_elim (λ (k : s ≡ 1). inl (square_is ∙ deduced (var 0 ⊗ var 0 ⊗ var 1 ⊗ var 2) (var 0 ⊗ var 0 ⊗ var 1) (given (var 0 ⊗ var 0 ⊗ var 1) (var 2) (num 1) ∷ [])
      (x ∷ v ∷ s ∷ []) (x_low, (v_low, (power_low w half, tt))) (k, tt) refl))
      (λ (k : s ≡ minus 0 1). inr (square_is ∙ deduced (var 0 ⊗ var 0 ⊗ var 1 ⊗ var 2) (num 0 ⊖ var 0 ⊗ var 0 ⊗ var 1) (given (var 0 ⊗ var 0 ⊗ var 1) (var 2) (num 0 ⊖ num 1) ∷ [])
      (x ∷ v ∷ s ∷ []) (x_low, (v_low, (power_low w half, tt))) (k, tt) refl))
      (two_roots s 1 (power_low w half) (omega arith) one))
      (cases_eq x 0)

root_square_is : times root_number root_number ≡ minus 0 1
unfolding times minus
root_square_is = refl

-- a root is found
pub record IsRoot (u v : ℕ) (o : Option ℕ) : Type 0 where
  pub x : ℕ
  pub low : x < field
  pub found : o ≡ Some x
  pub is : times v (times x x) ≡ u

root_found : (u v x : ℕ) → u < field → v < field → x < field → (times v (times x x) ≡ u) ⊎ (times v (times x x) ≡ minus 0 u) → IsRoot u v (root_of u v x)
unfolding root_of times minus
root_found u v x hu hv hx e =
    ⊎_elim (λ (k : times v (times x x) ≡ u). record { x = x; low = hx; found = ap (λ (b : Bool). cond b (Some x) (second x)) (eq-eqb (times v (times x x)) u k); is = k })
    (λ (no : times v (times x x) ≢ u).
    let k : times v (times x x) ≡ minus 0 u = ⊎_elim (λ (n : times v (times x x) ≡ u). absurd (no n)) (λ (n : times v (times x x) ≡ minus 0 u). n) e in
    record {
      x = times x root_number;
      low = times_low x root_number;
      found = ap (λ (b : Bool). cond b (Some x) (second x)) (ne_eqb (times v (times x x)) u no)
          ∙ ap (λ (b : Bool). cond b (Some (times x root_number)) None) (eq-eqb (times v (times x x)) (minus 0 u) k);
      is = deduced (var 1 ⊗ (var 2 ⊗ var 3 ⊗ (var 2 ⊗ var 3))) (var 0)
          (given (var 3 ⊗ var 3) (var 1 ⊗ (var 2 ⊗ var 2)) (num 0 ⊖ var 0) ∷ given (num 0 ⊖ var 0) (var 3 ⊗ var 3) (num 0 ⊖ num 1) ∷ [])
          (u ∷ v ∷ x ∷ root_number ∷ []) (hu, (hv, (hx, (omega arith, tt)))) (k, (root_square_is, tt)) refl;
    })
    (cases_eq (times v (times x x)) u)
  where
    second : ℕ → Option ℕ
    second x = cond (eqb (times v (times x x)) (minus 0 u)) (Some (times x root_number)) None

pub quotient_found : (x v : ℕ) → x < field → v < field → v ≢ 0 → IsRoot (times (times x x) v) v (root_of_quotient (times (times x x) v) v)
unfolding root_of_quotient
quotient_found x v hx hv some =
    root_found (times (times x x) v) v (candidate x v hx hv some) (times_low (times x x) v) hv (times_low _ _) (either_sign x v hx hv some)

-- the number, if there is one, is a root of u / v
abbrev pub IsRootIn : ℕ → ℕ → Option ℕ → Type 0
IsRootIn u v None = Unit {0}
IsRootIn u v (Some x) = (x < field) × (times v (times x x) ≡ u)

-- what holds of both sides of a choice, each by its answer to the test, holds of the choice
pub by_cases : {A : Type 0} (P : A → Type 0) (b : Bool) (x y : A) → (b ≡ true → P x) → (b ≡ false → P y) → P (cond b x y)
by_cases P true x y f g = f refl
by_cases P false x y f g = g refl

root_of_is : (u v x : ℕ) → u < field → v < field → x < field → IsRootIn u v (root_of u v x)
unfolding root_of times minus
root_of_is u v x hu hv hx =
    by_cases (IsRootIn u v) (eqb (times v (times x x)) u) (Some x) (cond (eqb (times v (times x x)) (minus 0 u)) (Some (times x root_number)) None)
    (λ (e : eqb (times v (times x x)) u ≡ true). (hx, eqb-true (times v (times x x)) u e))
    (λ _. by_cases (IsRootIn u v) (eqb (times v (times x x)) (minus 0 u)) (Some (times x root_number)) None
    (λ (e : eqb (times v (times x x)) (minus 0 u) ≡ true). (
      times_low x root_number,
      deduced (var 1 ⊗ (var 2 ⊗ var 3 ⊗ (var 2 ⊗ var 3))) (var 0)
          (given (var 3 ⊗ var 3) (var 1 ⊗ (var 2 ⊗ var 2)) (num 0 ⊖ var 0) ∷ given (num 0 ⊖ var 0) (var 3 ⊗ var 3) (num 0 ⊖ num 1) ∷ [])
          (u ∷ v ∷ x ∷ root_number ∷ []) (hu, (hv, (hx, (omega arith, tt)))) (eqb-true (times v (times x x)) (minus 0 u) e, (root_square_is, tt)) refl,
    ))
    (λ _. tt))

pub quotient_is : (u v : ℕ) → u < field → v < field → IsRootIn u v (root_of_quotient u v)
unfolding root_of_quotient
quotient_is u v hu hv = root_of_is u v _ hu hv (times_low _ _)
