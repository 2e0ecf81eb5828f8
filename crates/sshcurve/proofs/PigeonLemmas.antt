-- The pigeonhole principle: a function that takes the numbers below n to different ones below n reaches each of these.

use Rattle.std.proofs.Common.{◌≡◌, ◌≢◌, ℕ, zero, suc, ◌<◌, cond, eqb, refl, sym, ◌∙◌, arith, eq-eqb, ne_eqb, ⊎_elim}
use Rattle.std.proofs.lemmas.Bool.{cases_eq}

-- `last` in place of n
abbrev moved : ℕ → ℕ → ℕ → ℕ
moved last n v = cond (eqb v n) last v

moved_same : (last n v : ℕ) → v ≡ n → moved last n v ≡ last
moved_same last n v e = rw (eq-eqb v n e) refl

moved_other : (last n v : ℕ) → v ≢ n → moved last n v ≡ v
moved_other last n v e = rw (ne_eqb v n e) refl

-- The function on the numbers below n, where what would be n is f n.
module _ (n : ℕ) (f : ℕ → ℕ) (low : (i : ℕ) → i < suc n → f i < suc n) (apart : (i j : ℕ) → i < suc n → j < suc n → f i ≡ f j → i ≡ j) where
  fewer : ℕ → ℕ
  fewer i = moved (f n) n (f i)

  fewer_low : (i : ℕ) → i < n → fewer i < n
  unfolding fewer
  fewer_low i k =
      ⊎_elim (λ (e : f i ≡ n).
      let s = moved_same (f n) n (f i) e in
      let ne : f n ≢ n = λ (b : f n ≡ n). (let c = apart i n (omega arith) (omega arith) (e ∙ sym b) in omega (arith, c)) in
      omega (arith, s, low n (omega arith), ne))
      (λ (e : f i ≢ n). let s = moved_other (f n) n (f i) e in omega (arith, s, low i (omega arith), e))
      (cases_eq (f i) n)

  fewer_apart : (i j : ℕ) → i < n → j < n → fewer i ≡ fewer j → i ≡ j
  unfolding fewer
  fewer_apart i j k l e =
      ⊎_elim (λ (a : f i ≡ n).
      ⊎_elim (λ (b : f j ≡ n). apart i j (omega arith) (omega arith) (a ∙ sym b))
      (λ (b : f j ≢ n). absurd (let c = apart n j (omega arith) (omega arith) (sym (moved_same (f n) n (f i) a) ∙ e ∙ moved_other (f n) n (f j) b) in omega (arith, c)))
      (cases_eq (f j) n))
      (λ (a : f i ≢ n).
      ⊎_elim (λ (b : f j ≡ n). absurd (let c = apart i n (omega arith) (omega arith) (sym (moved_other (f n) n (f i) a) ∙ e ∙ moved_same (f n) n (f j) b) in omega (arith, c)))
      (λ (b : f j ≢ n). apart i j (omega arith) (omega arith) (sym (moved_other (f n) n (f i) a) ∙ e ∙ moved_other (f n) n (f j) b))
      (cases_eq (f j) n))
      (cases_eq (f i) n)

  -- if the shorter function reaches each number below n, f reaches each up to n
  all_reached : ((v : ℕ) → v < n → (i : ℕ) × (i < n) × (fewer i ≡ v)) → (w : ℕ) → w < suc n → (i : ℕ) × (i < suc n) × (f i ≡ w)
  unfolding fewer
  all_reached found w h =
      ⊎_elim (λ (e : f n ≡ w). (n, omega arith, e)) (λ (ne : f n ≢ w).
      ⊎_elim (λ (top : w ≡ n).
      let some = found (f n) (omega (arith, low n (omega arith), ne, top)) in
      ⊎_elim (λ (e : f some.0 ≡ n). (some.0, omega (arith, some.1), e ∙ sym top))
      (λ (e : f some.0 ≢ n). absurd (let b = apart some.0 n (omega (arith, some.1)) (omega arith) (sym (moved_other (f n) n (f some.0) e) ∙ some.2) in omega (arith, b, some.1)))
      (cases_eq (f some.0) n))
      (λ (under : w ≢ n).
      let some = found w (omega arith) in
      ⊎_elim (λ (e : f some.0 ≡ n). absurd (ne (sym (moved_same (f n) n (f some.0) e) ∙ some.2)))
      (λ (e : f some.0 ≢ n). (some.0, omega (arith, some.1), sym (moved_other (f n) n (f some.0) e) ∙ some.2))
      (cases_eq (f some.0) n))
      (cases_eq w n))
      (cases_eq (f n) w)

pub surjective : (n : ℕ) (f : ℕ → ℕ) → ((i : ℕ) → i < n → f i < n) → ((i j : ℕ) → i < n → j < n → f i ≡ f j → i ≡ j) → (w : ℕ) → w < n → (i : ℕ) × (i < n) × (f i ≡ w)
surjective zero f low apart w h = absurd (omega arith)
surjective (suc n) f low apart w h =
    all_reached n f low apart (surjective n (fewer n f low apart) (fewer_low n f low apart) (fewer_apart n f low apart)) w h
