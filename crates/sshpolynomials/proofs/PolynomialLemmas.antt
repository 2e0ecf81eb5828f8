-- Computing with polynomials is computing with their numbers, modulo m.

use Rattle.std.proofs.Common.{◌≡◌, ℕ, zero, suc, ◌+◌, ◌-◌, ◌*◌, ◌%◌, ◌<◌, ◌≤◌, true, List, [], ◌∷◌, refl, sym, ap, ap₂, ◌∙◌, arith, eqb-true, mod-lt, ⊎_elim}
use Rattle.std.proofs.Math.Nat.{mod-mod, add-mod, mod-eq_of_lt, mod_self, add-mul-mod_self_right, add-mod_right, mul-zero, zero-mod}
use Rattle.std.proofs.lemmas.Nat.{mul-mod}
use Rattle.std.proofs.lemmas.Bool.{and_parts, cases_lt}
use Rattle.sshpolynomials.specs.Polynomials.{AreLow, Expr, Poly, var, num, ◌⊕◌, ◌⊖◌, ◌⊗◌, con, horn, at, first, rest, number, poly_value, pruned, all_scaled, scaled, with_constant, poly_sum, along, poly_product, poly_var, poly_of, is_none, Given, given, AllHold, combined}

-- the same modulo m
abbrev pub Same : ℕ → ℕ → ℕ → Type 0
Same m a b = a % m ≡ b % m

pub sums : (m a b c d : ℕ) → Same m a b → Same m c d → Same m (a + c) (b + d)
sums m a b c d e f = add-mod a c m ∙ ap₂ (λ (x y : ℕ). (x + y) % m) e f ∙ sym (add-mod b d m)

pub products : (m a b c d : ℕ) → Same m a b → Same m c d → Same m (a * c) (b * d)
products m a b c d e f = mul-mod a c m ∙ ap₂ (λ (x y : ℕ). x * y % m) e f ∙ sym (mul-mod b d m)

pub by : (m a b : ℕ) → a ≡ b → Same m a b
by m a b e = ap (λ (n : ℕ). n % m) e

pruned_is : (p q : Poly) (xs : List ℕ) → poly_value (pruned p q) xs ≡ poly_value (horn p q) xs
pruned_is (con a) (con zero) xs = omega arith
pruned_is (con a) (con (suc c)) xs = refl
pruned_is (con a) (horn r s) xs = refl
pruned_is (horn p q) r xs = refl

module _ (m : ℕ) where
  all_scaled_is : (c : ℕ) (p : Poly) (xs : List ℕ) → Same m (poly_value (all_scaled m c p) xs) (c * poly_value p xs)
  all_scaled_is c (con a) xs = mod-mod (c * a) m
  all_scaled_is c (horn p q) xs =
      let x : ℕ = first xs in
      let u : ℕ = poly_value p (rest xs) in
      let v : ℕ = poly_value q xs in
      let e : c * u + x * (c * v) ≡ c * (u + x * v) = omega arith in
      by m _ _ (pruned_is (all_scaled m c p) (all_scaled m c q) xs)
      ∙ sums m _ (c * u) _ (x * (c * v)) (all_scaled_is c p (rest xs)) (products m x x _ (c * v) refl (all_scaled_is c q xs)) ∙ by m _ _ e

  pub scaled_is : (c : ℕ) (p : Poly) (xs : List ℕ) → Same m (poly_value (scaled m c p) xs) (c * poly_value p xs)
  scaled_is zero p xs = let e : 0 ≡ 0 * poly_value p xs = omega arith in by m _ _ e
  scaled_is (suc c) p xs = all_scaled_is (suc c) p xs

  pub with_constant_is : (c : ℕ) (p : Poly) (xs : List ℕ) → Same m (poly_value (with_constant m c p) xs) (c + poly_value p xs)
  with_constant_is c (con a) xs = mod-mod (c + a) m
  with_constant_is c (horn p q) xs =
      let u : ℕ = poly_value p (rest xs) in
      let v : ℕ = first xs * poly_value q xs in
      let e : c + u + v ≡ c + (u + v) = omega arith in
      sums m _ (c + u) v v (with_constant_is c p (rest xs)) refl ∙ by m _ _ e

  pub sum_is : (p q : Poly) (xs : List ℕ) → Same m (poly_value (poly_sum m p q) xs) (poly_value p xs + poly_value q xs)
  sum_is (con zero) q xs = let e : poly_value q xs ≡ 0 + poly_value q xs = omega arith in by m _ _ e
  sum_is (con (suc a)) q xs = with_constant_is (suc a) q xs
  sum_is (horn p q) (con zero) xs =
      let e : poly_value (horn p q) xs ≡ poly_value (horn p q) xs + 0 = omega arith in by m _ _ e
  sum_is (horn p q) (con (suc b)) xs =
      let e : suc b + poly_value (horn p q) xs ≡ poly_value (horn p q) xs + suc b = omega arith in
      with_constant_is (suc b) (horn p q) xs ∙ by m _ _ e
  sum_is (horn p q) (horn r s) xs =
      let x : ℕ = first xs in
      let a : ℕ = poly_value p (rest xs) in
      let b : ℕ = poly_value r (rest xs) in
      let c : ℕ = poly_value q xs in
      let d : ℕ = poly_value s xs in
      let e : a + b + x * (c + d) ≡ a + x * c + (b + x * d) = omega arith in
      by m _ _ (pruned_is (poly_sum m p r) (poly_sum m q s) xs)
      ∙ sums m _ (a + b) _ (x * (c + d)) (sum_is p r (rest xs)) (products m x x _ (c + d) refl (sum_is q s xs)) ∙ by m _ _ e

  along_is : (f : Poly → Poly) (n : ℕ) (r : Poly) (xs : List ℕ) → ((p : Poly) → Same m (poly_value (f p) (rest xs)) (n * poly_value p (rest xs)))
      → Same m (poly_value (along f r) xs) (n * poly_value r xs)
  along_is f n (con b) xs h =
      let e : poly_value (f (con b)) (rest xs) + first xs * 0 ≡ poly_value (f (con b)) (rest xs) = omega arith in
      by m _ _ (pruned_is (f (con b)) (con 0) xs ∙ e) ∙ h (con b)
  along_is f n (horn r s) xs h =
      let x : ℕ = first xs in
      let a : ℕ = poly_value r (rest xs) in
      let b : ℕ = poly_value s xs in
      let e : n * a + x * (n * b) ≡ n * (a + x * b) = omega arith in
      by m _ _ (pruned_is (f r) (along f s) xs)
      ∙ sums m _ (n * a) _ (x * (n * b)) (h r) (products m x x _ (n * b) refl (along_is f n s xs h)) ∙ by m _ _ e

  pub product_is : (p q : Poly) (xs : List ℕ) → Same m (poly_value (poly_product m p q) xs) (poly_value p xs * poly_value q xs)
  product_is (con a) r xs = scaled_is a r xs
  product_is (horn p q) r xs =
      let x : ℕ = first xs in
      let a : ℕ = poly_value p (rest xs) in
      let b : ℕ = poly_value q xs in
      let c : ℕ = poly_value r xs in
      let e : a * c + (0 + x * (b * c)) ≡ (a + x * b) * c = omega arith in
      sum_is (along (poly_product m p) r) (pruned (con 0) (poly_product m q r)) xs
      ∙ sums m _ (a * c) _ (0 + x * (b * c)) (along_is (poly_product m p) a r xs (λ t. product_is p t (rest xs)))
      (by m _ _ (pruned_is (con 0) (poly_product m q r) xs) ∙ sums m 0 0 _ (x * (b * c)) refl (products m x x _ (b * c) refl (product_is q r xs)))
      ∙ by m _ _ e

  var_is : (i : ℕ) (xs : List ℕ) → poly_value (poly_var i) xs ≡ at xs i
  var_is zero [] = refl
  var_is zero (x ∷ xs) = omega arith
  var_is (suc i) [] = ap (λ (n : ℕ). n + 0) (var_is i []) ∙ refl
  var_is (suc i) (x ∷ xs) = let h = var_is i xs in omega (arith, h)

  pub low : (e : Expr) (xs : List ℕ) → AreLow m xs → 0 < m → number m xs e < m
  low (var i) xs h k = h i
  low (num c) xs h k = mod-lt c k
  low (a ⊕ b) xs h k = mod-lt (number m xs a + number m xs b) k
  low (a ⊖ b) xs h k = mod-lt (number m xs a + m - number m xs b) k
  low (a ⊗ b) xs h k = mod-lt (number m xs a * number m xs b) k

  difference : (a b : ℕ) → b < m → Same m (a + m - b) (a + (m - 1) * b)
  difference a b h = one (m - 1) a b (omega arith) h
    where
      one : (k a b : ℕ) → m ≡ suc k → b < m → Same m (a + m - b) (a + k * b)
      one k a b e h =
          let f : a + m - b + b * m ≡ a + k * b + m = omega (arith, ap (λ (n : ℕ). b * n) e) in
          sym (add-mul-mod_self_right (a + m - b) b m) ∙ by m _ _ f ∙ add-mod_right (a + k * b) m

  pub poly_is : (e : Expr) (xs : List ℕ) → AreLow m xs → 0 < m → Same m (poly_value (poly_of m e) xs) (number m xs e)
  poly_is (var i) xs h k = by m _ _ (var_is i xs)
  poly_is (num c) xs h k = refl
  poly_is (a ⊕ b) xs h k =
      sum_is (poly_of m a) (poly_of m b) xs ∙ sums m _ _ _ _ (poly_is a xs h k) (poly_is b xs h k) ∙ sym (mod-mod (number m xs a + number m xs b) m)
  poly_is (a ⊖ b) xs h k =
      sum_is (poly_of m a) (scaled m (m - 1) (poly_of m b)) xs
      ∙ sums m _ (number m xs a) _ ((m - 1) * number m xs b) (poly_is a xs h k) (scaled_is (m - 1) (poly_of m b) xs ∙ products m (m - 1) (m - 1) _ (number m xs b) refl (poly_is b xs h k))
      ∙ sym (difference (number m xs a) (number m xs b) (low b xs h k)) ∙ sym (mod-mod (number m xs a + m - number m xs b) m)
  poly_is (a ⊗ b) xs h k =
      product_is (poly_of m a) (poly_of m b) xs ∙ products m _ _ _ _ (poly_is a xs h k) (poly_is b xs h k) ∙ sym (mod-mod (number m xs a * number m xs b) m)

  none_is : (p : Poly) (xs : List ℕ) → is_none p ≡ true → poly_value p xs ≡ 0
  none_is (con c) xs h = eqb-true c 0 h
  none_is (horn p q) xs h =
      let parts = and_parts (is_none p) (is_none q) h in
      let e = none_is p (rest xs) parts.0 in
      let f = none_is q xs parts.1 in
      ap₂ (λ (a b : ℕ). a + first xs * b) e f ∙ omega arith

  -- an expression whose polynomial is none is 0
  pub zero_is : (e : Expr) (xs : List ℕ) → AreLow m xs → 0 < m → is_none (poly_of m e) ≡ true → number m xs e ≡ 0
  zero_is e xs h k is = sym (mod-eq_of_lt (low e xs h k)) ∙ sym (poly_is e xs h k) ∙ by m _ _ (none_is (poly_of m e) xs is) ∙ mod-eq_of_lt k

  -- two expressions whose difference is 0 are the same
  equal : (a b : ℕ) → a < m → b < m → (a + m - b) % m ≡ 0 → a ≡ b
  equal a b h k e =
      ⊎_elim (λ (l : a < b). absurd (let f : (a + m - b) % m ≡ a + m - b = mod-eq_of_lt (omega arith) in omega (arith, f)))
      (λ (l : b ≤ a).
      let f : a + m - b ≡ a - b + m = omega arith in
      let g : (a - b + m) % m ≡ a - b = add-mod_right (a - b) m ∙ mod-eq_of_lt (omega arith) in
      let z : a - b ≡ 0 = sym g ∙ by m _ _ (sym f) ∙ e in omega (arith, z, l))
      (cases_lt a b)

  -- What is 0 by facts that are given: each of them is an equation, and the cofactor that it is taken with.
  pub all_zero : (gs : List Given) (xs : List ℕ) → 0 < m → AllHold m xs gs → number m xs (combined gs) ≡ 0
  all_zero [] xs k h = mod-eq_of_lt k
  all_zero (given c l r ∷ gs) xs k h =
      let rest = all_zero gs xs k h.1 in
      let a : ℕ = number m xs c in
      let y : ℕ = number m xs r in
      let d : ℕ = (number m xs l + m - number m xs r) % m in
      let g : y + m - y ≡ m = omega arith in
      let none : d ≡ 0 = ap (λ (u : ℕ). (u + m - y) % m) h.0 ∙ by m _ _ g ∙ mod_self m in
      ap₂ (λ (u v : ℕ). (a * u % m + v) % m) none rest ∙ ap (λ (u : ℕ). (u % m + 0) % m) (mul-zero a) ∙ ap (λ (u : ℕ). (u + 0) % m) (zero-mod m) ∙ zero-mod m

  -- an equation follows from others, by computing with polynomials
  pub follows : (a b : Expr) (gs : List Given) (xs : List ℕ) → AreLow m xs → 0 < m → AllHold m xs gs → is_none (poly_of m (a ⊖ b ⊖ combined gs)) ≡ true → number m xs a ≡ number m xs b
  follows a b gs xs h k all is =
      let none = all_zero gs xs k all in
      let e = zero_is (a ⊖ b ⊖ combined gs) xs h k is in
      let s : ℕ = number m xs a + m - number m xs b in
      let f : s % m + m ≡ s % m + m - number m xs (combined gs) = omega (arith, none) in
      equal _ _ (low a xs h k) (low b xs h k) (sym (mod-mod s m) ∙ sym (add-mod_right (s % m) m) ∙ by m _ _ f ∙ e)
