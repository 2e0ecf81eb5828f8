-- The encoding of a point decodes to this point (RFC 8032 sections 5.1.2 and 5.1.3).

use Rattle.std.proofs.Common.{◌≡◌, ◌≢◌, ℕ, ◌+◌, ◌*◌, ◌/◌, ◌%◌, ◌^◌, ◌<◌, ◌⊎◌, Bool, true, false, cond, eqb, ltb, ◌&&◌, List, length, [], ◌∷◌, refl, sym, ap, ap₂, ◌∙◌, arith, ⊎_elim, slice_index, slice_set, get_or-set_same, get_or-set_other, Option, Some, None, eq-eqb, ne_eqb, lt-ltb}
use Rattle.std.proofs.lemmas.Nat.{from_le_bytes-to_le_bytes_8}
use Rattle.std.proofs.lemmas.Bool.{cases_eq}
use Rattle.std.specs.Int.{w64, from_le_bytes, to_le_bytes}
use Prim.{tt}
use Rattle.sshcurve.specs.Bits.{bytes_of_words, number_of_32, word_at}
use Rattle.sshpolynomials.specs.Polynomials.{given, var, num, ◌⊕◌, ◌⊖◌, ◌⊗◌}
use Rattle.sshcurve.specs.FieldBytes.{bytes_of_number}
use Rattle.sshcurve.specs.FieldNumbers.{field, minus, plus, times}
use Rattle.sshcurve.specs.Curve.{Affine, OnCurve, curve_d}
use Rattle.sshcurve.specs.EdwardsNumbers.{Coordinates, bytes_of_point, d_number, with_sign}
use Rattle.sshcurve.specs.DecodingNumbers.{point_in, root_of_quotient, with_root, with_x}
use Rattle.sshcurve.proofs.FieldLemmas.{plus_low, times_low}
use Rattle.sshcurve.proofs.CurveLemmas.{deduced, d_low}
use Rattle.sshcurve.proofs.GroupLemmas.{cancelled}
use Rattle.sshcurve.specs.Represents.{Represents}
use Rattle.sshcurve.proofs.CoordinateLemmas.{affine_x, affine_y}
use Rattle.sshcurve.proofs.RootLemmas.{IsRoot, quotient_found, two_roots}

-- The lowest bit tells x from -x: one is odd, and one is even.
opposite_other : (x : ℕ) → x < field → x ≢ 0 → minus 0 x % 2 ≢ x % 2
unfolding minus
opposite_other x low some e = omega (arith, e, low, some)

opposite_twice : (x : ℕ) → x < field → minus 0 (minus 0 x) ≡ x
unfolding minus
opposite_twice x low = deduced (num 0 ⊖ (num 0 ⊖ var 0)) (var 0) [] (x ∷ []) (low, tt) tt refl

zero_opposite : minus 0 0 ≡ 0
unfolding minus
zero_opposite = refl

both_false : (b : Bool) → (b && false) ≡ false
both_false true = refl
both_false false = refl

abbrev pub found_point : ℕ → ℕ → Coordinates
found_point x y = record { x = x; y = y; z = 1; t = times x y }

sign_found : (r x y : ℕ) → r < field → x < field → (r ≡ x) ⊎ (r ≡ minus 0 x) → with_x r y (x % 2) ≡ Some (found_point x y)
unfolding with_x
sign_found r x y hr hx e =
    ap (λ (b : Bool). cond b None (Some (found_point (cond (eqb (r % 2) (x % 2)) r (minus 0 r)) y))) guard
    ∙ ap (λ (k : ℕ). Some (found_point k y)) chosen
  where
    minus_zero : minus 0 0 ≡ 0
    minus_zero = zero_opposite

    x_is_zero : r ≡ 0 → x ≡ 0
    x_is_zero z = ⊎_elim (λ (k : r ≡ x). sym k ∙ z) (λ (k : r ≡ minus 0 x). sym (opposite_twice x hx) ∙ ap (minus 0) (sym k ∙ z) ∙ minus_zero) e

    guard : (eqb (x % 2) 1 && eqb r 0) ≡ false
    guard =
        ⊎_elim (λ (z : r ≡ 0). let odd : x % 2 ≢ 1 = λ (k : x % 2 ≡ 1). (let n = x_is_zero z in omega (arith, n, k)) in ap (λ (b : Bool). b && eqb r 0) (ne_eqb (x % 2) 1 odd))
        (λ (z : r ≢ 0). ap (λ (b : Bool). eqb (x % 2) 1 && b) (ne_eqb r 0 z) ∙ both_false (eqb (x % 2) 1)) (cases_eq r 0)

    chosen : cond (eqb (r % 2) (x % 2)) r (minus 0 r) ≡ x
    chosen =
        ⊎_elim (λ (k : r ≡ x). ap (λ (b : Bool). cond b r (minus 0 r)) (eq-eqb (r % 2) (x % 2) (ap (λ (n : ℕ). n % 2) k)) ∙ k)
        (λ (k : r ≡ minus 0 x).
        ⊎_elim (λ (z : x ≡ 0).
        let r_zero : r ≡ x = k ∙ ap (minus 0) z ∙ minus_zero ∙ sym z in
        ap (λ (b : Bool). cond b r (minus 0 r)) (eq-eqb (r % 2) (x % 2) (ap (λ (n : ℕ). n % 2) r_zero)) ∙ r_zero)
        (λ (some : x ≢ 0).
        ap (λ (b : Bool). cond b r (minus 0 r)) (ne_eqb (r % 2) (x % 2) (λ (s : r % 2 ≡ x % 2). opposite_other x hx some (ap (λ (n : ℕ). n % 2) (sym k) ∙ s)))
        ∙ ap (minus 0) k ∙ opposite_twice x hx)
        (cases_eq x 0))
        e

-- The bytes of a point.
words_of : (bytes : List ℕ) (v : ℕ) (i : ℕ) → i + 7 < 31 → word_at (slice_set bytes 31 v) i ≡ word_at bytes i
unfolding word_at
words_of bytes v i h =
    same_eight (kept i (omega arith)) (kept (i + 1) (omega arith)) (kept (i + 2) (omega arith)) (kept (i + 3) (omega arith))
    (kept (i + 4) (omega arith)) (kept (i + 5) (omega arith)) (kept (i + 6) (omega arith)) (kept (i + 7) (omega arith))
  where
    kept : (j : ℕ) → j < 31 → slice_index (slice_set bytes 31 v) j ≡ slice_index bytes j
    kept j k = get_or-set_other bytes 31 j v 0 (λ (e : j ≡ 31). omega (arith, e, k))

    same_eight : {a b c d e f g h i j k l m n o p : ℕ} → a ≡ i → b ≡ j → c ≡ k → d ≡ l → e ≡ m → f ≡ n → g ≡ o → h ≡ p
        → from_le_bytes w64 (a ∷ b ∷ c ∷ d ∷ e ∷ f ∷ g ∷ h ∷ []) ≡ from_le_bytes w64 (i ∷ j ∷ k ∷ l ∷ m ∷ n ∷ o ∷ p ∷ [])
    same_eight ea eb ec ed ee ef eg eh = rw (ea, eb, ec, ed, ee, ef, eg, eh) refl

last_word : (bytes : List ℕ) (v : ℕ) → length bytes ≡ 32 → word_at (slice_set bytes 31 v) 24 + slice_index bytes 31 * 2 ^ 56 ≡ word_at bytes 24 + v * 2 ^ 56
unfolding word_at
last_word bytes v long =
    let e0 = kept 24 (omega arith) in
    let e1 = kept 25 (omega arith) in
    let e2 = kept 26 (omega arith) in
    let e3 = kept 27 (omega arith) in
    let e4 = kept 28 (omega arith) in
    let e5 = kept 29 (omega arith) in
    let e6 = kept 30 (omega arith) in
    let e7 : slice_index (slice_set bytes 31 v) 31 ≡ v = get_or-set_same bytes 31 v 0 (omega (arith, long)) in
    omega (arith, e0, e1, e2, e3, e4, e5, e6, e7)
  where
    kept : (j : ℕ) → j < 31 → slice_index (slice_set bytes 31 v) j ≡ slice_index bytes j
    kept j k = get_or-set_other bytes 31 j v 0 (λ (e : j ≡ 31). omega (arith, e, k))

number_with : (bytes : List ℕ) (v : ℕ) → length bytes ≡ 32 → number_of_32 (slice_set bytes 31 v) + slice_index bytes 31 * 2 ^ 248 ≡ number_of_32 bytes + v * 2 ^ 248
unfolding number_of_32
number_with bytes v long =
    let e0 = words_of bytes v 0 (omega arith) in
    let e1 = words_of bytes v 8 (omega arith) in
    let e2 = words_of bytes v 16 (omega arith) in
    let e3 = last_word bytes v long in
    omega (arith, e0, e1, e2, e3)

pub number_back : (n : ℕ) → n < 2 ^ 256 → number_of_32 (bytes_of_number n) ≡ n
unfolding number_of_32 word_at bytes_of_number bytes_of_words
number_back n h =
    let e0 : from_le_bytes w64 (to_le_bytes w64 (n % 2 ^ 64)) ≡ n % 2 ^ 64 = from_le_bytes-to_le_bytes_8 (n % 2 ^ 64) (omega arith) in
    let e1 : from_le_bytes w64 (to_le_bytes w64 (n / 2 ^ 64 % 2 ^ 64)) ≡ n / 2 ^ 64 % 2 ^ 64 = from_le_bytes-to_le_bytes_8 (n / 2 ^ 64 % 2 ^ 64) (omega arith) in
    let e2 : from_le_bytes w64 (to_le_bytes w64 (n / 2 ^ 128 % 2 ^ 64)) ≡ n / 2 ^ 128 % 2 ^ 64 = from_le_bytes-to_le_bytes_8 (n / 2 ^ 128 % 2 ^ 64) (omega arith) in
    let e3 : from_le_bytes w64 (to_le_bytes w64 (n / 2 ^ 192)) ≡ n / 2 ^ 192 = from_le_bytes-to_le_bytes_8 (n / 2 ^ 192) (omega arith) in
    ap₂ ◌+◌ (ap₂ ◌+◌ (ap₂ ◌+◌ e0 (ap (λ (k : ℕ). 2 ^ 64 * k) e1)) (ap (λ (k : ℕ). 2 ^ 128 * k) e2)) (ap (λ (k : ℕ). 2 ^ 192 * k) e3)
    ∙ together n
  where
    together : (n : ℕ) → n % 2 ^ 64 + 2 ^ 64 * (n / 2 ^ 64 % 2 ^ 64) + 2 ^ 128 * (n / 2 ^ 128 % 2 ^ 64) + 2 ^ 192 * (n / 2 ^ 192) ≡ n
    together n = omega arith

pub length_bytes : (n : ℕ) → length (bytes_of_number n) ≡ 32
unfolding bytes_of_number bytes_of_words
length_bytes n = refl

lowest_bit : (n : ℕ) → slice_index (bytes_of_number n) 0 % 2 ≡ n % 2
unfolding bytes_of_number bytes_of_words
lowest_bit n = omega arith

highest_byte : (n : ℕ) → n < 2 ^ 255 → slice_index (bytes_of_number n) 31 < 128
unfolding bytes_of_number bytes_of_words
highest_byte n h = omega arith

-- of the encoding, y and the lowest bit of x are read
sign_read : (x y : ℕ) → y < 2 ^ 255 → slice_index (with_sign (bytes_of_number x) (bytes_of_number y)) 31 / 128 ≡ x % 2
unfolding with_sign
sign_read x y h =
    let e = get_or-set_same (bytes_of_number y) 31 (slice_index (bytes_of_number y) 31 % 128 + slice_index (bytes_of_number x) 0 % 2 * 128) 0 (let l = length_bytes y in omega (arith, l)) in
    let f = lowest_bit x in
    ap (λ (k : ℕ). k / 128) e ∙ (let g : (slice_index (bytes_of_number y) 31 % 128 + slice_index (bytes_of_number x) 0 % 2 * 128) / 128 ≡ x % 2 = omega (arith, f) in g)

y_read : (x y : ℕ) → y < 2 ^ 255 → number_of_32 (with_sign (bytes_of_number x) (bytes_of_number y)) % 2 ^ 255 ≡ y
unfolding with_sign
y_read x y h =
    let bytes : List ℕ = bytes_of_number y in
    let bit : ℕ = slice_index (bytes_of_number x) 0 % 2 in
    let top : ℕ = slice_index bytes 31 in
    let low : top < 128 = highest_byte y h in
    let e = number_with bytes (top % 128 + bit * 128) (length_bytes y) in
    let f = number_back y (omega arith) in
    let g : bit < 2 = omega arith in
    together (number_of_32 (slice_set bytes 31 (top % 128 + bit * 128))) top bit y low g h (omega (arith, e, f))
  where
    together : (n top bit y : ℕ) → top < 128 → bit < 2 → y < 2 ^ 255 → n + top * 2 ^ 248 ≡ y + (top % 128 + bit * 128) * 2 ^ 248 → n % 2 ^ 255 ≡ y
    together n top bit y a b c e = omega (arith, e)

-- 1 + d y^2 isn't 0
denominator_nonzero : (p : Affine) → OnCurve p → plus (times d_number (times p.y p.y)) 1 ≢ 0
unfolding times plus minus curve_d
denominator_nonzero p hp e =
    let one : plus 1 d_number ≡ 0 = deduced (num 1 ⊕ var 0) (num 0)
    (given (num 1 ⊖ var 0 ⊗ var 1 ⊗ var 1) (var 0 ⊗ (var 2 ⊗ var 2) ⊕ num 1) (num 0)
    ∷ given (num 0 ⊖ var 0) (var 2 ⊗ var 2 ⊖ var 1 ⊗ var 1) (num 1 ⊕ var 0 ⊗ (var 1 ⊗ var 1) ⊗ (var 2 ⊗ var 2)) ∷ [])
    (d_number ∷ p.x ∷ p.y ∷ []) (d_low, (hp.x_low, (hp.y_low, tt))) (e, (hp.is, tt)) refl in
    omega (arith, one)

-- y^2 - 1 is x^2 (d y^2 + 1)
numerator_is : (p : Affine) → OnCurve p → minus (times p.y p.y) 1 ≡ times (times p.x p.x) (plus (times d_number (times p.y p.y)) 1)
unfolding times plus minus curve_d
numerator_is p hp =
    deduced (var 2 ⊗ var 2 ⊖ num 1) (var 1 ⊗ var 1 ⊗ (var 0 ⊗ (var 2 ⊗ var 2) ⊕ num 1)) (given (num 1) (var 2 ⊗ var 2 ⊖ var 1 ⊗ var 1) (num 1 ⊕ var 0 ⊗ (var 1 ⊗ var 1) ⊗ (var 2 ⊗ var 2)) ∷ [])
    (d_number ∷ p.x ∷ p.y ∷ []) (d_low, (hp.x_low, (hp.y_low, tt))) (hp.is, tt) refl

point_by : (u v x y : ℕ) (o : Option ℕ) → x < field → v < field → v ≢ 0 → u ≡ times (times x x) v → IsRoot (times (times x x) v) v o → with_root o y (x % 2) ≡ Some (found_point x y)
unfolding with_root times
point_by u v x y o hx hv some e root =
    let square : times root.x root.x ≡ times x x =
    cancelled (times root.x root.x) (times x x) v (times_low root.x root.x) (times_low x x) hv some
    (deduced (var 0 ⊗ var 0 ⊗ var 1) (var 2 ⊗ var 2 ⊗ var 1) (given (num 1) (var 1 ⊗ (var 0 ⊗ var 0)) (var 2 ⊗ var 2 ⊗ var 1) ∷ []) (root.x ∷ v ∷ x ∷ []) (root.low, (hv, (hx, tt))) (root.is, tt) refl) in
    ap (λ (k : Option ℕ). with_root k y (x % 2)) root.found ∙ sign_found root.x x y root.low hx (two_roots root.x x root.low hx square)

pub bytes_are : (c : Coordinates) (p : Affine) → OnCurve p → Represents c p → bytes_of_point c ≡ with_sign (bytes_of_number p.x) (bytes_of_number p.y)
unfolding bytes_of_point
bytes_are c p hp hc = ap₂ (λ (a b : ℕ). with_sign (bytes_of_number a) (bytes_of_number b)) (affine_x c p hp hc) (affine_y c p hp hc)

-- the encoding of a point decodes to it
pub point_read : (p : Affine) → OnCurve p → point_in (with_sign (bytes_of_number p.x) (bytes_of_number p.y)) ≡ Some (found_point p.x p.y)
unfolding point_in
point_read p hp =
    let bytes : List ℕ = with_sign (bytes_of_number p.x) (bytes_of_number p.y) in
    let y_low : p.y < 2 ^ 255 = omega (arith, hp.y_low) in
    let v : ℕ = plus (times d_number (times p.y p.y)) 1 in
    let u : ℕ = minus (times p.y p.y) 1 in
    let v_low : v < field = plus_low (times d_number (times p.y p.y)) 1 in
    let some = denominator_nonzero p hp in
    let e : u ≡ times (times p.x p.x) v = numerator_is p hp in
    let root = quotient_found p.x v hp.x_low v_low some in
    ap₂ (λ (y s : ℕ). cond (ltb y field) (with_root (root_of_quotient (minus (times y y) 1) (plus (times d_number (times y y)) 1)) y s) None) (y_read p.x p.y y_low) (sign_read p.x p.y y_low)
    ∙ ap (λ (b : Bool). cond b (with_root (root_of_quotient u v) p.y (p.x % 2)) None) (lt-ltb p.y field hp.y_low)
    ∙ ap (λ (n : ℕ). with_root (root_of_quotient n v) p.y (p.x % 2)) e
    ∙ point_by u v p.x p.y (root_of_quotient (times (times p.x p.x) v) v) hp.x_low v_low some e root

times_one : (x : ℕ) → x < field → x ≡ times x 1
unfolding times
times_one x low = deduced (var 0) (var 0 ⊗ num 1) [] (x ∷ []) (low, tt) tt refl

found_is : (p : Affine) → OnCurve p → found_point p.x p.y ≡ record { x = times p.x 1; y = times p.y 1; z = 1; t = times (times p.x p.y) 1 }
found_is p hp = same_three (times_one p.x hp.x_low) (times_one p.y hp.y_low) (times_one (times p.x p.y) (times_low p.x p.y))
  where
    same_three : {a b c k m n : ℕ} → a ≡ k → b ≡ m → c ≡ n → ◌≡◌ {A = Coordinates} (record { x = a; y = b; z = 1; t = c }) (record { x = k; y = m; z = 1; t = n })
    same_three ea eb ec = rw (ea, eb, ec) refl

pub found_represents : (p : Affine) → OnCurve p → Represents (found_point p.x p.y) p
unfolding times
found_represents p hp = record { low = omega arith; some = λ (e : 1 ≡ 0). omega (arith, e); is = found_is p hp }
