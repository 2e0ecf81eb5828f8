-- Sums, differences and products of transforms, number by number.

use Rattle.std.proofs.Common.{◌≡◌, ℕ, zero, suc, ◌+◌, ◌*◌, ◌%◌, ◌<◌, Bool, true, List, [], ◌∷◌, refl, ap, ap₂, ◌∙◌, arith, ltb-true, map}
use Rattle.std.proofs.lemmas.Bool.{and_parts}
use Rattle.std.proofs.lemmas.List.{length-map, get_or-replicate, get_or-set_same, get_or-set_other}
use Rattle.std.specs.Prelude.{◌&&◌, nat_lt, replicate, slice_index}
use Rattle.sshmlkem.proofs.EncodingLemmas.{map_low}
use Rattle.sshmlkem.proofs.LayerLemmas.{difference_is, difference_low, product_is, sum_is, sum_low}
use Rattle.sshmlkem.proofs.LoopLemmas.{Apart, SetsOne, SetsTwo, after_first, after_one, after_second, ring_after, ring_ones, set_ring, zeros_ring}
use Rattle.sshmlkem.proofs.NumberLemmas.{number_low}
use Rattle.sshmlkem.proofs.TransformLemmas.{ntt_ring}
use Rattle.sshmlkem.specs.Field.{product, sum}
use Rattle.sshmlkem.specs.Ntt.{add, add_product, difference_at, gammas, subtract, sum_at, with_product}
use Rattle.sshmlkem.specs.Pke.{dot, ntts}
use Rattle.sshmlkem.specs.Ring.{IsRing, minus, plus, times}
use Rattle.sshmlkem.specs.declared.pke.Vector.{Vector}

-- sums and differences
sum_sets : (g : List ℕ) → SetsOne (λ a k. plus a (slice_index g k)) (sum_at g)
unfolding sum_at
sum_sets g = record {
  ring = λ f k h. set_ring f k _ (sum_low _ _) h;
  first = λ f k l h. let long = h.long in get_or-set_same f k _ 0 (omega (arith, long, l)) ∙ sum_is _ _;
  other = λ f k x e. get_or-set_other f k x _ 0 e;
}

pub add_ring : (f g : List ℕ) → IsRing f → IsRing (add f g)
unfolding add
add_ring f g h = ring_ones _ (sum_at g) (sum_sets g) f h 256

pub add_is : (f g : List ℕ) → IsRing f → (x : ℕ) → x < 256 → slice_index (add f g) x ≡ plus (slice_index f x) (slice_index g x)
unfolding add
add_is f g h x l = after_one _ (sum_at g) (sum_sets g) f h 256 x (omega arith) l

difference_sets : (g : List ℕ) → IsRing g → SetsOne (λ a k. minus a (slice_index g k)) (difference_at g)
unfolding difference_at
difference_sets g rg = record {
  ring = λ f k h. set_ring f k _ (difference_low _ _) h;
  first = λ f k l h. let long = h.long in get_or-set_same f k _ 0 (omega (arith, long, l)) ∙ difference_is _ _ (rg.low k);
  other = λ f k x e. get_or-set_other f k x _ 0 e;
}

pub subtract_ring : (f g : List ℕ) → IsRing f → IsRing g → IsRing (subtract f g)
unfolding subtract
subtract_ring f g h rg = ring_ones _ (difference_at g) (difference_sets g rg) f h 256

pub subtract_is : (f g : List ℕ) → IsRing f → IsRing g → (x : ℕ) → x < 256 → slice_index (subtract f g) x ≡ minus (slice_index f x) (slice_index g x)
unfolding subtract
subtract_is f g h rg x l = after_one _ (difference_at g) (difference_sets g rg) f h 256 x (omega arith) l

-- products of pairs
abbrev pub even : ℕ → ℕ
even k = 2 * k

abbrev pub odd : ℕ → ℕ
odd k = 2 * k + 1

-- the two numbers of BaseCaseMultiply (FIPS 203 algorithm 12)
unfoldable pub low_part : ℕ → ℕ → ℕ → ℕ → ℕ → ℕ
low_part z a b c d = plus (times a c) (times (times b d) z)

unfoldable pub high_part : ℕ → ℕ → ℕ → ℕ → ℕ
high_part a b c d = plus (times a d) (times b c)

pub low_part_low : (z a b c d : ℕ) → low_part z a b c d < 3329
unfolding low_part
low_part_low z a b c d = number_low _

pub high_part_low : (a b c d : ℕ) → high_part a b c d < 3329
unfolding high_part
high_part_low a b c d = number_low _

are_low : List ℕ → Bool
are_low [] = true
are_low (x ∷ xs) = nat_lt x 3329 && are_low xs

low_of : (xs : List ℕ) → are_low xs ≡ true → (i : ℕ) → slice_index xs i < 3329
unfolding are_low
low_of [] e i = omega arith
low_of (x ∷ xs) e zero = let parts = and_parts (nat_lt x 3329) (are_low xs) e in ltb-true x 3329 parts.0
low_of (x ∷ xs) e (suc i) = let parts = and_parts (nat_lt x 3329) (are_low xs) e in low_of xs parts.1 i

pub gamma_low : (k : ℕ) → slice_index gammas k < 3329
unfolding are_low
gamma_low k = low_of gammas refl k

pairs_apart : Apart even odd
pairs_apart = record { first = λ k l x y e. omega (arith, e); second = λ k l x y e. omega (arith, e); both = λ k l x y e. omega (arith, e) }

module _ (f g : List ℕ) (rf : IsRing f) (rg : IsRing g) where
  product_sets : SetsTwo even odd
      (λ a b k. plus a (low_part (slice_index gammas k) (slice_index f (2 * k)) (slice_index f (2 * k + 1)) (slice_index g (2 * k)) (slice_index g (2 * k + 1))))
      (λ a b k. plus b (high_part (slice_index f (2 * k)) (slice_index f (2 * k + 1)) (slice_index g (2 * k)) (slice_index g (2 * k + 1))))
      (with_product f g)
  unfolding with_product low_part high_part sum
  product_sets = record {
    ring = λ h k r. set_ring _ (2 * k + 1) _ (number_low _) (set_ring h (2 * k) _ (number_low _) r);
    first = λ h k l r.
        let long = r.long in
        get_or-set_other _ (2 * k + 1) (2 * k) _ 0 (λ e. omega (arith, e))
        ∙ (get_or-set_same h (2 * k) _ 0 (omega (arith, long, l))
        ∙ ap₂ (λ (x y : ℕ). plus (slice_index h (2 * k)) (plus x y)) (product_is _ _ (rg.low (2 * k)))
        (product_is _ _ (gamma_low k) ∙ ap (λ (n : ℕ). times n (slice_index gammas k)) (product_is _ _ (rg.low (2 * k + 1)))));
    second = λ h k l r.
        let made = set_ring h (2 * k) ((slice_index h (2 * k) + (product (slice_index f (2 * k)) (slice_index g (2 * k)) + product (product (slice_index f (2 * k + 1)) (slice_index g (2 * k + 1))) (slice_index gammas k)) % 3329) % 3329) (number_low _) r in
        get_or-set_same _ (2 * k + 1) _ 0 (omega (arith, made.long, l))
        ∙ ap₂ (λ (x y : ℕ). plus (slice_index h (2 * k + 1)) (plus x y)) (product_is _ _ (rg.low (2 * k + 1))) (product_is _ _ (rg.low (2 * k)));
    other = λ h k x a b. get_or-set_other _ (2 * k + 1) x _ 0 b ∙ get_or-set_other h (2 * k) x _ 0 a;
  }

  pub product_ring : (h : List ℕ) → IsRing h → IsRing (add_product h f g)
  unfolding add_product
  product_ring h r = ring_after even odd _ _ (with_product f g) product_sets pairs_apart h r 128

  module _ (h : List ℕ) (r : IsRing h) (k : ℕ) (l : k < 128) where
    pub product_even : slice_index (add_product h f g) (2 * k)
        ≡ plus (slice_index h (2 * k)) (low_part (slice_index gammas k) (slice_index f (2 * k)) (slice_index f (2 * k + 1)) (slice_index g (2 * k)) (slice_index g (2 * k + 1)))
    unfolding add_product
    product_even = after_first even odd _ _ (with_product f g) product_sets pairs_apart h r 128 k (omega arith) l

    pub product_odd : slice_index (add_product h f g) (2 * k + 1)
        ≡ plus (slice_index h (2 * k + 1)) (high_part (slice_index f (2 * k)) (slice_index f (2 * k + 1)) (slice_index g (2 * k)) (slice_index g (2 * k + 1)))
    unfolding add_product
    product_odd = after_second even odd _ _ (with_product f g) product_sets pairs_apart h r 128 k (omega arith) l

-- three polynomials
pub record AreRings (v : Vector) : Type 0 where
  pub first : IsRing v.first
  pub second : IsRing v.second
  pub third : IsRing v.third

-- numbers 2 k and 2 k + 1 of each, as six
pub record Six : Type 0 where
  pub a : ℕ
  pub b : ℕ
  pub c : ℕ
  pub d : ℕ
  pub e : ℕ
  pub f : ℕ

unfoldable pub six : Vector → ℕ → Six
six v k = record {
  a = slice_index v.first (2 * k);
  b = slice_index v.first (2 * k + 1);
  c = slice_index v.second (2 * k);
  d = slice_index v.second (2 * k + 1);
  e = slice_index v.third (2 * k);
  f = slice_index v.third (2 * k + 1);
}

-- the same of an inner product
unfoldable pub dot_low : ℕ → Six → Six → ℕ
dot_low z u v = plus (plus (plus 0 (low_part z u.a u.b v.a v.b)) (low_part z u.c u.d v.c v.d)) (low_part z u.e u.f v.e v.f)

unfoldable pub dot_high : Six → Six → ℕ
dot_high u v = plus (plus (plus 0 (high_part u.a u.b v.a v.b)) (high_part u.c u.d v.c v.d)) (high_part u.e u.f v.e v.f)

module _ (u v : Vector) (ru : AreRings u) (rv : AreRings v) where
  one_ring : IsRing (add_product (replicate 256 0) u.first v.first)
  one_ring = product_ring u.first v.first ru.first rv.first (replicate 256 0) zeros_ring

  two_ring : IsRing (add_product (add_product (replicate 256 0) u.first v.first) u.second v.second)
  two_ring = product_ring u.second v.second ru.second rv.second _ one_ring

  pub dot_ring : IsRing (dot u v)
  unfolding dot
  dot_ring = product_ring u.third v.third ru.third rv.third _ two_ring

  module _ (k : ℕ) (l : k < 128) where
    pub dot_even : slice_index (dot u v) (2 * k) ≡ dot_low (slice_index gammas k) (six u k) (six v k)
    unfolding dot dot_low six
    dot_even =
        let z : ℕ = slice_index gammas k in
        let none : slice_index (replicate 256 0) (2 * k) ≡ 0 = get_or-replicate 256 (2 * k) 0 0 (omega (arith, l)) in
        product_even u.third v.third ru.third rv.third _ two_ring k l
        ∙ ap (λ (n : ℕ). plus n (low_part z (slice_index u.third (2 * k)) (slice_index u.third (2 * k + 1)) (slice_index v.third (2 * k)) (slice_index v.third (2 * k + 1))))
        (product_even u.second v.second ru.second rv.second _ one_ring k l
        ∙ ap (λ (n : ℕ). plus n (low_part z (slice_index u.second (2 * k)) (slice_index u.second (2 * k + 1)) (slice_index v.second (2 * k)) (slice_index v.second (2 * k + 1))))
        (product_even u.first v.first ru.first rv.first _ zeros_ring k l
        ∙ ap (λ (n : ℕ). plus n (low_part z (slice_index u.first (2 * k)) (slice_index u.first (2 * k + 1)) (slice_index v.first (2 * k)) (slice_index v.first (2 * k + 1)))) none))

    pub dot_odd : slice_index (dot u v) (2 * k + 1) ≡ dot_high (six u k) (six v k)
    unfolding dot dot_high six
    dot_odd =
        let none : slice_index (replicate 256 0) (2 * k + 1) ≡ 0 = get_or-replicate 256 (2 * k + 1) 0 0 (omega (arith, l)) in
        product_odd u.third v.third ru.third rv.third _ two_ring k l
        ∙ ap (λ (n : ℕ). plus n (high_part (slice_index u.third (2 * k)) (slice_index u.third (2 * k + 1)) (slice_index v.third (2 * k)) (slice_index v.third (2 * k + 1))))
        (product_odd u.second v.second ru.second rv.second _ one_ring k l
        ∙ ap (λ (n : ℕ). plus n (high_part (slice_index u.second (2 * k)) (slice_index u.second (2 * k + 1)) (slice_index v.second (2 * k)) (slice_index v.second (2 * k + 1))))
        (product_odd u.first v.first ru.first rv.first _ zeros_ring k l
        ∙ ap (λ (n : ℕ). plus n (high_part (slice_index u.first (2 * k)) (slice_index u.first (2 * k + 1)) (slice_index v.first (2 * k)) (slice_index v.first (2 * k + 1)))) none))

pub ntts_rings : (v : Vector) → AreRings v → AreRings (ntts v)
unfolding ntts
ntts_rings v h = record { first = ntt_ring v.first h.first; second = ntt_ring v.second h.second; third = ntt_ring v.third h.third }

-- numbers that are changed one by one
pub map_ring : (h : ℕ → ℕ) → ((n : ℕ) → h n < 3329) → (f : List ℕ) → IsRing f → IsRing (map h f)
map_ring h low f r = record { long = length-map f h ∙ r.long; low = map_low h 3329 low f }
