-- Numbers of words of 64 bits, word by word.

use Rattle.std.proofs.Common.{◌≡◌, ℕ, zero, suc, ◌+◌, ◌-◌, ◌*◌, ◌/◌, ◌%◌, ◌^◌, ◌<◌, ◌≤◌, List, length, refl, sym, ap, ◌∙◌, add-one, arith, cond, eqb, ltb}
use Rattle.std.proofs.lemmas.Bool.{cond_both, ltb-false, ltb-true}
use Rattle.std.proofs.lemmas.List.{get_or-set_other, get_or-set_same, length-set}
use Rattle.std.proofs.lemmas.Nat.{pow-add, pow_pos, row_fits}
use Rattle.std.specs.Prelude.{slice_index, slice_set}
use Rattle.sshsuite.specs.LongNumbers.{number_of, number_to, weight}

pub weight_none : weight 0 ≡ 1
unfolding weight
weight_none = refl

pub weight_more : (n : ℕ) → weight (n + 1) ≡ 2 ^ 64 * weight n
unfolding weight
weight_more n = let e : 64 * (n + 1) ≡ 64 + 64 * n = omega arith in ap (λ (k : ℕ). 2 ^ k) e ∙ pow-add 2 64 (64 * n)

pub weight_some : (n : ℕ) → 0 < weight n
unfolding weight
weight_some n = pow_pos (64 * n)

pub number_none : (words : List ℕ) → number_to words 0 ≡ 0
unfolding number_to
number_none words = refl

pub number_more : (words : List ℕ) (n : ℕ) → number_to words (n + 1) ≡ number_to words n + weight n * slice_index words n
unfolding number_to
number_more words n = rw (add-one n) refl

pub number_all : (words : List ℕ) (n : ℕ) → n ≡ length words → number_of words ≡ number_to words n
unfolding number_of
number_all words n e = ap (number_to words) (sym e)

-- the number is that of its words
pub number_kept : (v w : List ℕ) (n : ℕ) → ((k : ℕ) → k < n → slice_index v k ≡ slice_index w k) → number_to v n ≡ number_to w n
unfolding number_to
number_kept v w zero same = refl
number_kept v w (suc n) same =
    let e = number_kept v w n (λ k h. same k (omega arith)) in
    let f = same n (omega arith) in rw (e, f) refl

pub number_set : (words : List ℕ) (i y : ℕ) → i < length words → number_to (slice_set words i y) (i + 1) ≡ number_to words i + weight i * y
number_set words i y h =
    let front = number_kept (slice_set words i y) words i (λ k l. get_or-set_other words i k y 0 (λ e. omega arith)) in
    let at : slice_index (slice_set words i y) i ≡ y = get_or-set_same words i y 0 h in
    number_more (slice_set words i y) i ∙ rw (front, at) refl

pub word_fits : (w x : ℕ) → x < 2 ^ 64 → w * x + w ≤ 2 ^ 64 * w
word_fits w x h = let e = row_fits x w (2 ^ 64) w h (omega arith) in omega (arith, e)

pub number_below : (words : List ℕ) (n : ℕ) → ((k : ℕ) → slice_index words k < 2 ^ 64) → number_to words n < weight n
number_below words zero h = omega (arith, number_none words, weight_none)
number_below words (suc n) h =
    let low = number_below words n h in
    let top = word_fits (weight n) (slice_index words n) (h n) in
    let more = number_more words n in
    let heavier = weight_more n in
    rw (sym (add-one n)) (omega (arith, low, top, more, heavier))

pub below_by : (words : List ℕ) (n : ℕ) → length words ≡ n → ((k : ℕ) → slice_index words k < 2 ^ 64) → number_of words < weight n
below_by words n at h = rw (number_all words n (sym at)) (number_below words n h)

pub all_below : (words : List ℕ) → ((k : ℕ) → slice_index words k < 2 ^ 64) → number_of words < weight (length words)
all_below words h = below_by words (length words) refl h

-- A product is added.
added : (s s0 b w x c bi si n q r : ℕ) → s + w * c ≡ s0 + x * b → n ≡ x * bi + si + c → n ≡ 2 ^ 64 * q + r
    → s + w * r + 2 ^ 64 * w * q ≡ s0 + w * si + x * (b + w * bi)
added s s0 b w x c bi si n q r h is parts =
    let e : w * (x * bi + si + c) ≡ w * (2 ^ 64 * q + r) = ap (λ (k : ℕ). w * k) (sym is ∙ parts) in omega (arith, e)

pub record IsAdded (s s0 b : List ℕ) (x i carry : ℕ) : Type 0 where
  pub kept : (k : ℕ) → i ≤ k → slice_index s k ≡ slice_index s0 k
  pub sum : number_to s i + weight i * carry ≡ number_to s0 i + x * number_to b i

pub added_none : (s b : List ℕ) (x : ℕ) → IsAdded s s b x 0 0
added_none s b x = record { kept = λ k h. refl; sum = rw (number_none s, number_none b) (omega arith) }

pub added_more : (s s0 b : List ℕ) (x c i n : ℕ) → i < length s → IsAdded s s0 b x i c → n ≡ x * slice_index b i + slice_index s i + c
    → IsAdded (slice_set s i (n % 2 ^ 64)) s0 b x (i + 1) (n / 2 ^ 64)
added_more s s0 b x c i n h so is =
    let parts : n ≡ 2 ^ 64 * (n / 2 ^ 64) + n % 2 ^ 64 = omega arith in
    let same = so.kept i (omega arith) in
    let own : n ≡ x * slice_index b i + slice_index s0 i + c = is ∙ ap (λ (k : ℕ). x * slice_index b i + k + c) same in
    record {
      kept = λ k l. get_or-set_other s i k (n % 2 ^ 64) 0 (λ e. omega arith) ∙ so.kept k (omega arith);
      sum = rw (number_set s i (n % 2 ^ 64) h, weight_more i, number_more s0 i, number_more b i)
          (added (number_to s i) (number_to s0 i) (number_to b i) (weight i) x c (slice_index b i) (slice_index s0 i) n (n / 2 ^ 64) (n % 2 ^ 64) so.sum own parts);
    }

pub added_all : (s s0 b : List ℕ) (x i c : ℕ) → length s ≡ length s0 → length s0 ≡ length b → i ≡ length s0 → IsAdded s s0 b x i c
    → number_of s + weight (length s0) * c ≡ number_of s0 + x * number_of b
added_all s s0 b x i c long same at so =
    rw (number_all s i (at ∙ sym long), number_all s0 i at, number_all b i (at ∙ same), sym at) so.sum

-- A word of a difference: what is borrowed of the next.
pub borrowed : (a b c d : ℕ) → a < 2 ^ 64 → b < 2 ^ 64 → c < 2 → d + b + c ≡ a + 2 ^ 64
    → (d / 2 ^ 64 ≤ 1) × (1 - d / 2 ^ 64 < 2) × (d % 2 ^ 64 + b + c ≡ a + 2 ^ 64 * (1 - d / 2 ^ 64))
borrowed a b c d ha hb hc e =
    let top : d / 2 ^ 64 ≤ 1 = omega arith in
    let low : d ≡ 2 ^ 64 * (d / 2 ^ 64) + d % 2 ^ 64 = omega arith in (top, omega arith, omega (arith, top, low, e))

-- A comparison.
compared : (a b w x y c e r : ℕ) → b ≤ a + w * c → a + w * c < b + w → r + y + c ≡ x + 2 ^ 64 * e → r < 2 ^ 64
    → (b + w * y ≤ a + w * x + 2 ^ 64 * w * e) × (a + w * x + 2 ^ 64 * w * e < b + w * y + 2 ^ 64 * w)
compared a b w x y c e r low high is h =
    let f : w * (r + y + c) ≡ w * (x + 2 ^ 64 * e) = ap (λ (k : ℕ). w * k) is in
    let top = word_fits w r h in (omega (arith, f, low), omega (arith, f, high, top))

-- a borrow from the next word tells which number is less
pub record IsBorrow (a b : List ℕ) (i borrow : ℕ) : Type 0 where
  pub bit : borrow < 2
  pub low : number_to b i ≤ number_to a i + weight i * borrow
  pub high : number_to a i + weight i * borrow < number_to b i + weight i

pub below_none : (a b : List ℕ) → IsBorrow a b 0 0
below_none a b =
    let na = number_none a in
    let nb = number_none b in
    let w = weight_none in record { bit = omega arith; low = omega (arith, na, nb); high = omega (arith, na, nb, w) }

pub below_more : (a b : List ℕ) (i c d : ℕ) → slice_index a i < 2 ^ 64 → slice_index b i < 2 ^ 64 → IsBorrow a b i c → d + slice_index b i + c ≡ slice_index a i + 2 ^ 64
    → IsBorrow a b (i + 1) (1 - d / 2 ^ 64)
below_more a b i c d ha hb so e =
    let word = borrowed (slice_index a i) (slice_index b i) c d ha hb so.bit e in
    let r : d % 2 ^ 64 < 2 ^ 64 = omega arith in
    let both = compared (number_to a i) (number_to b i) (weight i) (slice_index a i) (slice_index b i) c (1 - d / 2 ^ 64) (d % 2 ^ 64) so.low so.high word.2 r in
    let na = number_more a i in
    let nb = number_more b i in
    let w = weight_more i in
    record {
      bit = word.1;
      low = rw (na, nb, w) both.0;
      high = rw (na, nb, w) both.1;
    }

is_less : (a b w c : ℕ) → c < 2 → b ≤ a + w * c → a + w * c < b + w → c ≡ cond (ltb a b) 1 0
is_less a b w zero bit low high =
    cond_both (ltb a b) 1 0 (λ (n : ℕ). 0 ≡ n) (λ e. let h = ltb-true a b e in absurd (omega arith)) (λ e. refl)
is_less a b w (suc zero) bit low high =
    cond_both (ltb a b) 1 0 (λ (n : ℕ). 1 ≡ n) (λ e. refl) (λ e. let h = ltb-false a b e in absurd (omega arith))
is_less a b w (suc (suc c)) bit low high = absurd (omega arith)

pub below_all : (a b : List ℕ) (i c : ℕ) → i ≡ length a → length a ≡ length b → IsBorrow a b i c → c ≡ cond (ltb (number_of a) (number_of b)) 1 0
below_all a b i c at long so =
    rw (number_all a i at, number_all b i (at ∙ long)) (is_less (number_to a i) (number_to b i) (weight i) c so.bit so.low so.high)

-- A difference.
subtracted : (s s0 n w t x r c e y : ℕ) → s + t * n ≡ s0 + w * c → r + y + c ≡ x + 2 ^ 64 * e → (yi : ℕ) → y ≡ t * yi
    → s + w * r + t * (n + w * yi) ≡ s0 + w * x + 2 ^ 64 * w * e
subtracted s s0 n w t x r c e y h is yi f =
    let g : w * (r + t * yi + c) ≡ w * (x + 2 ^ 64 * e) = ap (λ (k : ℕ). w * (r + k + c)) (sym f) ∙ ap (λ (k : ℕ). w * k) is in omega (arith, g, h)

times_bit : (t y : ℕ) → t < 2 → cond (eqb t 1) y 0 ≡ t * y
times_bit zero y h = omega arith
times_bit (suc zero) y h = omega arith
times_bit (suc (suc t)) y h = absurd (omega arith)

part_below : (t y : ℕ) → t < 2 → y < 2 ^ 64 → cond (eqb t 1) y 0 < 2 ^ 64
part_below t y h k = cond_both (eqb t 1) y 0 (λ (n : ℕ). n < 2 ^ 64) (λ _. k) (λ _. omega arith)

pub record IsLess (s s0 n : List ℕ) (t i borrow : ℕ) : Type 0 where
  pub bit : borrow < 2
  pub kept : (k : ℕ) → i ≤ k → slice_index s k ≡ slice_index s0 k
  pub rest : number_to s i + t * number_to n i ≡ number_to s0 i + weight i * borrow

pub less_none : (s n : List ℕ) (t : ℕ) → IsLess s s n t 0 0
less_none s n t = record { bit = omega arith; kept = λ k h. refl; rest = rw (number_none s, number_none n) (omega arith) }

pub less_more : (s s0 n : List ℕ) (t i c d : ℕ) → i < length s → slice_index s i < 2 ^ 64 → slice_index n i < 2 ^ 64 → t < 2 → IsLess s s0 n t i c
    → d + cond (eqb t 1) (slice_index n i) 0 + c ≡ slice_index s i + 2 ^ 64
    → IsLess (slice_set s i (d % 2 ^ 64)) s0 n t (i + 1) (1 - d / 2 ^ 64)
less_more s s0 n t i c d h hs hn ht so e =
    let y : ℕ = cond (eqb t 1) (slice_index n i) 0 in
    let word = borrowed (slice_index s i) y c d hs (part_below t (slice_index n i) ht hn) so.bit e in
    let same = so.kept i (omega arith) in
    let is : d % 2 ^ 64 + y + c ≡ slice_index s0 i + 2 ^ 64 * (1 - d / 2 ^ 64) = word.2 ∙ ap (λ (k : ℕ). k + 2 ^ 64 * (1 - d / 2 ^ 64)) same in
    record {
      bit = word.1;
      kept = λ k l. get_or-set_other s i k (d % 2 ^ 64) 0 (λ e. omega arith) ∙ so.kept k (omega arith);
      rest = rw (number_set s i (d % 2 ^ 64) h, weight_more i, number_more s0 i, number_more n i)
          (subtracted (number_to s i) (number_to s0 i) (number_to n i) (weight i) t (slice_index s0 i) (d % 2 ^ 64) c (1 - d / 2 ^ 64) y so.rest is (slice_index n i) (times_bit t (slice_index n i) ht));
    }

pub less_all : (s s0 n : List ℕ) (t i c : ℕ) → length s ≡ length s0 → length s0 ≡ length n → i ≡ length s0 → IsLess s s0 n t i c
    → number_of s + t * number_of n ≡ number_of s0 + weight (length s0) * c
less_all s s0 n t i c long same at so =
    rw (number_all s i (at ∙ sym long), number_all s0 i at, number_all n i (at ∙ same), sym at) so.rest

-- Words moved down.
pub moved : (old new : List ℕ) (n : ℕ) → ((k : ℕ) → k < n → slice_index new k ≡ slice_index old (k + 1)) → slice_index old 0 + 2 ^ 64 * number_to new n ≡ number_to old (n + 1)
moved old new zero same =
    let none = number_none new in
    let first = number_more old 0 in
    let before = number_none old in
    let w = weight_none in
    let f : weight 0 * slice_index old 0 ≡ slice_index old 0 = rw w (omega arith) in omega (arith, none, first, before, f)
moved old new (suc n) same =
    let e = moved old new n (λ k h. same k (omega arith)) in
    let at = same n (omega arith) in
    let f : weight n * slice_index new n ≡ weight n * slice_index old (n + 1) = ap (λ (k : ℕ). weight n * k) at in
    let more = number_more new n in
    let last = number_more old (n + 1) in
    let w : weight (n + 1) * slice_index old (n + 1) ≡ 2 ^ 64 * (weight n * slice_index old (n + 1)) = rw (weight_more n) (omega arith) in
    rw (sym (add-one n)) (omega (arith, e, f, more, last, w))

pub moved_down : (old new : List ℕ) (n last : ℕ) → n < length new → ((k : ℕ) → k < n → slice_index new k ≡ slice_index old (k + 1))
    → slice_index old 0 + 2 ^ 64 * number_to (slice_set new n last) (n + 1) ≡ number_to old (n + 1) + weight (n + 1) * last
moved_down old new n last h same =
    let e = moved old new n same in
    let f = number_set new n last h in
    let w : weight (n + 1) * last ≡ 2 ^ 64 * (weight n * last) = rw (weight_more n) (omega arith) in omega (arith, e, f, w)

pub moved_all : (old new : List ℕ) (n last : ℕ) → length new ≡ length old → n + 1 ≡ length old → ((k : ℕ) → k < n → slice_index new k ≡ slice_index old (k + 1))
    → slice_index old 0 + 2 ^ 64 * number_of (slice_set new n last) ≡ number_of old + weight (length old) * last
moved_all old new n last long at same =
    rw (number_all (slice_set new n last) (n + 1) (at ∙ (sym long ∙ sym (length-set new n last))), number_all old (n + 1) at, sym at)
    (moved_down old new n last (omega (arith, long)) same)
