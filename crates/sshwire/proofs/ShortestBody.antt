-- The test `is_canonical` decides the claim `IsShortestBody`.
-- A size is what follows `pos` or `negsuc`: in m + 1 bytes it is below 128 * 256 ^ m, which a canonical body of m + 2 bytes reaches.

use Rattle.std.proofs.Common.{◌≡◌, ◌≢◌, ℕ, zero, suc, ◌+◌, ◌-◌, ◌*◌, ◌^◌, ◌<◌, ◌≤◌, inl, inr, true, false, not, ◌&&◌, eqb, ltb, leb, List, [], ◌∷◌, length, refl, sym, ap, ℤ, pos, negsuc, arith}
use Rattle.std.proofs.Math.Nat.{pow-suc, mul-le-mul_right}
use Rattle.std.proofs.lemmas.Nat.{mul-add-lt}
use Rattle.std.proofs.lemmas.Bool.{cases_Bool, cases_lt, ltb-true, ltb-false, lt-ltb, le-ltb, leb-true, leb-false, eqb-true, eqb-false, not-true, and_parts, and_cases}
use Rattle.sshwire.specs.Types.{IsBytes, IsShortestBody, signed_value, unsigned_value}
use Rattle.sshwire.specs.TypeReadings.{is_canonical}

abbrev tail_bytes : (b : ℕ) (bs : List ℕ) → IsBytes (b ∷ bs) → IsBytes bs
tail_bytes b bs h = λ i. h (suc i)

-- Powers of 256.
next_power : (m : ℕ) → 256 ^ suc m ≡ 256 * 256 ^ m
next_power m = let e : 256 ^ suc m ≡ 256 ^ m * 256 = pow-suc 256 m in omega arith

power_grows : (m k : ℕ) → m ≤ k → 256 ^ m ≤ 256 ^ k
power_grows m zero h = let e : m ≡ 0 = omega arith in rw e (omega arith)
power_grows m (suc k) h = elim (cases_lt k m) [
  | inl l ↦ let e : m ≡ suc k = omega arith in rw e (omega arith)
  | inr l ↦ let g : 256 ^ m ≤ 256 ^ k = power_grows m k l in let e : 256 ^ suc k ≡ 256 * 256 ^ k = next_power k in omega arith
]

unsigned_below : (bytes : List ℕ) → IsBytes bytes → unsigned_value bytes < 256 ^ length bytes
unsigned_below [] h = omega arith
unsigned_below (b ∷ bs) h =
    let u : unsigned_value bs < 256 ^ length bs = unsigned_below bs (tail_bytes b bs h) in
    let e : 256 ^ suc (length bs) ≡ 256 ^ length bs * 256 = pow-suc 256 (length bs) in
    let l : b * 256 ^ length bs + unsigned_value bs < 256 ^ length bs * 256 = mul-add-lt b (256 ^ length bs) (unsigned_value bs) 256 (h 0) u in
    rw e l

-- Sizes.
abbrev size : ℤ → ℕ
size (pos n) = n
size (negsuc n) = n

small_size : (p b u : ℕ) → b < 128 → u < p → b * p + u < 128 * p
small_size p b u l m = let s : b * p + u < p * 128 = mul-add-lt b p u 128 l m in omega arith

small_size_below_zero : (p b u : ℕ) → 128 ≤ b → u < p → 256 * p - 1 - (b * p + u) < 128 * p
small_size_below_zero p b u l m = let s : 128 * p ≤ b * p = mul-le-mul_right p l in omega arith

size_below : (b : ℕ) (bs : List ℕ) (k : ℕ) → IsBytes (b ∷ bs) → length bs ≤ k → size (signed_value (b ∷ bs)) < 128 * 256 ^ k
size_below b bs k h short =
    let u : unsigned_value bs < 256 ^ length bs = unsigned_below bs (tail_bytes b bs h) in
    let g : 256 ^ length bs ≤ 256 ^ k = power_grows (length bs) k short in
    let e : 256 ^ suc (length bs) ≡ 256 * 256 ^ length bs = next_power (length bs) in
    elim (cases_Bool (ltb b 128)) [
      | inl t ↦ let s = small_size (256 ^ length bs) b (unsigned_value bs) (ltb-true b 128 t) u in rw t (omega arith)
      | inr f ↦ let s = small_size_below_zero (256 ^ length bs) b (unsigned_value bs) (ltb-false b 128 f) u in rw (f, e) (omega arith)
    ]

large_size : (q a b v : ℕ) → (a ≡ 0 → 128 ≤ b) → 128 * q ≤ a * (256 * q) + (b * q + v)
large_size q a b v c = elim (cases_lt 0 a) [
  | inl l ↦ let s : 1 * (256 * q) ≤ a * (256 * q) = mul-le-mul_right (256 * q) l in omega arith
  | inr l ↦ let z : a ≡ 0 = omega arith in let s : 128 * q ≤ b * q = mul-le-mul_right q (c z) in omega arith
]

large_size_below_zero : (q a b v : ℕ) → a < 256 → b < 256 → v < q → (a ≡ 255 → b < 128)
    → 128 * q ≤ 256 * (256 * q) - 1 - (a * (256 * q) + (b * q + v))
large_size_below_zero q a b v x y m c = elim (cases_lt a 255) [
  | inl l ↦
      let s : a * (256 * q) ≤ 254 * (256 * q) = mul-le-mul_right (256 * q) (omega arith) in
      let r : b * q + v < q * 256 = mul-add-lt b q v 256 y m in
      omega arith
  | inr l ↦
      let z : a ≡ 255 = omega arith in
      let s : a * (256 * q) ≤ 255 * (256 * q) = mul-le-mul_right (256 * q) (omega arith) in
      let r : b * q + v < q * 128 = mul-add-lt b q v 128 (c z) m in
      omega arith
]

-- What the test says of the first two bytes.
record Leads (a b : ℕ) : Type 0 where
  after_zero : a ≡ 0 → 128 ≤ b
  after_ones : a ≡ 255 → b < 128

leads_from_test : (a b : ℕ) (more : List ℕ) → is_canonical (a ∷ b ∷ more) ≡ true → Leads a b
leads_from_test a b more t =
    let both = and_parts (not (eqb a 0 && ltb b 128)) (not (eqb a 255 && leb 128 b)) t in
    record {
      after_zero = λ z. elim (and_cases (eqb a 0) (ltb b 128) (not-true _ both.0)) [
        | inl f ↦ absurd (eqb-false a 0 f z)
        | inr f ↦ ltb-false b 128 f
      ];
      after_ones = λ z. elim (and_cases (eqb a 255) (leb 128 b) (not-true _ both.1)) [
        | inl f ↦ absurd (eqb-false a 255 f z)
        | inr f ↦ leb-false 128 b f
      ];
    }

size_reaches : (a b : ℕ) (more : List ℕ) → IsBytes (a ∷ b ∷ more) → Leads a b → 128 * 256 ^ length more ≤ size (signed_value (a ∷ b ∷ more))
size_reaches a b more h leads =
    let v : unsigned_value more < 256 ^ length more = unsigned_below more (λ i. h (suc (suc i))) in
    elim (cases_Bool (ltb a 128)) [
      | inl t ↦ rw (t, next_power (length more)) (large_size (256 ^ length more) a b (unsigned_value more) leads.after_zero)
      | inr f ↦ rw (f, next_power (suc (length more)), next_power (length more))
          (large_size_below_zero (256 ^ length more) a b (unsigned_value more) (h 0) (h 1) v leads.after_ones)
    ]

-- No bytes are zero, and a lone byte other than 0 is not.
one_not_zero : (a : ℕ) → a ≢ 0 → pos 0 ≡ signed_value (a ∷ []) → ⊥
one_not_zero a n e = elim (cases_Bool (ltb a 128)) [
  | inl t ↦ let p : pos 0 ≡ pos (a * 256 ^ 0 + 0) = rw t at e in let z : 0 ≡ a * 256 ^ 0 + 0 = cc in n (omega arith)
  | inr f ↦ let p = rw f at e in cc
]

too_short : (k : ℕ) (z : ℤ) (other : List ℕ) → IsBytes other → 128 * 256 ^ k ≤ size z → length other < suc (suc k) → signed_value other ≡ z → ⊥
too_short k z [] h large short e =
    let s : 0 ≡ size z = ap size e in
    let p : 256 ^ 0 ≤ 256 ^ k = power_grows 0 k (omega arith) in
    omega arith
too_short k z (c ∷ cs) h large short e =
    let s : size (signed_value (c ∷ cs)) ≡ size z = ap size e in
    let few : length cs ≤ k = omega arith in
    let below : size (signed_value (c ∷ cs)) < 128 * 256 ^ k = size_below c cs k h few in
    let same : size z < 128 * 256 ^ k = rw (← s) below in
    omega arith

no_shorter_than_one : (a : ℕ) → a ≢ 0 → (other : List ℕ) → signed_value other ≡ signed_value (a ∷ []) → 1 ≤ length other
no_shorter_than_one a n [] e = absurd (one_not_zero a n e)
no_shorter_than_one a n (c ∷ cs) e = omega arith

pub canonical_shortest : (body : List ℕ) → IsBytes body → is_canonical body ≡ true → IsShortestBody body
canonical_shortest [] h t = λ other bytes e. omega arith
canonical_shortest (a ∷ []) h t = λ other bytes e. no_shorter_than_one a (eqb-false a 0 (not-true _ t)) other e
canonical_shortest (a ∷ b ∷ more) h t = λ other bytes e. elim (cases_lt (length other) (suc (suc (length more)))) [
  | inl l ↦ absurd (too_short (length more) (signed_value (a ∷ b ∷ more)) other bytes (size_reaches a b more h (leads_from_test a b more t)) l e)
  | inr l ↦ l
]

-- Without a first byte that tells nothing, the value is the same.
zero_size : (p u : ℕ) → u ≡ 0 * p + u
zero_size p u = omega arith

zero_dropped : (a b : ℕ) (more : List ℕ) → a ≡ 0 → b < 128 → signed_value (b ∷ more) ≡ signed_value (a ∷ b ∷ more)
zero_dropped a b more z l =
    let t : ltb b 128 ≡ true = lt-ltb b 128 l in
    rw (z, t) (ap pos (zero_size (256 ^ suc (length more)) (b * 256 ^ length more + unsigned_value more)))

ones_size : (q a b v : ℕ) → a ≡ 255 → 256 * q - 1 - (b * q + v) ≡ 256 * (256 * q) - 1 - (a * (256 * q) + (b * q + v))
ones_size q a b v z = rw z (omega arith)

ones_dropped : (a b : ℕ) (more : List ℕ) → a ≡ 255 → 128 ≤ b → signed_value (b ∷ more) ≡ signed_value (a ∷ b ∷ more)
ones_dropped a b more z l =
    let f : ltb b 128 ≡ false = le-ltb b 128 l in
    let g : ltb a 128 ≡ false = le-ltb a 128 (omega arith) in
    rw (f, g, next_power (suc (length more)), next_power (length more))
    (ap negsuc (ones_size (256 ^ length more) a b (unsigned_value more) z))

pub shortest_canonical : (body : List ℕ) → IsBytes body → IsShortestBody body → is_canonical body ≡ true
shortest_canonical [] h s = refl
shortest_canonical (a ∷ []) h s = elim (cases_Bool (eqb a 0)) [
  | inl t ↦
      let z : a ≡ 0 = eqb-true a 0 t in
      let l : 1 ≤ 0 = s [] (λ i. omega arith) (rw z refl) in
      absurd (omega arith)
  | inr f ↦ rw f refl
]
shortest_canonical (a ∷ b ∷ more) h s =
    let never : signed_value (b ∷ more) ≡ signed_value (a ∷ b ∷ more) → ⊥ = λ e. (let l : suc (suc (length more)) ≤ suc (length more) = s (b ∷ more) (tail_bytes a (b ∷ more) h) e in omega arith) in
    elim (cases_Bool (eqb a 0 && ltb b 128)) [
      | inl t ↦ let p = and_parts (eqb a 0) (ltb b 128) t in absurd (never (zero_dropped a b more (eqb-true a 0 p.0) (ltb-true b 128 p.1)))
      | inr f ↦ elim (cases_Bool (eqb a 255 && leb 128 b)) [
        | inl t ↦ let p = and_parts (eqb a 255) (leb 128 b) t in absurd (never (ones_dropped a b more (eqb-true a 255 p.0) (leb-true 128 b p.1)))
        | inr g ↦ rw (f, g) refl
      ]
    ]

-- Bodies of one length with one value are one.
digit_not_less : (p b c u v : ℕ) → u < p → b < c → b * p + u ≡ c * p + v → ⊥
digit_not_less p b c u v l less e =
    let s : b * p + u < p * c = mul-add-lt b p u c less l in omega arith

one_digit : (p b c u v : ℕ) → u < p → v < p → b * p + u ≡ c * p + v → b ≡ c
one_digit p b c u v l m e = elim (cases_lt b c) [
  | inl less ↦ absurd (digit_not_less p b c u v l less e)
  | inr more ↦ elim (cases_lt c b) [
    | inl less ↦ absurd (digit_not_less p c b v u m less (sym e))
    | inr more₂ ↦ omega arith
  ]
]

unsigned_unique : (body other : List ℕ) → IsBytes body → IsBytes other → length body ≡ length other → unsigned_value body ≡ unsigned_value other
    → body ≡ other
unsigned_unique [] [] h k l e = refl
unsigned_unique [] (c ∷ cs) h k l e = absurd (omega arith)
unsigned_unique (b ∷ bs) [] h k l e = absurd (omega arith)
unsigned_unique (b ∷ bs) (c ∷ cs) h k l e =
    let long : length bs ≡ length cs = omega arith in
    let u : unsigned_value bs < 256 ^ length bs = unsigned_below bs (tail_bytes b bs h) in
    let v : unsigned_value cs < 256 ^ length bs = rw long (unsigned_below cs (tail_bytes c cs k)) in
    let same : b * 256 ^ length bs + unsigned_value bs ≡ c * 256 ^ length bs + unsigned_value cs = rw (← long) at e in
    let first : b ≡ c = one_digit (256 ^ length bs) b c (unsigned_value bs) (unsigned_value cs) u v same in
    let after : b * 256 ^ length bs + unsigned_value bs ≡ b * 256 ^ length bs + unsigned_value cs = rw (← first) at same in
    let more : bs ≡ cs = unsigned_unique bs cs (tail_bytes b bs h) (tail_bytes c cs k) long (omega arith) in
    cc

complements : (p q u v : ℕ) → u < p → v < q → p ≡ q → p - 1 - u ≡ q - 1 - v → u ≡ v
complements p q u v l m e f = omega arith

pos_one : (n m : ℕ) → pos n ≡ pos m → n ≡ m
pos_one n m e = cc

negsuc_one : (n m : ℕ) → negsuc n ≡ negsuc m → n ≡ m
negsuc_one n m e = cc

signed_unsigned : (body other : List ℕ) → IsBytes body → IsBytes other → length body ≡ length other → signed_value body ≡ signed_value other
    → unsigned_value body ≡ unsigned_value other
signed_unsigned [] [] h k l e = refl
signed_unsigned [] (c ∷ cs) h k l e = absurd (omega arith)
signed_unsigned (b ∷ bs) [] h k l e = absurd (omega arith)
signed_unsigned (b ∷ bs) (c ∷ cs) h k l e = elim (cases_Bool (ltb b 128)) [
  | inl t ↦ elim (cases_Bool (ltb c 128)) [
    | inl s ↦ pos_one _ _ (rw (t, s) at e)
    | inr s ↦ let bad = rw (t, s) at e in cc
  ]
  | inr t ↦ elim (cases_Bool (ltb c 128)) [
    | inl s ↦ let bad = rw (t, s) at e in cc
    | inr s ↦
        let both : 256 ^ length (b ∷ bs) - 1 - unsigned_value (b ∷ bs) ≡ 256 ^ length (c ∷ cs) - 1 - unsigned_value (c ∷ cs) = negsuc_one _ _ (rw (t, s) at e) in
        let same : 256 ^ length (b ∷ bs) ≡ 256 ^ length (c ∷ cs) = ap (λ (n : ℕ). 256 ^ n) l in
        let u : unsigned_value (b ∷ bs) < 256 ^ length (b ∷ bs) = unsigned_below (b ∷ bs) h in
        let v : unsigned_value (c ∷ cs) < 256 ^ length (c ∷ cs) = unsigned_below (c ∷ cs) k in
        complements (256 ^ length (b ∷ bs)) (256 ^ length (c ∷ cs)) (unsigned_value (b ∷ bs)) (unsigned_value (c ∷ cs)) u v same both
  ]
]

pub shortest_unique : (body other : List ℕ) → IsBytes body → IsBytes other → IsShortestBody body → IsShortestBody other
    → signed_value body ≡ signed_value other → body ≡ other
shortest_unique body other h k s t e =
    let there : length body ≤ length other = s other k (sym e) in
    let back : length other ≤ length body = t body h e in
    let long : length body ≡ length other = omega arith in
    unsigned_unique body other h k long (signed_unsigned body other h k long e)
