-- Keys grow hash by hash, and are as long as is asked for.

use Rattle.std.proofs.Common.{◌≡◌, ℕ, zero, suc, ◌+◌, ◌<◌, ◌≤◌, ◌-◌, List, ◌∷◌, ◌++◌, length, min, take, refl, sym, ap, ◌∙◌, arith}
use Rattle.std.proofs.lemmas.List.{length-append, length-take-le, length-take, take-append-le}
use Rattle.sshneg.specs.Derivations.{KeyMaterialData, grown, hash_with, key}
use Rattle.sshneg.specs.GrowingKeys.{Grows}
use Rattle.sshpacket.specs.Suite.{IsLawful, SuiteData}
use Rattle.sshpacket.specs.declared.limits.TheConstants.{DIGEST_LIMIT}

one_more : (m : SuiteData) (x : KeyMaterialData) (first : List ℕ) (n : ℕ) → grown m x first (n + 1) ≡ grown m x first n ++ hash_with m x (grown m x first n)
one_more m x first n = let on : n + 1 ≡ suc n = omega arith in ap (λ (k : ℕ). grown m x first k) on

pub grows_start : (m : SuiteData) (x : KeyMaterialData) (first : List ℕ) (len : ℕ) → length first ≤ DIGEST_LIMIT → Grows m x first len 0 first
grows_start m x first len h = record { same_prefix = refl; same = λ less. refl; short = omega arith }

pub grows_on : (m : SuiteData) (x : KeyMaterialData) (first : List ℕ) (len count : ℕ) (bytes more : List ℕ) → len ≤ 255 → length bytes < len → length more ≤ DIGEST_LIMIT
    → more ≡ hash_with m x bytes → Grows m x first len count bytes → Grows m x first len (count + 1) (bytes ++ more)
grows_on m x first len count bytes more low less few is g =
    let e : bytes ≡ grown m x first count = g.same less in
    let all : bytes ++ more ≡ grown m x first (count + 1) =
    ap (λ (xs : List ℕ). bytes ++ xs) is ∙ (ap (λ (xs : List ℕ). xs ++ hash_with m x xs) e ∙ sym (one_more m x first count)) in
    let size : length (bytes ++ more) ≡ length bytes + length more = length-append bytes more in
    record { same_prefix = ap (λ (xs : List ℕ). take len xs) all; same = λ less. all; short = omega arith }

take_short : (n : ℕ) (xs : List ℕ) → length (take n xs) ≤ length xs
take_short n xs = let size : length (take n xs) ≡ min n (length xs) = length-take n xs in omega arith

-- the prefix of enough bytes stays
front_stays : (len : ℕ) (bytes all more : List ℕ) → len ≤ length bytes → take len bytes ≡ take len all → take len bytes ≡ take len (all ++ more)
front_stays len bytes all more enough e =
    let a : length (take len bytes) ≡ len = length-take-le len bytes enough in
    let b : length (take len all) ≡ len = sym (ap (λ (xs : List ℕ). length xs) e) ∙ a in
    let c : length (take len all) ≤ length all = take_short len all in
    e ∙ sym (take-append-le len all more (omega arith))

pub grows_stays : (m : SuiteData) (x : KeyMaterialData) (first : List ℕ) (len count : ℕ) (bytes : List ℕ) → len ≤ length bytes → Grows m x first len count bytes
    → Grows m x first len (count + 1) bytes
grows_stays m x first len count bytes enough g = record {
  same_prefix = front_stays len bytes (grown m x first count) (hash_with m x (grown m x first count)) enough g.same_prefix
      ∙ ap (λ (xs : List ℕ). take len xs) (sym (one_more m x first count));
  same = λ less. absurd (omega (arith, less, enough));
  short = g.short;
}

-- a key has the length that is asked for
grown_long : (m : SuiteData) → IsLawful m → (x : KeyMaterialData) (first : List ℕ) (n : ℕ) → n ≤ length (grown m x first n)
grown_long m law x first zero = omega arith
grown_long m law x first (suc n) =
    let rec : n ≤ length (grown m x first n) = grown_long m law x first n in
    let some : 1 ≤ length (hash_with m x (grown m x first n)) = law.digest_low x.kex _ in
    let both : length (grown m x first (suc n)) ≡ length (grown m x first n) + length (hash_with m x (grown m x first n))
    = length-append (grown m x first n) (hash_with m x (grown m x first n)) in
    omega arith

pub key_length : (m : SuiteData) → IsLawful m → (x : KeyMaterialData) (letter len : ℕ) → length (key m x letter len) ≡ len
unfolding key
key_length m law x letter len =
    length-take-le len (grown m x (hash_with m x (letter ∷ x.session)) len) (grown_long m law x (hash_with m x (letter ∷ x.session)) len)

-- as many hashes as one likes give the same key, once there are enough bytes
more_hashes : (m : SuiteData) (x : KeyMaterialData) (first : List ℕ) (len n k : ℕ) → len ≤ length (grown m x first n)
    → (take len (grown m x first (n + k)) ≡ take len (grown m x first n)) × (len ≤ length (grown m x first (n + k)))
more_hashes m x first len n zero h =
    let same : n + 0 ≡ n = omega arith in
    (ap (λ (i : ℕ). take len (grown m x first i)) same, rw same h)
more_hashes m x first len n (suc k) h =
    let rec = more_hashes m x first len n k h in
    let on : n + suc k ≡ (n + k) + 1 = omega arith in
    let all : grown m x first (n + suc k) ≡ grown m x first (n + k) ++ hash_with m x (grown m x first (n + k))
    = ap (λ (i : ℕ). grown m x first i) on ∙ one_more m x first (n + k) in
    let size : length (grown m x first (n + suc k)) ≡ length (grown m x first (n + k)) + length (hash_with m x (grown m x first (n + k)))
    = ap (λ (xs : List ℕ). length xs) all ∙ length-append (grown m x first (n + k)) (hash_with m x (grown m x first (n + k))) in
    let low : len ≤ length (grown m x first (n + k)) = rec.1 in (
      ap (λ (xs : List ℕ). take len xs) all
          ∙ (take-append-le len (grown m x first (n + k)) (hash_with m x (grown m x first (n + k))) low ∙ rec.0),
      omega arith,
    )

pub key_by : (m : SuiteData) → IsLawful m → (x : KeyMaterialData) (letter len n : ℕ) → n ≤ len → len ≤ length (grown m x (hash_with m x (letter ∷ x.session)) n)
    → key m x letter len ≡ take len (grown m x (hash_with m x (letter ∷ x.session)) n)
unfolding key
key_by m law x letter len n few enough =
    let first : List ℕ = hash_with m x (letter ∷ x.session) in
    let more = more_hashes m x first len n (len - n) enough in
    let all : n + (len - n) ≡ len = omega arith in
    ap (λ (i : ℕ). take len (grown m x first i)) (sym all) ∙ more.0
