-- Keys, ciphertexts and digests are bytes, and have the lengths of FIPS 203 table 3.

use Rattle.std.proofs.Common.{◌≡◌, ℕ, zero, suc, ◌+◌, ◌*◌, ◌%◌, ◌<◌, List, [], ◌∷◌, ◌++◌, length, take, ◌∙◌, arith, lit<}
use Rattle.std.proofs.lemmas.List.{length-append, length-replicate, length-set, length-take}
use Rattle.std.specs.Prelude.{slice_index, slice_set, replicate}
use Rattle.sshkeccak.specs.Repeated.{repeated}
use Rattle.sshkeccak.specs.Sponge.{bytes_of, sha3_256, sha3_512, sponge, with_byte}
use Rattle.sshmlkem.specs.Codec.{encode_10, encode_12, encode_4, with_encoded_10, with_encoded_12, with_encoded_4}
use Rattle.sshmlkem.specs.Kem.{keys_of}
use Rattle.sshmlkem.specs.Pke.{encode_vector, encrypted, last_part, masked, pke_keys}
use Rattle.sshmlkem.specs.declared.pke.Vector.{Vector}

-- each number is below 256
abbrev pub IsBytes : List ℕ → Type 0
IsBytes bytes = (i : ℕ) → slice_index bytes i < 256

bytes_none : IsBytes []
bytes_none i = lit< tt

bytes_cons : (b : ℕ) (bytes : List ℕ) → b < 256 → IsBytes bytes → IsBytes (b ∷ bytes)
bytes_cons b bytes h more zero = h
bytes_cons b bytes h more (suc i) = more i

bytes_append : (bytes more : List ℕ) → IsBytes bytes → IsBytes more → IsBytes (bytes ++ more)
bytes_append [] more h k = k
bytes_append (b ∷ bytes) more h k = bytes_cons b (bytes ++ more) (h 0) (bytes_append bytes more (λ i. h (suc i)) k)

bytes_taken : (n : ℕ) (bytes : List ℕ) → IsBytes bytes → IsBytes (take n bytes)
bytes_taken zero bytes h = bytes_none
bytes_taken (suc n) [] h = bytes_none
bytes_taken (suc n) (b ∷ bytes) h = bytes_cons b (take n bytes) (h 0) (bytes_taken n bytes (λ i. h (suc i)))

-- n bytes
pub record AreBytes (n : ℕ) (xs : List ℕ) : Type 0 where
  pub long : length xs ≡ n
  pub bytes : IsBytes xs

-- what each step keeps, the whole loop keeps
pub keeps : {A : Type 0} (P : A → Type 0) (step : A → ℕ → A) → ((a : A) (i : ℕ) → P a → P (step a i)) → (a : A) (n : ℕ) → P a → P (repeated step a n)
unfolding repeated
keeps P step h a zero p = p
keeps P step h a (suc n) p = h (repeated step a n) n (keeps P step h a n p)

bytes_zeros : (n : ℕ) → IsBytes (replicate n 0)
bytes_zeros zero = bytes_none
bytes_zeros (suc n) = bytes_cons 0 (replicate n 0) (omega arith) (bytes_zeros n)

zeros_are : (n : ℕ) → AreBytes n (replicate n 0)
zeros_are n = record { long = length-replicate n 0; bytes = bytes_zeros n }

bytes_set : (xs : List ℕ) (i v : ℕ) → v < 256 → IsBytes xs → IsBytes (slice_set xs i v)
bytes_set [] i v low h = h
bytes_set (x ∷ xs) zero v low h = bytes_cons v xs low (λ k. h (suc k))
bytes_set (x ∷ xs) (suc i) v low h = bytes_cons x (slice_set xs i v) (h 0) (bytes_set xs i v low (λ k. h (suc k)))

set_one : (n : ℕ) (xs : List ℕ) (i v : ℕ) → AreBytes n xs → AreBytes n (slice_set xs i (v % 256))
set_one n xs i v h = record { long = length-set xs i (v % 256) ∙ h.long; bytes = bytes_set xs i (v % 256) (omega arith) h.bytes }

pub both_parts : (m n : ℕ) (xs ys : List ℕ) → AreBytes m xs → AreBytes n ys → AreBytes (m + n) (xs ++ ys)
both_parts m n xs ys h k =
    record { long = let both = length-append xs ys in let front = h.long in let back = k.long in omega (arith, both, front, back); bytes = bytes_append xs ys h.bytes k.bytes }

pub state_bytes : (a : List ℕ) → AreBytes 200 (bytes_of a)
unfolding bytes_of with_byte
state_bytes a = keeps (AreBytes 200) (with_byte a) (λ xs i h. set_one 200 xs i _ h) (replicate 200 0) 200 (zeros_are 200)

pub digest_bytes : (input : List ℕ) → AreBytes 64 (sha3_512 input)
unfolding sha3_512
digest_bytes input =
    let s : List ℕ = sponge 9 0x06 input in
    let all = state_bytes s in
    record { long = let cut = length-take 64 (bytes_of s) in let whole = all.long in omega (arith, cut, whole); bytes = bytes_taken 64 (bytes_of s) all.bytes }

pub encoded_12 : (f : List ℕ) → AreBytes 384 (encode_12 f)
unfolding encode_12 with_encoded_12
encoded_12 f =
    keeps (AreBytes 384) (with_encoded_12 f) (λ xs i h. set_one 384 _ (3 * i + 2) _ (set_one 384 _ (3 * i + 1) _ (set_one 384 xs (3 * i) _ h)))
    (replicate 384 0) 128 (zeros_are 384)

pub encoded_10 : (f : List ℕ) → AreBytes 320 (encode_10 f)
unfolding encode_10 with_encoded_10
encoded_10 f =
    keeps (AreBytes 320) (with_encoded_10 f) (λ xs i h. set_one 320 _ (5 * i + 4) _ (set_one 320 _ (5 * i + 3) _ (set_one 320 _ (5 * i + 2) _
    (set_one 320 _ (5 * i + 1) _ (set_one 320 xs (5 * i) _ h)))))
    (replicate 320 0) 64 (zeros_are 320)

encoded_4 : (f : List ℕ) → AreBytes 128 (encode_4 f)
unfolding encode_4 with_encoded_4
encoded_4 f = keeps (AreBytes 128) (with_encoded_4 f) (λ xs i h. set_one 128 xs i _ h) (replicate 128 0) 128 (zeros_are 128)

pub encoded_vector : (f : Vector) → AreBytes 1152 (encode_vector f)
unfolding encode_vector
encoded_vector f = both_parts 768 384 _ _ (both_parts 384 384 _ _ (encoded_12 f.first) (encoded_12 f.second)) (encoded_12 f.third)

pub first_half : (xs : List ℕ) → AreBytes 64 xs → AreBytes 32 (take 32 xs)
first_half xs h =
    record { long = let cut = length-take 32 xs in let whole = h.long in omega (arith, cut, whole); bytes = bytes_taken 32 xs h.bytes }

pub key_bytes : (d z : List ℕ) → AreBytes 1184 (keys_of d z).encapsulation_key
unfolding keys_of pke_keys
key_bytes d z = both_parts 1152 32 _ _ (encoded_vector _) (first_half _ (digest_bytes _))

masked_bytes : (rho : List ℕ) (y : Vector) (i : ℕ) (error : List ℕ) → AreBytes 320 (masked rho y i error)
unfolding masked
masked_bytes rho y i error = encoded_10 _

pub ciphertext_bytes : (key message seed : List ℕ) → AreBytes 1088 (encrypted key message seed)
unfolding encrypted last_part
ciphertext_bytes key message seed =
    both_parts 960 128 _ _ (both_parts 640 320 _ _ (both_parts 320 320 _ _ (masked_bytes _ _ _ _) (masked_bytes _ _ _ _)) (masked_bytes _ _ _ _)) (encoded_4 _)

pub short_digest_bytes : (input : List ℕ) → AreBytes 32 (sha3_256 input)
unfolding sha3_256
short_digest_bytes input =
    let s : List ℕ = sponge 17 0x06 input in
    let all = state_bytes s in
    record { long = let cut = length-take 32 (bytes_of s) in let whole = all.long in omega (arith, cut, whole); bytes = bytes_taken 32 (bytes_of s) all.bytes }
