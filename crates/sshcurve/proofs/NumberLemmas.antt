-- The number of 32 bytes by their four words is that by their bits.

use Rattle.std.proofs.Common.{◌≡◌, ℕ, suc, ◌+◌, ◌*◌, ◌/◌, ◌%◌, ◌^◌, ◌<◌, List, length, refl, sym, ap, ap₂, ◌∙◌, arith, slice_index}
use Rattle.sshcurve.specs.Bits.{bit_at, number_of_32, word_at}
use Rattle.sshcurve.specs.Scalar.{number_in}
use Rattle.sshcurve.proofs.CoordinateLemmas.{number_of_256_bits, number_of_bits}
use Rattle.sshcurve.proofs.RowLemmas.{byte_more, eight_bits}
use Rattle.sshcurve.proofs.ScalarLemmas.{byte_bits_is}

bit_of_byte : (bytes : List ℕ) (n j : ℕ) → j < 8 → bit_at bytes (8 * n + j) ≡ slice_index bytes n / 2 ^ j % 2
unfolding bit_at
bit_of_byte bytes n j h =
    let e : (8 * n + j) / 8 ≡ n = omega arith in
    let f : (8 * n + j) % 8 ≡ j = omega arith in
    ap₂ (λ (i k : ℕ). slice_index bytes i / 2 ^ k % 2) e f

-- the eight bits of a byte are its number
eight_bits_are : (bytes : List ℕ) (n : ℕ) → slice_index bytes n < 256 → eight_bits bytes n ≡ slice_index bytes n
unfolding eight_bits
eight_bits_are bytes n h =
    let b0 = bit_of_byte bytes n 0 (omega arith) in
    let b1 = bit_of_byte bytes n 1 (omega arith) in
    let b2 = bit_of_byte bytes n 2 (omega arith) in
    let b3 = bit_of_byte bytes n 3 (omega arith) in
    let b4 = bit_of_byte bytes n 4 (omega arith) in
    let b5 = bit_of_byte bytes n 5 (omega arith) in
    let b6 = bit_of_byte bytes n 6 (omega arith) in
    let b7 = bit_of_byte bytes n 7 (omega arith) in
    let e = byte_bits_is (slice_index bytes n) h in
    omega (arith, b0, b1, b2, b3, b4, b5, b6, b7, e)

module _ (bytes : List ℕ) (low : (i : ℕ) → slice_index bytes i < 256) where
  next_byte : (n k : ℕ) → suc n + k ≡ 32 → number_of_bits bytes (8 * suc k) ≡ 256 * number_of_bits bytes (8 * k) + slice_index bytes n
  next_byte n k h = byte_more bytes n k h ∙ ap (λ (b : ℕ). 256 * number_of_bits bytes (8 * k) + b) (eight_bits_are bytes n (low n))

  next_word : (n k : ℕ) → n + 8 + k ≡ 32
      → number_of_bits bytes (8 * suc (suc (suc (suc (suc (suc (suc (suc k)))))))) ≡ 2 ^ 64 * number_of_bits bytes (8 * k) + word_at bytes n
  unfolding word_at
  next_word n k h =
      let b7 = next_byte (n + 7) k (omega (arith, h)) in
      let b6 = next_byte (n + 6) (suc k) (omega (arith, h)) in
      let b5 = next_byte (n + 5) (suc (suc k)) (omega (arith, h)) in
      let b4 = next_byte (n + 4) (suc (suc (suc k))) (omega (arith, h)) in
      let b3 = next_byte (n + 3) (suc (suc (suc (suc k)))) (omega (arith, h)) in
      let b2 = next_byte (n + 2) (suc (suc (suc (suc (suc k))))) (omega (arith, h)) in
      let b1 = next_byte (n + 1) (suc (suc (suc (suc (suc (suc k)))))) (omega (arith, h)) in
      let b0 = next_byte n (suc (suc (suc (suc (suc (suc (suc k))))))) (omega (arith, h)) in
      omega (arith, b0, b1, b2, b3, b4, b5, b6, b7)

  no_bits : number_of_bits bytes (8 * 0) ≡ 0
  unfolding number_of_bits
  no_bits = refl

  words_are : number_of_bits bytes 256 ≡ number_of_32 bytes
  unfolding number_of_32
  words_are =
      let w3 = next_word 24 0 refl in
      let w2 = next_word 16 8 refl in
      let w1 = next_word 8 16 refl in
      let w0 = next_word 0 24 refl in
      omega (arith, w0, w1, w2, w3, no_bits)

pub same_number : (bytes : List ℕ) → length bytes ≡ 32 → ((i : ℕ) → slice_index bytes i < 256) → number_of_32 bytes ≡ number_in bytes
same_number bytes long low = sym (words_are bytes low) ∙ number_of_256_bits bytes long
