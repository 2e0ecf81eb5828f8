-- What is seen by computing: of each byte its inverse and its image, and of a block its cipher.

use Rattle.std.proofs.Common.{◌≡◌, ℕ, ◌<◌, inl, inr, Bool, true, refl, arith, cond, eqb}
use Rattle.std.proofs.lemmas.Bool.{cases_Bool, eqb-true}
use Rattle.std.specs.Prelude.{bit_xor}
use Rattle.sshsuite.specs.Aes.{after_rounds, chosen, cipher, doubled, doubled_by, highest_bits, inverse, last_round, last_word, mapped, mix_columns, next_key, next_pair, number_at, others_raised, product, product_to, round, round_keys, shift_rows, short_round_keys, sub_bytes, summed_words, turned, turned_words}
use Rattle.sshsuite.specs.AesBytes.{bit_of, byte_inverse, byte_mapped, byte_product, byte_product_to, byte_turned, mapped_bit, sample_key, short_sample_key, tag_additional, tag_key, tag_sealed, xtime, xtime_by}
use Rattle.sshsuite.specs.Ghash.{ghash, hash_to, hashed, padded_block, shifted, shifted_by, times, times_to}
use Rattle.sshsuite.specs.Sealing.{filled_up}
use Rattle.sshsuite.proofs.TestLemmas.{all_below, at_each}

inverts : ℕ → Bool
inverts b = eqb (byte_product b (byte_inverse b)) (cond (eqb b 0) 0 1)

all_invert : all_below 256 inverts ≡ true
unfolding inverts byte_product byte_inverse byte_product_to xtime_by xtime
all_invert = refl

pub inverse_of : (b : ℕ) → 0 < b → b < 256 → byte_product b (byte_inverse b) ≡ 1
unfolding inverts
inverse_of b some h =
    let e = eqb-true (byte_product b (byte_inverse b)) (cond (eqb b 0) 0 1) (at_each 256 inverts all_invert b h) in
    elim (cases_Bool (eqb b 0)) [
      | inl is ↦ let none = eqb-true b 0 is in absurd (omega arith)
      | inr isnt ↦ rw isnt at e
    ]

pub inverse_none : byte_inverse 0 ≡ 0
unfolding byte_product byte_inverse byte_product_to xtime_by xtime
inverse_none = refl

maps_bit : ℕ → ℕ → Bool
maps_bit b i = eqb (bit_of (byte_mapped b) i) (mapped_bit b i)

maps : ℕ → Bool
maps b = all_below 8 (maps_bit b)

all_map : all_below 256 maps ≡ true
unfolding maps maps_bit byte_mapped byte_turned bit_of mapped_bit
all_map = refl

pub mapped_by_bits : (b i : ℕ) → b < 256 → i < 8 → bit_of (byte_mapped b) i ≡ mapped_bit b i
unfolding maps maps_bit
mapped_by_bits b i h low =
    eqb-true (bit_of (byte_mapped b) i) (mapped_bit b i) (at_each 8 (maps_bit b) (at_each 256 maps all_map b h) i low)

pub cipher_sample : cipher (round_keys sample_key) 0x00112233445566778899aabbccddeeff ≡ 0x8ea2b7ca516745bfeafc49904b496089
unfolding cipher round_keys number_at next_pair last_word summed_words after_rounds round last_round sub_bytes shift_rows mix_columns turned_words mapped inverse turned product product_to doubled_by doubled chosen highest_bits others_raised
cipher_sample = refl

pub short_sample : cipher (short_round_keys short_sample_key) 0x00112233445566778899aabbccddeeff ≡ 0x69c4e0d86a7b0430d8cdb78070b4c55a
unfolding cipher short_round_keys number_at next_key last_word summed_words after_rounds round last_round sub_bytes shift_rows mix_columns turned_words mapped inverse turned product product_to doubled_by doubled chosen highest_bits others_raised
short_sample = refl

pub tag_sample : bit_xor (cipher (round_keys tag_key) 0xcafebabefacedbaddecaf88800000001) (ghash (cipher (round_keys tag_key) 0) tag_additional tag_sealed)
    ≡ 0x76fc6ece0f4e1768cddf8853bb2d551b
unfolding cipher round_keys number_at next_pair last_word summed_words after_rounds round last_round sub_bytes shift_rows mix_columns turned_words mapped inverse turned product product_to doubled_by doubled chosen highest_bits others_raised ghash hashed hash_to padded_block filled_up times times_to shifted_by shifted
tag_sample = refl
