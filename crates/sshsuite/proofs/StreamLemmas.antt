-- Eight blocks of the key stream at once.

use Rattle.std.proofs.Common.{◌≡◌, ℕ, zero, suc, ◌+◌, ◌%◌, ◌^◌, ◌<◌, ◌≤◌, List, [], ◌∷◌, length, refl, sym, ap, ◌∙◌, arith}
use Rattle.std.specs.Int.{w128, to_be_bytes}
use Rattle.std.specs.Prelude.{slice_index}
use Rattle.sshsuite.specs.Aes.{cipher}
use Rattle.sshsuite.specs.SlicedAes.{eight_ciphers}
use Rattle.sshsuite.specs.CounterMode.{HoldsFrom, eight_from, stream_block, stream_number}
use Rattle.sshsuite.specs.Gcm.{first_eight}
use Rattle.sshsuite.proofs.EightLemmas.{eight_is}
use Rattle.sshsuite.proofs.ListOfEight.{at_eight, eight_same}

-- a first number, and counters from a number on
abbrev counted : ℕ → ℕ → ℕ → ℕ
counted first counter zero = first
counted first counter (suc j) = (counter + suc j) % 2 ^ 128

counted_small : (first counter : ℕ) → first < 2 ^ 128 → (j : ℕ) → counted first counter j < 2 ^ 128
counted_small first counter h zero = h
counted_small first counter h (suc j) = omega arith

-- the numbers of blocks from one on, and of those that a packet takes
abbrev block_number : ℕ → ℕ → ℕ
block_number i zero = i
block_number i (suc j) = i + suc j

abbrev packet_number : ℕ → ℕ → ℕ
packet_number counter zero = 0
packet_number counter (suc zero) = (counter + 1) % 2 ^ 128
packet_number counter (suc (suc j)) = ((counter + 2) % 2 ^ 128 + j) % 2 ^ 128

pub eight_from_is : (keys : List ℕ) (counter i : ℕ) → 2 ≤ length keys → ((j : ℕ) → slice_index keys j < 2 ^ 128)
    → (let first = (counter + i) % 2 ^ 128 in
    eight_ciphers keys (first ∷ (first + 1) % 2 ^ 128 ∷ (first + 2) % 2 ^ 128 ∷ (first + 3) % 2 ^ 128 ∷ (first + 4) % 2 ^ 128
    ∷ (first + 5) % 2 ^ 128 ∷ (first + 6) % 2 ^ 128 ∷ (first + 7) % 2 ^ 128 ∷ []) ≡ eight_from keys counter i)
unfolding eight_from stream_number
eight_from_is keys counter i some k =
    let first : ℕ = (counter + i) % 2 ^ 128 in
    eight_is keys (counted first first) some k (counted_small first first (omega arith))
    ∙ eight_same (λ j. cipher keys (counted first first j)) (λ j. stream_number keys counter (block_number i j)) (λ j _. ap (cipher keys) (is j))
  where
    is : (j : ℕ) → counted ((counter + i) % 2 ^ 128) ((counter + i) % 2 ^ 128) j ≡ (counter + block_number i j) % 2 ^ 128
    is zero = refl
    is (suc j) = omega arith

pub block_in : (keys : List ℕ) (counter i r : ℕ) → r < 8 → slice_index (eight_from keys counter i) r ≡ stream_number keys counter (i + r)
unfolding eight_from
block_in keys counter i r h = at_eight (λ j. stream_number keys counter (block_number i j)) r h ∙ ap (stream_number keys counter) (is r)
  where
    is : (r : ℕ) → block_number i r ≡ i + r
    is zero = omega arith
    is (suc r) = refl

pub first_eight_is : (keys : List ℕ) (counter : ℕ) → 2 ≤ length keys → ((j : ℕ) → slice_index keys j < 2 ^ 128)
    → eight_ciphers keys (0 ∷ (counter + 1) % 2 ^ 128 ∷ (counter + 2) % 2 ^ 128 ∷ (counter + 3) % 2 ^ 128 ∷ (counter + 4) % 2 ^ 128
    ∷ (counter + 5) % 2 ^ 128 ∷ (counter + 6) % 2 ^ 128 ∷ (counter + 7) % 2 ^ 128 ∷ []) ≡ first_eight keys counter
unfolding first_eight stream_number
first_eight_is keys counter some k =
    eight_is keys (counted 0 counter) some k (counted_small 0 counter (omega arith))
    ∙ eight_same (λ j. cipher keys (counted 0 counter j)) (λ j. cipher keys (packet_number counter j)) (λ j _. ap (cipher keys) (is j))
  where
    is : (j : ℕ) → counted 0 counter j ≡ packet_number counter j
    is zero = refl
    is (suc zero) = refl
    is (suc (suc j)) = omega arith

pub first_key : (keys first : List ℕ) (counter : ℕ) → first ≡ first_eight keys counter → slice_index first 0 ≡ cipher keys 0
unfolding first_eight
first_key keys first counter is = ap (λ (p : List ℕ). slice_index p 0) is

pub first_mask : (keys first : List ℕ) (counter : ℕ) → first ≡ first_eight keys counter → slice_index first 1 ≡ cipher keys ((counter + 1) % 2 ^ 128)
unfolding first_eight
first_mask keys first counter is = ap (λ (p : List ℕ). slice_index p 1) is

-- the first eight hold six
pub first_holds : (keys : List ℕ) (counter : ℕ) → HoldsFrom keys ((counter + 2) % 2 ^ 128) 0 2 (first_eight keys counter)
unfolding first_eight stream_number
first_holds keys counter k h =
    ap (slice_index (first_eight keys counter)) (let e : 2 + k ≡ suc (suc k) = omega arith in e)
    ∙ (at_eight (λ j. cipher keys (packet_number counter j)) (suc (suc k)) (omega (arith, h))
    ∙ ap (stream_number keys ((counter + 2) % 2 ^ 128)) (let e : k ≡ 0 + k = omega arith in e))

pub eight_holds : (keys : List ℕ) (counter i place : ℕ) → place ≡ 0 → HoldsFrom keys counter i place (eight_from keys counter i)
eight_holds keys counter i place none k h =
    let here : place + k ≡ k = omega (arith, none) in
    ap (slice_index (eight_from keys counter i)) here ∙ block_in keys counter i k (omega (arith, h, none))

pub next_holds : (keys eight : List ℕ) (counter i start : ℕ) → HoldsFrom keys counter i ((i + start) % 8) eight → ((i + 1 + start) % 8 ≡ 0 → ⊥)
    → HoldsFrom keys counter (i + 1) ((i + 1 + start) % 8) eight
next_holds keys eight counter i start holds some k h =
    let place : (i + 1 + start) % 8 + k ≡ (i + start) % 8 + (1 + k) = omega (arith, some) in
    let at : i + (1 + k) ≡ i + 1 + k = omega arith in
    ap (slice_index eight) place ∙ (holds (1 + k) (omega (arith, h, place)) ∙ ap (stream_number keys counter) at)

pub block_bytes : (keys eight : List ℕ) (counter i place : ℕ) → place < 8 → HoldsFrom keys counter i place eight
    → to_be_bytes w128 (slice_index eight place) ≡ stream_block keys counter i
unfolding stream_block
block_bytes keys eight counter i place low holds =
    let here : place + 0 ≡ place = omega arith in
    let at : i + 0 ≡ i = omega arith in
    ap (to_be_bytes w128) (ap (slice_index eight) (sym here) ∙ (holds 0 (omega (arith, low)) ∙ ap (stream_number keys counter) at))
