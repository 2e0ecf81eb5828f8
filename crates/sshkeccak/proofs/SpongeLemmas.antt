-- The last block that the code makes is the last block of the padded input.

use Rattle.std.proofs.Common.{◌≡◌, ℕ, zero, suc, ◌+◌, ◌-◌, ◌*◌, ◌/◌, ◌%◌, ◌≤◌, ◌<◌, inl, inr, true, false, List, [], ◌∷◌, ◌++◌, length, drop, refl, sym, ap, ap₂, ◌∙◌, arith, eqb}
use Rattle.std.proofs.Math.Nat.{mul_comm}
use Rattle.std.proofs.lemmas.Bool.{cases_Bool, cases_eq, cases_lt, eq-eqb, eqb-false, eqb-true, ne_eqb}
use Rattle.std.proofs.lemmas.List.{drop-append-le, get_or-append_right, get_or-drop, get_or-replicate, get_or-set_other, get_or-set_same, get_or_append_left, get_or_at, length-append, length-drop, length-replicate, length-set}
use Rattle.std.proofs.lemmas.Nat.{div-add-mod', div-mul-add, mod_below, row_fits}
use Rattle.std.specs.Int.Bits.{xor_zero_l}
use Rattle.std.specs.Prelude.{bit_xor, replicate, slice_index, slice_set}
use Rattle.sshkeccak.specs.Padding.{absorbed_blocks, padded, padding}
use Rattle.sshkeccak.specs.Repeated.{repeated}
use Rattle.sshkeccak.specs.Sponge.{absorbed, absorbed_next, filled_up, joined, lane_at, last_block, sponge}
use Rattle.sshkeccak.specs.Keccak.{keccak}

-- blocks of the same bytes
module _ (xs ys : List ℕ) (p q lanes : ℕ) (same : (k : ℕ) → k < 8 * lanes → slice_index xs (p + k) ≡ slice_index ys (q + k)) where
  byte_same : (n j : ℕ) → n < lanes → j < 8 → slice_index xs (p + 8 * n + j) ≡ slice_index ys (q + 8 * n + j)
  byte_same n j h k =
      ap (slice_index xs) (omega arith) ∙ (same (8 * n + j) (omega (arith, h, k)) ∙ ap (slice_index ys) (omega arith))

  first_same : (n : ℕ) → n < lanes → slice_index xs (p + 8 * n) ≡ slice_index ys (q + 8 * n)
  first_same n h = same (8 * n) (omega (arith, h))

  lane_same : (n : ℕ) → n < lanes → lane_at xs (p + 8 * n) ≡ lane_at ys (q + 8 * n)
  unfolding lane_at
  lane_same n h =
      let a = first_same n h in
      let b = byte_same n 1 h (omega arith) in
      let c = byte_same n 2 h (omega arith) in
      let d = byte_same n 3 h (omega arith) in
      let a' = byte_same n 4 h (omega arith) in
      let b' = byte_same n 5 h (omega arith) in
      let c' = byte_same n 6 h (omega arith) in
      let d' = byte_same n 7 h (omega arith) in
      rw (a, b, c, d, a', b', c', d') refl

  joined_same : (a : List ℕ) (n : ℕ) → n ≤ lanes → repeated (joined xs p) a n ≡ repeated (joined ys q) a n
  unfolding repeated joined
  joined_same a zero h = refl
  joined_same a (suc n) h =
      let before = joined_same a n (omega (arith, h)) in
      ap₂ (λ (s : List ℕ) (l : ℕ). slice_set s n (bit_xor (slice_index s n) l)) before (lane_same n (omega (arith, h)))

  pub absorbed_same : (a : List ℕ) → absorbed a xs p lanes ≡ absorbed a ys q lanes
  unfolding absorbed
  absorbed_same a = ap keccak (joined_same a lanes (omega arith))

-- the bytes of a last block
module _ (rest : List ℕ) (rate suffix : ℕ) (short : length rest < rate) (room : rate ≤ 200) where
  filled : List ℕ
  filled = slice_set (filled_up rest) (length rest) suffix

  filled_long : length filled ≡ 200
  unfolding filled filled_up
  filled_long =
      let set = length-set (rest ++ replicate (200 - length rest) 0) (length rest) suffix in
      let both = length-append rest (replicate (200 - length rest) 0) in
      let zeros = length-replicate {A = ℕ} (200 - length rest) 0 in
      omega (arith, set, both, zeros, short, room)

  filled_front : (k : ℕ) → k < length rest → slice_index filled k ≡ slice_index rest k
  unfolding filled filled_up
  filled_front k h = get_or-set_other _ (length rest) k suffix 0 (λ e. omega (arith, e, h)) ∙ get_or_append_left rest (replicate (200 - length rest) 0) 0 k h

  filled_here : slice_index filled (length rest) ≡ suffix
  unfolding filled filled_up
  filled_here =
      let both = length-append rest (replicate (200 - length rest) 0) in
      let zeros = length-replicate {A = ℕ} (200 - length rest) 0 in
      get_or-set_same _ (length rest) suffix 0 (omega (arith, both, zeros, short, room))

  filled_zero : (k : ℕ) → length rest < k → k < 200 → slice_index filled k ≡ 0
  unfolding filled filled_up
  filled_zero k h low =
      get_or-set_other _ (length rest) k suffix 0 (λ e. omega (arith, e, h))
      ∙ (get_or-append_right rest (replicate (200 - length rest) 0) (length rest) k 0 refl (omega (arith, h))
      ∙ get_or-replicate (200 - length rest) (k - length rest) 0 0 (omega (arith, h, low)))

  block_other : (k : ℕ) → (k ≡ rate - 1 → ⊥) → slice_index (last_block rest rate suffix) k ≡ slice_index filled k
  unfolding last_block filled
  block_other k off = get_or-set_other _ (rate - 1) k _ 0 off

  block_end : slice_index (last_block rest rate suffix) (rate - 1) ≡ bit_xor (slice_index filled (rate - 1)) 0x80
  unfolding last_block filled
  block_end = let long = filled_long in get_or-set_same (slice_set (filled_up rest) (length rest) suffix) (rate - 1) _ 0 (omega (arith, long, short, room))

  block_before_end : (k : ℕ) → k < rate - 1 → slice_index (last_block rest rate suffix) k ≡ slice_index filled k
  block_before_end k h = block_other k (λ e. omega (arith, e, h))

-- the bytes of a padding, of which `left` are left in the block
pad_one : (rate suffix n : ℕ) → rate - n % rate ≡ 1 → slice_index (padding rate suffix n) 0 ≡ bit_xor suffix 0x80
unfolding padding
pad_one rate suffix n e = let is : eqb (rate - n % rate) 1 ≡ true = eq-eqb (rate - n % rate) 1 e in rw is refl

pad_first : (rate suffix n : ℕ) → 1 < rate - n % rate → slice_index (padding rate suffix n) 0 ≡ suffix
unfolding padding
pad_first rate suffix n h = let isnt : eqb (rate - n % rate) 1 ≡ false = ne_eqb (rate - n % rate) 1 (λ e. omega (arith, e, h)) in rw isnt refl

pad_zero : (rate suffix n j : ℕ) → suc j < rate - n % rate - 1 → slice_index (padding rate suffix n) (suc j) ≡ 0
unfolding padding
pad_zero rate suffix n j h =
    let isnt : eqb (rate - n % rate) 1 ≡ false = ne_eqb (rate - n % rate) 1 (λ e. omega (arith, e, h)) in
    let zeros = length-replicate {A = ℕ} (rate - n % rate - 2) 0 in
    rw isnt (get_or_append_left (replicate (rate - n % rate - 2) 0) (0x80 ∷ []) 0 j (omega (arith, zeros, h))
    ∙ get_or-replicate (rate - n % rate - 2) j 0 0 (omega (arith, h)))

pad_end : (rate suffix n j : ℕ) → suc j ≡ rate - n % rate - 1 → slice_index (padding rate suffix n) (suc j) ≡ 0x80
unfolding padding
pad_end rate suffix n j h =
    let isnt : eqb (rate - n % rate) 1 ≡ false = ne_eqb (rate - n % rate) 1 (λ e. omega (arith, e, h)) in
    let zeros = length-replicate {A = ℕ} (rate - n % rate - 2) 0 in
    rw isnt (get_or_at (replicate (rate - n % rate - 2) 0) 0x80 [] 0 j (omega (arith, zeros, h)))

pad_long : (rate suffix n : ℕ) → n % rate < rate → length (padding rate suffix n) ≡ rate - n % rate
unfolding padding
pad_long rate suffix n h =
    elim (cases_Bool (eqb (rate - n % rate) 1)) [
      | inl e ↦ let one = eqb-true (rate - n % rate) 1 e in rw e (sym one)
      | inr e ↦
          let off = eqb-false (rate - n % rate) 1 e in
          let zeros = length-replicate {A = ℕ} (rate - n % rate - 2) 0 in
          let both = length-append {A = ℕ} (replicate (rate - n % rate - 2) 0) (0x80 ∷ []) in
          rw e (omega (arith, zeros, both, off, h))
    ]

-- the rest of the input and its padding are the last block
module _ (rest : List ℕ) (rate suffix n : ℕ) (short : length rest < rate) (room : rate ≤ 200) (size : n % rate ≡ length rest) where
  after_rest : (k : ℕ) → length rest ≤ k → k < rate → slice_index (padding rate suffix n) (k - length rest) ≡ slice_index (last_block rest rate suffix) k
  after_rest k h low =
      elim (cases_eq k (rate - 1)) [
        | inl at_end ↦
            elim (cases_eq (length rest) (rate - 1)) [
              | inl one ↦
                  let at : k - length rest ≡ 0 = omega (arith, at_end, one) in
                  ap (slice_index (padding rate suffix n)) at
                  ∙ (pad_one rate suffix n (omega (arith, size, one, short))
                  ∙ sym (ap (slice_index (last_block rest rate suffix)) at_end
                  ∙ (block_end rest rate suffix short room
                  ∙ ap (λ (x : ℕ). bit_xor x 0x80) (ap (slice_index (filled rest rate suffix short room)) (sym one) ∙ filled_here rest rate suffix short room))))
              | inr off ↦
                  let j : ℕ = rate - length rest - 2 in
                  let at : k - length rest ≡ suc j = omega (arith, at_end, off, short) in
                  ap (slice_index (padding rate suffix n)) at
                  ∙ (pad_end rate suffix n j (omega (arith, size, off, short))
                  ∙ sym (ap (slice_index (last_block rest rate suffix)) at_end
                  ∙ (block_end rest rate suffix short room
                  ∙ (ap (λ (x : ℕ). bit_xor x 0x80) (filled_zero rest rate suffix short room (rate - 1) (omega (arith, off, short)) (omega (arith, short, room))) ∙ xor_zero_l 0x80))))
            ]
        | inr not_end ↦
            let before : k < rate - 1 = omega (arith, not_end, low) in
            elim (cases_eq k (length rest)) [
              | inl here ↦
                  let at : k - length rest ≡ 0 = omega (arith, here) in
                  ap (slice_index (padding rate suffix n)) at
                  ∙ (pad_first rate suffix n (omega (arith, size, here, before))
                  ∙ sym (block_before_end rest rate suffix short room k before
                  ∙ (ap (slice_index (filled rest rate suffix short room)) here ∙ filled_here rest rate suffix short room)))
              | inr off ↦
                  let at : k - length rest ≡ suc (k - length rest - 1) = omega (arith, off, h) in
                  ap (slice_index (padding rate suffix n)) at
                  ∙ (pad_zero rate suffix n (k - length rest - 1) (omega (arith, size, off, h, before))
                  ∙ sym (block_before_end rest rate suffix short room k before
                  ∙ filled_zero rest rate suffix short room k (omega (arith, off, h)) (omega (arith, low, room))))
            ]
      ]

  block_is : (k : ℕ) → k < rate → slice_index (rest ++ padding rate suffix n) k ≡ slice_index (last_block rest rate suffix) k
  block_is k low =
      elim (cases_lt k (length rest)) [
        | inl h ↦
            get_or_append_left rest (padding rate suffix n) 0 k h
            ∙ sym (block_before_end rest rate suffix short room k (omega (arith, h, short)) ∙ filled_front rest rate suffix short room k h)
        | inr h ↦ get_or-append_right rest (padding rate suffix n) (length rest) k 0 refl h ∙ after_rest k h low
      ]

-- the whole sponge
module _ (lanes suffix : ℕ) (input : List ℕ) (some : 0 < lanes) (most : lanes ≤ 25) where
  rate : ℕ
  rate = 8 * lanes

  whole : ℕ
  whole = length input / rate

  rest : List ℕ
  rest = drop (rate * whole) input

  p : List ℕ
  p = padded rate suffix input

  rate_some : 0 < rate
  unfolding rate
  rate_some = omega (arith, some)

  parts : rate * whole + length input % rate ≡ length input
  unfolding whole
  parts = ap (λ (x : ℕ). x + length input % rate) (mul_comm rate (length input / rate)) ∙ div-add-mod' (length input) rate

  rest_long : length rest ≡ length input % rate
  unfolding rest
  rest_long = let cut = length-drop (rate * whole) input in let all = parts in omega (arith, cut, all)

  p_long : length p ≡ suc whole * rate + 0
  unfolding p padded
  p_long =
      let both = length-append input (padding rate suffix (length input)) in
      let less = mod_below (length input) rate rate_some in
      let own = pad_long rate suffix (length input) less in
      let all = parts in
      let more : suc whole * rate ≡ rate * whole + rate = mul_comm (suc whole) rate ∙ omega arith in
      omega (arith, both, less, own, all, more)

  blocks : length p / rate ≡ suc whole
  blocks = ap (λ (x : ℕ). x / rate) p_long ∙ div-mul-add (suc whole) rate 0 rate_some

  step_same : (a : List ℕ) (n : ℕ) → n < whole → absorbed_next p lanes a n ≡ absorbed_next input lanes a n
  unfolding absorbed_next p padded rate
  step_same a n h =
      absorbed_same (input ++ padding (8 * lanes) suffix (length input)) input (8 * lanes * n) (8 * lanes * n) lanes
      (λ k less.
      let all = parts in
      let fits : n * rate + rate ≤ whole * rate = row_fits n rate whole rate h (omega arith) in
      let x : n * rate ≡ 8 * lanes * n = mul_comm n rate in
      let y : whole * rate ≡ rate * whole = mul_comm whole rate in
      get_or_append_left input (padding (8 * lanes) suffix (length input)) 0 (8 * lanes * n + k) (omega (arith, less, all, fits, x, y)))
      a

  steps_same : (n : ℕ) → n ≤ whole → repeated (absorbed_next p lanes) (replicate 25 0) n ≡ repeated (absorbed_next input lanes) (replicate 25 0) n
  unfolding repeated
  steps_same zero h = refl
  steps_same (suc n) h =
      ap (λ (a : List ℕ). absorbed_next p lanes a n) (steps_same n (omega (arith, h))) ∙ step_same (repeated (absorbed_next input lanes) (replicate 25 0) n) n (omega (arith, h))

  last_byte : (k : ℕ) → k < rate → slice_index p (rate * whole + k) ≡ slice_index (last_block rest rate suffix) (0 + k)
  unfolding p padded rest
  last_byte k h =
      let all = parts in
      let size = rest_long in
      let less = mod_below (length input) rate rate_some in
      let same : 0 + k ≡ k = omega arith in
      sym (get_or-drop (rate * whole) (input ++ padding rate suffix (length input)) k 0)
      ∙ (ap (λ (xs : List ℕ). slice_index xs k) (drop-append-le (rate * whole) input (padding rate suffix (length input)) (omega (arith, all)))
      ∙ (block_is (drop (rate * whole) input) rate suffix (length input) (omega (arith, size, less)) (narrow most) (sym size) k h ∙ ap (slice_index (last_block (drop (rate * whole) input) rate suffix)) (sym same)))
    where
      narrow : lanes ≤ 25 → rate ≤ 200
      narrow h = unfold rate in omega (arith, h)

  pub sponge_is : sponge lanes suffix input ≡ absorbed_blocks lanes (padded (8 * lanes) suffix input)
  unfolding sponge absorbed_blocks absorbed_next repeated rate whole rest p
  sponge_is =
      let so_far : List ℕ = repeated (absorbed_next input lanes) (replicate 25 0) (length input / (8 * lanes)) in
      sym (ap (repeated (absorbed_next (padded (8 * lanes) suffix input) lanes) (replicate 25 0)) blocks
      ∙ (ap (λ (a : List ℕ). absorbed a (padded (8 * lanes) suffix input) (8 * lanes * (length input / (8 * lanes))) lanes) (steps_same whole (omega arith))
      ∙ absorbed_same (padded (8 * lanes) suffix input) _ (8 * lanes * (length input / (8 * lanes))) 0 lanes last_byte so_far))
