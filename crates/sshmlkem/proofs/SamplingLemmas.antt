-- What is drawn from a stream is the first of its filter, and what is drawn from bytes is told by their bits.

use Rattle.std.proofs.Common.{◌≡◌, ℕ, zero, suc, ◌+◌, ◌-◌, ◌*◌, ◌/◌, ◌%◌, ◌^◌, ◌≤◌, ◌<◌, inl, inr, Bool, List, [], ◌∷◌, ◌++◌, length, take, refl, sym, ap, ap₂, ◌∙◌, arith, append_assoc}
use Rattle.std.proofs.lemmas.Bool.{cases_Bool, ltb-false, ltb-true}
use Rattle.std.proofs.lemmas.List.{append-nil, length-append, length-replicate, length-take, set_at, take-append-le, take_all, take_more}
use Rattle.std.proofs.lemmas.List.Elements.{filter-append}
use Rattle.std.specs.List.{filter}
use Rattle.std.specs.Prelude.{◌&&◌, min, nat_lt, replicate, slice_index, slice_set}
use Rattle.sshkeccak.specs.Repeated.{repeated}
use Rattle.sshkeccak.specs.Sponge.{bytes_of, shake128_block, shake128_next, shake128_start}
use Rattle.sshmlkem.proofs.BitLemmas.{bit_at}
use Rattle.sshmlkem.proofs.TableLemmas.{filled}
use Rattle.sshmlkem.specs.Codec.{first_12, second_12}
use Rattle.sshmlkem.specs.KemBytes.{IsBytes, state_bytes}
use Rattle.sshmlkem.specs.Sample.{accepted_data, centred, drawn, drawn_next, nothing_taken, offered, offered_block, offered_three, sample_cbd, sample_ntt, with_two}
use Rattle.sshmlkem.specs.Streams.{accepted_of, binomial, binomial_at, candidates, first_256, state_of, stream}
use Rattle.sshmlkem.specs.declared.sample.Taken.{Taken}

-- the first of numbers, with zeros after them
padded : ℕ → List ℕ → List ℕ
padded size xs = take size xs ++ replicate (size - length xs) 0

padded_more : (size : ℕ) (xs : List ℕ) (n : ℕ) → length xs < size → slice_set (padded size xs) (length xs) n ≡ padded size (xs ++ n ∷ [])
unfolding padded
padded_more size xs n h =
    let rest : ℕ = size - suc (length xs) in
    let left : size - length xs ≡ suc rest = omega (arith, h) in
    let long : length (xs ++ n ∷ []) ≡ length xs + 1 = length-append xs (n ∷ []) in
    let less : size - length (xs ++ n ∷ []) ≡ rest = omega (arith, long) in
    ap₂ (λ (ys : List ℕ) (k : ℕ). slice_set (ys ++ replicate k 0) (length xs) n) (take_all size xs (omega (arith, h))) left
    ∙ (set_at xs 0 (replicate rest 0) n (length xs) refl
    ∙ (sym (append_assoc xs (n ∷ []) (replicate rest 0))
    ∙ sym (ap₂ (λ (ys : List ℕ) (k : ℕ). ys ++ replicate k 0) (take_all size (xs ++ n ∷ []) (omega (arith, long, h))) less)))

padded_over : (size : ℕ) (xs ys : List ℕ) → size ≤ length xs → padded size (xs ++ ys) ≡ padded size xs
unfolding padded
padded_over size xs ys h =
    let long = length-append xs ys in
    let none : size - length (xs ++ ys) ≡ 0 = omega (arith, long, h) in
    let none' : size - length xs ≡ 0 = omega (arith, h) in
    ap₂ (λ (zs : List ℕ) (k : ℕ). zs ++ replicate k 0) (take-append-le size xs ys h) (none ∙ sym none')

padded_all : (size : ℕ) (xs : List ℕ) → size ≤ length xs → padded size xs ≡ take size xs
unfolding padded
padded_all size xs h = let none : size - length xs ≡ 0 = omega (arith, h) in rw none (append-nil (take size xs))

abbrev is_low : ℕ → Bool
is_low n = nat_lt n 3329

-- what was taken of these numbers, all below q
record Holds (xs : List ℕ) (t : Taken) : Type 0 where
  pub numbers : t.numbers ≡ padded 256 xs
  pub count : t.count ≡ min 256 (length xs)

holds_at : (xs ys : List ℕ) (t u : Taken) → xs ≡ ys → u ≡ t → Holds xs t → Holds ys u
holds_at xs ys t u e d h = rw (← e, d) h

holds_over : (xs ys : List ℕ) (t : Taken) → 256 ≤ t.count → Holds xs t → Holds (xs ++ ys) t
holds_over xs ys t full h =
    let count = h.count in
    let long = length-append xs ys in
    let over : 256 ≤ length xs = omega (arith, count, full) in
    record { numbers = h.numbers ∙ sym (padded_over 256 xs ys over); count = omega (arith, count, long, over) }

offered_holds : (xs : List ℕ) (t : Taken) (n : ℕ) → Holds xs t → Holds (xs ++ filter is_low (n ∷ [])) (offered t n)
unfolding offered
offered_holds xs t n h =
    let count = h.count in
    elim (cases_Bool (is_low n)) [
      | inr e ↦ rw (e, append-nil xs) h
      | inl e ↦
          elim (cases_Bool (nat_lt t.count 256)) [
            | inr d ↦ let over = holds_over xs (n ∷ []) t (ltb-false t.count 256 d) h in rw (e, d) over
            | inl d ↦
                let room = ltb-true t.count 256 d in
                let here : t.count ≡ length xs = omega (arith, count, room) in
                let long : length (xs ++ n ∷ []) ≡ length xs + 1 = length-append xs (n ∷ []) in
                let put : slice_set t.numbers t.count n ≡ padded 256 (xs ++ n ∷ []) =
                ap₂ (λ (ys : List ℕ) (k : ℕ). slice_set ys k n) h.numbers here ∙ padded_more 256 xs n (omega (arith, here, room)) in
                let more : Holds (xs ++ n ∷ []) (record { numbers = slice_set t.numbers t.count n; count = t.count + 1; state = t.state }) =
                record { numbers = put; count = omega (arith, here, long, room) } in
                rw (e, d) more
          ]
    ]

offered_state : (t : Taken) (n : ℕ) → (offered t n).state ≡ t.state
unfolding offered
offered_state t n =
    elim (cases_Bool (is_low n && nat_lt t.count 256)) [ inl e ↦ rw e refl | inr e ↦ rw e refl ]

-- candidates
candidates_append : (n : ℕ) (xs ys : List ℕ) → length xs ≡ 3 * n → candidates (xs ++ ys) ≡ candidates xs ++ candidates ys
unfolding candidates
candidates_append zero [] ys h = refl
candidates_append zero (a ∷ xs) ys h = absurd (omega (arith, h))
candidates_append (suc n) [] ys h = absurd (omega (arith, h))
candidates_append (suc n) (a ∷ []) ys h = absurd (omega (arith, h))
candidates_append (suc n) (a ∷ b ∷ []) ys h = absurd (omega (arith, h))
candidates_append (suc n) (a ∷ b ∷ c ∷ xs) ys h =
    ap (λ (zs : List ℕ). first_12 a b ∷ second_12 b c ∷ zs) (candidates_append n xs ys (omega (arith, h)))

accepted_append : (n : ℕ) (xs ys : List ℕ) → length xs ≡ 3 * n → accepted_of (xs ++ ys) ≡ accepted_of xs ++ accepted_of ys
unfolding accepted_of
accepted_append n xs ys h = ap (filter is_low) (candidates_append n xs ys h) ∙ filter-append is_low (candidates xs) (candidates ys)

nothing_accepted : accepted_of [] ≡ []
unfolding accepted_of candidates
nothing_accepted = refl

-- three bytes
three : List ℕ → ℕ → List ℕ
three block i = slice_index block (3 * i) ∷ slice_index block (3 * i + 1) ∷ slice_index block (3 * i + 2) ∷ []

three_more : (block : List ℕ) (i : ℕ) → 3 * i + 3 ≤ length block → take (3 * suc i) block ≡ take (3 * i) block ++ three block i
unfolding three
three_more block i h =
    let a = take_more block (3 * i) 0 (omega (arith, h)) in
    let b = take_more block (3 * i + 1) 0 (omega (arith, h)) in
    let c = take_more block (3 * i + 2) 0 (omega (arith, h)) in
    let size : 3 * suc i ≡ 3 * i + 2 + 1 = omega arith in
    let size_b : 3 * i + 2 ≡ 3 * i + 1 + 1 = omega arith in
    let x : ℕ = slice_index block (3 * i) in
    let y : ℕ = slice_index block (3 * i + 1) in
    let z : ℕ = slice_index block (3 * i + 2) in
    ap (λ (k : ℕ). take k block) size
    ∙ (c ∙ (ap (λ (ys : List ℕ). ys ++ z ∷ []) (ap (λ (k : ℕ). take k block) size_b ∙ (b ∙ ap (λ (ys : List ℕ). ys ++ y ∷ []) a))
    ∙ (ap (λ (ys : List ℕ). ys ++ z ∷ []) (append_assoc (take (3 * i) block) (x ∷ []) (y ∷ [])) ∙ append_assoc (take (3 * i) block) (x ∷ y ∷ []) (z ∷ []))))

three_accepted : (block : List ℕ) (i : ℕ)
    → accepted_of (three block i)
    ≡ filter is_low (first_12 (slice_index block (3 * i)) (slice_index block (3 * i + 1)) ∷ [])
    ++ filter is_low (second_12 (slice_index block (3 * i + 1)) (slice_index block (3 * i + 2)) ∷ [])
unfolding three accepted_of candidates
three_accepted block i =
    filter-append is_low (first_12 (slice_index block (3 * i)) (slice_index block (3 * i + 1)) ∷ [])
    (second_12 (slice_index block (3 * i + 1)) (slice_index block (3 * i + 2)) ∷ [])

block_to : (block : List ℕ) → length block ≡ 168 → (xs : List ℕ) (t : Taken) → Holds xs t → (n : ℕ) → n ≤ 56
    → Holds (xs ++ accepted_of (take (3 * n) block)) (repeated (offered_three block) t n) × ((repeated (offered_three block) t n).state ≡ t.state)
unfolding repeated offered_three
block_to block long xs t h zero room = (holds_at xs _ t t (sym (ap (λ (ys : List ℕ). xs ++ ys) nothing_accepted ∙ append-nil xs)) refl h, refl)
block_to block long xs t h (suc n) room =
    let before = block_to block long xs t h n (omega (arith, room)) in
    let so_far : Taken = repeated (offered_three block) t n in
    let a : ℕ = first_12 (slice_index block (3 * n)) (slice_index block (3 * n + 1)) in
    let b : ℕ = second_12 (slice_index block (3 * n + 1)) (slice_index block (3 * n + 2)) in
    let ys : List ℕ = xs ++ accepted_of (take (3 * n) block) in
    let own : Holds ((ys ++ filter is_low (a ∷ [])) ++ filter is_low (b ∷ [])) (offered (offered so_far a) b) =
    offered_holds (ys ++ filter is_low (a ∷ [])) (offered so_far a) b (offered_holds ys so_far a before.0) in
    let front_long : length (take (3 * n) block) ≡ 3 * n = let cut = length-take (3 * n) block in omega (arith, cut, long, room) in
    let all : accepted_of (take (3 * suc n) block) ≡ accepted_of (take (3 * n) block) ++ (filter is_low (a ∷ []) ++ filter is_low (b ∷ [])) =
    ap accepted_of (three_more block n (omega (arith, long, room)))
    ∙ (accepted_append n (take (3 * n) block) (three block n) front_long ∙ ap (λ (zs : List ℕ). accepted_of (take (3 * n) block) ++ zs) (three_accepted block n)) in
    let same : (ys ++ filter is_low (a ∷ [])) ++ filter is_low (b ∷ []) ≡ xs ++ accepted_of (take (3 * suc n) block) =
    append_assoc ys (filter is_low (a ∷ [])) (filter is_low (b ∷ []))
    ∙ (append_assoc xs (accepted_of (take (3 * n) block)) (filter is_low (a ∷ []) ++ filter is_low (b ∷ [])) ∙ ap (λ (zs : List ℕ). xs ++ zs) (sym all)) in
    (holds_at _ _ _ _ same refl own, offered_state (offered so_far a) b ∙ (offered_state so_far a ∙ before.1))

block_long : (state : List ℕ) → length (shake128_block state) ≡ 168
unfolding shake128_block
block_long state =
    let all = state_bytes state in
    let cut = length-take 168 (bytes_of state) in
    let long = all.long in
    omega (arith, cut, long)

block_holds : (state : List ℕ) (xs : List ℕ) (t : Taken) → Holds xs t
    → Holds (xs ++ accepted_of (shake128_block state)) (offered_block t (shake128_block state)) × ((offered_block t (shake128_block state)).state ≡ t.state)
unfolding offered_block
block_holds state xs t h =
    let block : List ℕ = shake128_block state in
    let long = block_long state in
    let all = block_to block long xs t h 56 (omega arith) in
    let whole : take (3 * 56) block ≡ block = take_all 168 block (omega (arith, long)) in
    (holds_at _ _ _ _ (ap (λ (ys : List ℕ). xs ++ accepted_of ys) whole) refl all.0, all.1)

-- blocks
stream_long : (start : List ℕ) (n : ℕ) → length (stream start n) ≡ 3 * (56 * n)
unfolding stream
stream_long start zero = refl
stream_long start (suc n) =
    let before = stream_long start n in
    let own = block_long (state_of start n) in
    let both = length-append (stream start n) (shake128_block (state_of start n)) in
    omega (arith, before, own, both)

stream_more : (start : List ℕ) (n : ℕ) → accepted_of (stream start (suc n)) ≡ accepted_of (stream start n) ++ accepted_of (shake128_block (state_of start n))
unfolding stream
stream_more start n = accepted_append (56 * n) (stream start n) (shake128_block (state_of start n)) (stream_long start n)

empty : replicate 256 0 ≡ padded 256 []
unfolding padded
empty = refl

no_stream : (start : List ℕ) → accepted_of (stream start 0) ≡ []
unfolding stream
no_stream start = nothing_accepted

started : List ℕ → Taken
started start = offered_block (nothing_taken start) (shake128_block start)

started_holds : (start : List ℕ) → Holds (accepted_of (stream start 1)) (started start) × ((started start).state ≡ start)
unfolding started state_of
started_holds start =
    let none : Holds [] (nothing_taken start) = record { numbers = empty; count = refl } in
    let own = block_holds start [] (nothing_taken start) none in
    (holds_at _ _ _ _ (sym (stream_more start 0 ∙ ap (λ (ys : List ℕ). ys ++ accepted_of (shake128_block start)) (no_stream start))) refl own.0, own.1)

drawn_to : (start : List ℕ) (n : ℕ) → (let t = repeated drawn_next (started start) n in
    Holds (accepted_of (stream start (suc n))) t × (t.count < 256 → t.state ≡ state_of start n))
unfolding repeated drawn_next drawn state_of
drawn_to start zero = let own = started_holds start in (own.0, λ less. own.1)
drawn_to start (suc n) =
    let before = drawn_to start n in
    let t : Taken = repeated drawn_next (started start) n in
    let xs : List ℕ = accepted_of (stream start (suc n)) in
    let more : accepted_of (stream start (suc (suc n))) ≡ xs ++ accepted_of (shake128_block (state_of start (suc n))) = stream_more start (suc n) in
    elim (cases_Bool (nat_lt t.count 256)) [
      | inr e ↦
          let full = ltb-false t.count 256 e in
          rw e (holds_at _ _ t t (sym more) refl (holds_over xs _ t full before.0), λ less. absurd (omega (arith, less, full)))
      | inl e ↦
          let room = ltb-true t.count 256 e in
          let state : shake128_next t.state ≡ shake128_next (state_of start n) = ap shake128_next (before.1 room) in
          let from : Taken = record { numbers = t.numbers; count = t.count; state = shake128_next t.state } in
          let h : Holds xs from = record { numbers = before.0.numbers; count = before.0.count } in
          let own = block_holds (shake128_next t.state) xs from h in
          rw e (
            holds_at _ _ _ _ (ap (λ (s : List ℕ). xs ++ accepted_of (shake128_block s)) state ∙ sym more) refl own.0,
            λ less. own.1 ∙ state,
          )
    ]

pub sampled : (seed : List ℕ) (column row : ℕ)
    → sample_ntt seed column row ≡ first_256 (accepted_of (stream (shake128_start (seed ++ column ∷ row ∷ [])) 5))
unfolding sample_ntt accepted_data first_256 padded started
sampled seed column row =
    let all = drawn_to (shake128_start (seed ++ column ∷ row ∷ [])) 4 in all.0.numbers

pub sampled_all : (seed : List ℕ) (column row : ℕ) → 256 ≤ length (accepted_of (stream (shake128_start (seed ++ column ∷ row ∷ [])) 5))
    → sample_ntt seed column row ≡ take 256 (accepted_of (stream (shake128_start (seed ++ column ∷ row ∷ [])) 5))
unfolding first_256 padded
sampled_all seed column row h =
    sampled seed column row ∙ padded_all 256 (accepted_of (stream (shake128_start (seed ++ column ∷ row ∷ [])) 5)) h

-- by bits
same_of : (a b c d p q r s : ℕ) → a ≡ p → b ≡ q → c ≡ r → d ≡ s → (a + b + 3329 - (c + d)) % 3329 ≡ (p + q + 3329 - (r + s)) % 3329
same_of a b c d p q r s e f g h = cc

two_of : List ℕ → ℕ → List ℕ
two_of bytes i = centred (slice_index bytes i % 16) ∷ centred (slice_index bytes i / 16) ∷ []

two_are : (bytes : List ℕ) → IsBytes bytes → (i j : ℕ) → i < 128 → j < 2 → slice_index (two_of bytes i) j ≡ binomial_at bytes (2 * i + j)
unfolding two_of centred binomial_at
two_are bytes are i zero h k =
    let a = bit_at 8 bytes i 0 (4 * (2 * i + 0)) (omega arith) (omega arith) in
    let b = bit_at 8 bytes i 1 (4 * (2 * i + 0) + 1) (omega arith) (omega arith) in
    let c = bit_at 8 bytes i 2 (4 * (2 * i + 0) + 2) (omega arith) (omega arith) in
    let d = bit_at 8 bytes i 3 (4 * (2 * i + 0) + 3) (omega arith) (omega arith) in
    let x : ℕ = slice_index bytes i in
    let p : x % 16 % 2 ≡ x / 2 ^ 0 % 2 = omega arith in
    let q : x % 16 / 2 % 2 ≡ x / 2 ^ 1 % 2 = omega arith in
    let r : x % 16 / 4 % 2 ≡ x / 2 ^ 2 % 2 = omega arith in
    let s : x % 16 / 8 % 2 ≡ x / 2 ^ 3 % 2 = omega arith in
    same_of _ _ _ _ _ _ _ _ (p ∙ sym a) (q ∙ sym b) (r ∙ sym c) (s ∙ sym d)
two_are bytes are i (suc zero) h k =
    let a = bit_at 8 bytes i 4 (4 * (2 * i + 1)) (omega arith) (omega arith) in
    let b = bit_at 8 bytes i 5 (4 * (2 * i + 1) + 1) (omega arith) (omega arith) in
    let c = bit_at 8 bytes i 6 (4 * (2 * i + 1) + 2) (omega arith) (omega arith) in
    let d = bit_at 8 bytes i 7 (4 * (2 * i + 1) + 3) (omega arith) (omega arith) in
    let x : ℕ = slice_index bytes i in
    let p : x / 16 % 2 ≡ x / 2 ^ 4 % 2 = refl in
    let q : x / 16 / 2 % 2 ≡ x / 2 ^ 5 % 2 = omega arith in
    let r : x / 16 / 4 % 2 ≡ x / 2 ^ 6 % 2 = omega arith in
    let s : x / 16 / 8 % 2 ≡ x / 2 ^ 7 % 2 = omega arith in
    same_of _ _ _ _ _ _ _ _ (p ∙ sym a) (q ∙ sym b) (r ∙ sym c) (s ∙ sym d)
two_are bytes are i (suc (suc j)) h k = absurd (omega (arith, k))

pub sample_cbd_is : (bytes : List ℕ) → IsBytes bytes → sample_cbd bytes ≡ binomial bytes
unfolding sample_cbd with_two two_of binomial
sample_cbd_is bytes are =
    filled 2 (two_of bytes) (with_two bytes) (record { long = λ i. refl; is = λ xs i. refl }) (replicate 256 0) 128 256 (binomial_at bytes) (omega arith) refl
    (length-replicate {A = ℕ} 256 0) (two_are bytes are)
