-- Counter mode (NIST SP 800-38A section 6.5): the blocks of a key stream are counters, one after another, encrypted.

use Rattle.std.proofs.Common.{◌≡◌, add-one, refl}
use Rattle.std.specs.Prelude.{ℕ, zero, suc, ◌+◌, ◌%◌, ◌^◌, ◌<◌, List, [], ◌∷◌, ◌++◌, slice_index}
use Rattle.std.specs.Int.{w128, to_be_bytes}
use Rattle.sshsuite.specs.Aes.{cipher}

-- a block of the key stream from this counter on, as a number
unfoldable pub stream_number : List ℕ → ℕ → ℕ → ℕ
stream_number keys counter i = cipher keys ((counter + i) % 2 ^ 128)

-- block i of the key stream, as bytes
unfoldable pub stream_block : List ℕ → ℕ → ℕ → List ℕ
stream_block keys counter i = to_be_bytes w128 (stream_number keys counter i)

-- the first so many blocks of the key stream
unfoldable pub stream_to : List ℕ → ℕ → ℕ → List ℕ
stream_to keys counter zero = []
stream_to keys counter (suc n) = stream_to keys counter n ++ stream_block keys counter n

pub stream_none : (keys : List ℕ) (counter : ℕ) → stream_to keys counter 0 ≡ []
unfolding stream_to
stream_none keys counter = refl

pub stream_more : (keys : List ℕ) (counter n : ℕ) → stream_to keys counter (n + 1) ≡ stream_to keys counter n ++ stream_block keys counter n
unfolding stream_to
stream_more keys counter n = rw (add-one n) refl

-- eight blocks of it, from this one on
unfoldable pub eight_from : List ℕ → ℕ → ℕ → List ℕ
eight_from keys counter i =
    stream_number keys counter i ∷ stream_number keys counter (i + 1) ∷ stream_number keys counter (i + 2) ∷ stream_number keys counter (i + 3)
    ∷ stream_number keys counter (i + 4) ∷ stream_number keys counter (i + 5) ∷ stream_number keys counter (i + 6) ∷ stream_number keys counter (i + 7) ∷ []

-- from this place in eight blocks on stand those of the key stream, from this one on
abbrev pub HoldsFrom : List ℕ → ℕ → ℕ → ℕ → List ℕ → Type 0
HoldsFrom keys counter i place eight = (k : ℕ) → place + k < 8 → slice_index eight (place + k) ≡ stream_number keys counter (i + k)
