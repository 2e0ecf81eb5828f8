-- The key stream of counter mode: bytes, as many as its blocks have.

use Rattle.std.proofs.Common.{◌≡◌, ℕ, zero, suc, ◌*◌, List, [], ◌∷◌, ◌++◌, length, refl, sym, ap, ◌∙◌, arith}
use Rattle.std.proofs.lemmas.List.{append-nil, append_assoc, length-append}
use Rattle.std.specs.Int.{byte_at, bytes_high_first}
use Rattle.std.specs.Prelude.{replicate}
use Rattle.sshwire.specs.ByteLaws.{bytes_append, bytes_cons, bytes_none}
use Rattle.sshwire.specs.Types.{IsBytes}
use Rattle.sshsuite.specs.CounterMode.{stream_block, stream_to}
use Rattle.sshsuite.specs.KeyStream.{byte_low}

pub bytes_high : (k n : ℕ) → IsBytes (bytes_high_first k n)
bytes_high zero n = bytes_none
bytes_high (suc k) n = bytes_cons (byte_at k n) (bytes_high_first k n) (byte_low k n) (bytes_high k n)

-- the mask of a length that stays clear
pub clear_front : IsBytes (replicate 4 0)
clear_front =
    bytes_cons 0 (0 ∷ 0 ∷ 0 ∷ []) (omega arith) (bytes_cons 0 (0 ∷ 0 ∷ []) (omega arith) (bytes_cons 0 (0 ∷ []) (omega arith) (bytes_cons 0 [] (omega arith) bytes_none)))

length_block : (keys : List ℕ) (counter i : ℕ) → length (stream_block keys counter i) ≡ 16
unfolding stream_block
length_block keys counter i = refl

bytes_block : (keys : List ℕ) (counter i : ℕ) → IsBytes (stream_block keys counter i)
unfolding stream_block
bytes_block keys counter i = bytes_high 16 _

pub length_stream : (keys : List ℕ) (counter n : ℕ) → length (stream_to keys counter n) ≡ 16 * n
unfolding stream_to
length_stream keys counter zero = refl
length_stream keys counter (suc n) =
    let before = length_stream keys counter n in
    let last = length_block keys counter n in
    let both = length-append (stream_to keys counter n) (stream_block keys counter n) in
    omega (arith, before, last, both)

pub bytes_stream : (keys : List ℕ) (counter n : ℕ) → IsBytes (stream_to keys counter n)
unfolding stream_to
bytes_stream keys counter zero = bytes_none
bytes_stream keys counter (suc n) =
    bytes_append (stream_to keys counter n) (stream_block keys counter n) (bytes_stream keys counter n) (bytes_block keys counter n)

-- the first block stands at the front
pub stream_front : (keys : List ℕ) (counter n : ℕ) → (more : List ℕ) × (stream_to keys counter (suc n) ≡ stream_to keys counter 1 ++ more)
unfolding stream_to
stream_front keys counter zero = ([], sym (append-nil (stream_to keys counter 1)))
stream_front keys counter (suc n) =
    let before = stream_front keys counter n in (
      before.0 ++ stream_block keys counter (suc n),
      ap (λ (xs : List ℕ). xs ++ stream_block keys counter (suc n)) before.1 ∙ append_assoc (stream_to keys counter 1) before.0 (stream_block keys counter (suc n)),
    )
