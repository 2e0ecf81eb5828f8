-- The blocks that a mask is cut from.

use Rattle.std.proofs.Common.{◌≡◌, ℕ, zero, suc, ◌+◌, ◌*◌, ◌/◌, ◌%◌, List, [], ◌∷◌, ◌++◌, length, add-one, refl, sym, ap, ◌∙◌, arith}
use Rattle.std.proofs.lemmas.List.{append-nil, append_assoc, length-append}
use Rattle.std.specs.Int.{to_be_bytes, w32}
use Rattle.std.specs.Prelude.{slice_index}
use Rattle.sha2.proofs.Facts256.{length-sha256}
use Rattle.sha2.specs.Sha256.{digest_bytes, final_hash, initial_hash_256, sha256}
use Rattle.sshwire.specs.ByteLaws.{bytes_append, bytes_cons, bytes_none}
use Rattle.sshwire.specs.Types.{IsBytes}
use Rattle.sshlabsuites.specs.Lab.{block_input, stream}

-- Bytes.
word_bytes : (n : ℕ) → IsBytes (to_be_bytes w32 n)
word_bytes n = bytes_cons (n / 16777216 % 256) (n / 65536 % 256 ∷ n / 256 % 256 ∷ n % 256 ∷ []) (omega arith)
    (bytes_cons (n / 65536 % 256) (n / 256 % 256 ∷ n % 256 ∷ []) (omega arith)
    (bytes_cons (n / 256 % 256) (n % 256 ∷ []) (omega arith)
    (bytes_cons (n % 256) [] (omega arith) bytes_none)))

bytes_digest : (h : List ℕ) (n : ℕ) → IsBytes (digest_bytes h n)
unfolding digest_bytes
bytes_digest h zero = bytes_none
bytes_digest h (suc n) = bytes_append (digest_bytes h n) (to_be_bytes w32 (slice_index h n)) (bytes_digest h n) (word_bytes (slice_index h n))

pub bytes_sha256 : (m : List ℕ) → IsBytes (sha256 m)
unfolding sha256
bytes_sha256 m = bytes_digest (final_hash initial_hash_256 m) 8

-- Blocks.
pub stream_none : (seed : List ℕ) (seq : ℕ) → stream seed seq 0 ≡ []
unfolding stream
stream_none seed seq = refl

pub stream_more : (seed : List ℕ) (seq n : ℕ) → stream seed seq (n + 1) ≡ stream seed seq n ++ sha256 (block_input seed seq n)
unfolding stream
stream_more seed seq n = rw (add-one n) refl

pub stream_length : (seed : List ℕ) (seq n : ℕ) → length (stream seed seq n) ≡ 32 * n
unfolding stream
stream_length seed seq zero = refl
stream_length seed seq (suc n) =
    let before = stream_length seed seq n in
    let block = length-sha256 (block_input seed seq n) in
    let both = length-append (stream seed seq n) (sha256 (block_input seed seq n)) in
    omega (arith, before, block, both)

pub bytes_stream : (seed : List ℕ) (seq n : ℕ) → IsBytes (stream seed seq n)
unfolding stream
bytes_stream seed seq zero = bytes_none
bytes_stream seed seq (suc n) =
    bytes_append (stream seed seq n) (sha256 (block_input seed seq n)) (bytes_stream seed seq n) (bytes_sha256 (block_input seed seq n))

-- a stream begins with its first block
pub stream_begins : (seed : List ℕ) (seq n : ℕ) → (more : List ℕ) × (stream seed seq (suc n) ≡ stream seed seq 1 ++ more)
unfolding stream
stream_begins seed seq zero = ([], sym (append-nil (stream seed seq 1)))
stream_begins seed seq (suc n) =
    let before = stream_begins seed seq n in
    let block : List ℕ = sha256 (block_input seed seq (suc n)) in
    (before.0 ++ block, ap (λ (xs : List ℕ). xs ++ block) before.1 ∙ append_assoc (stream seed seq 1) before.0 block)
