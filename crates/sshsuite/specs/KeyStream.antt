-- The key stream: ChaCha20 with a counter and a nonce of 64 bits each, of which the nonce is the packet's number, the highest
-- byte first.

use Rattle.std.proofs.Common.{◌≡◌, zero, suc, ◌<◌, length, refl, arith}
use Rattle.std.proofs.lemmas.List.{length-append, length-take-le}
use Rattle.std.specs.Prelude.{ℕ, ◌+◌, ◌*◌, ◌/◌, ◌%◌, ◌^◌, List}
use Rattle.std.specs.Int.{w32, w64, byte_at, bytes_low_first, swap_bytes, to_le_bytes}
use Rattle.rand_chacha.specs.ChaCha.{ChaCha, key_of, next_word}
use Rattle.rand_core.specs.Steps.{fill_via_u32, steps_u32, stream_of, word_bytes}
use Rattle.rand_core.specs.Stream.{fill_bytes}
use Rattle.sshwire.specs.ByteLaws.{bytes_append, bytes_cons, bytes_none, bytes_taken}
use Rattle.sshwire.specs.Types.{IsBytes}

-- the generator of the stream for the packet with this number, from a block on
unfoldable pub generator : List ℕ → ℕ → ℕ → ChaCha
generator key seq block = record { key = key_of key; stream = swap_bytes w64 seq; word_pos = 16 * block % 2 ^ 68 }

-- the first so many bytes of this generator's stream
unfoldable pub filled : ChaCha → ℕ → List ℕ
filled g len = (fill_via_u32 (next_word 10) len g).0

-- so many bytes of the stream of a key for the packet of this number, from a block on (RFC 8439 section 2.3, with the counter and the nonce
-- of OpenSSH PROTOCOL.chacha20poly1305)
unfoldable pub stream : List ℕ → ℕ → ℕ → ℕ → List ℕ
stream key seq block len = filled (generator key seq block) len

-- what is filled by a generator in this state
pub filled_is : (g : ChaCha) (n : ℕ) → (fill_bytes n (stream_of (steps_u32 (next_word 10)) g)).0 ≡ filled g n
unfolding fill_bytes stream_of filled
filled_is g n = refl

length_words : {S : Type 0} (step : S → ℕ × S) (k : ℕ) (s : S) → length (word_bytes (to_le_bytes w32) step k s).0 ≡ 4 * k
unfolding word_bytes
length_words step zero s = refl
length_words step (suc k) s =
    let before = word_bytes (to_le_bytes w32) step k s in
    let long : length before.0 ≡ 4 * k = length_words step k s in
    let both = length-append before.0 (to_le_bytes w32 (step before.1).0) in
    omega (arith, long, both)

pub byte_low : (i n : ℕ) → byte_at i n < 256
byte_low zero n = omega arith
byte_low (suc i) n = omega arith

pub bytes_low : (i k n : ℕ) → IsBytes (bytes_low_first i k n)
bytes_low i zero n = bytes_none
bytes_low i (suc k) n = bytes_cons (byte_at i n) (bytes_low_first (suc i) k n) (byte_low i n) (bytes_low (suc i) k n)

bytes_word : (n : ℕ) → IsBytes (to_le_bytes w32 n)
bytes_word n = bytes_low 0 4 n

bytes_words : {S : Type 0} (step : S → ℕ × S) (k : ℕ) (s : S) → IsBytes (word_bytes (to_le_bytes w32) step k s).0
unfolding word_bytes
bytes_words step zero s = bytes_none
bytes_words step (suc k) s =
    let before = word_bytes (to_le_bytes w32) step k s in
    bytes_append before.0 (to_le_bytes w32 (step before.1).0) (bytes_words step k s) (bytes_word (step before.1).0)

pub length_stream : (key : List ℕ) (seq block len : ℕ) → length (stream key seq block len) ≡ len
unfolding stream filled
length_stream key seq block len =
    let all : List ℕ = (word_bytes (to_le_bytes w32) (next_word 10) ((len + 3) / 4) (generator key seq block)).0 in
    let long : length all ≡ 4 * ((len + 3) / 4) = length_words (next_word 10) ((len + 3) / 4) (generator key seq block) in
    length-take-le len all (omega arith)

pub bytes_stream : (key : List ℕ) (seq block len : ℕ) → IsBytes (stream key seq block len)
unfolding stream filled
bytes_stream key seq block len =
    bytes_taken len (word_bytes (to_le_bytes w32) (next_word 10) ((len + 3) / 4) (generator key seq block)).0
    (bytes_words (next_word 10) ((len + 3) / 4) (generator key seq block))
