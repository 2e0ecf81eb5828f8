-- What SHA-256 and SHA-512 give is bytes.

use Rattle.std.proofs.Common.{ℕ, zero, suc, List}
use Rattle.std.specs.Int.{to_be_bytes, w32, w64}
use Rattle.std.specs.Prelude.{slice_index}
use Rattle.sha2.specs.Sha256.{digest_bytes as bytes_of_256, final_hash as hash_256, initial_hash_256, sha256}
use Rattle.sha2.specs.Sha512.{digest_bytes as bytes_of_512, final_hash as hash_512, initial_hash_512, sha512}
use Rattle.sshwire.specs.ByteLaws.{bytes_append, bytes_none}
use Rattle.sshwire.specs.Types.{IsBytes}
use Rattle.sshsuite.specs.CounterModeLaws.{bytes_high}

words_256 : (h : List ℕ) (n : ℕ) → IsBytes (bytes_of_256 h n)
unfolding bytes_of_256
words_256 h zero = bytes_none
words_256 h (suc n) = bytes_append (bytes_of_256 h n) (to_be_bytes w32 (slice_index h n)) (words_256 h n) (bytes_high 4 (slice_index h n))

words_512 : (h : List ℕ) (n : ℕ) → IsBytes (bytes_of_512 h n)
unfolding bytes_of_512
words_512 h zero = bytes_none
words_512 h (suc n) = bytes_append (bytes_of_512 h n) (to_be_bytes w64 (slice_index h n)) (words_512 h n) (bytes_high 8 (slice_index h n))

pub bytes_sha256 : (m : List ℕ) → IsBytes (sha256 m)
unfolding sha256
bytes_sha256 m = words_256 (hash_256 initial_hash_256 m) 8

pub bytes_sha512 : (m : List ℕ) → IsBytes (sha512 m)
unfolding sha512
bytes_sha512 m = words_512 (hash_512 initial_hash_512 m) 8
