-- Words, and the words of bytes.

use Rattle.std.proofs.Common.{◌≡◌, ℕ, zero, suc, ◌+◌, ◌*◌, ◌^◌, ◌<◌, List, ◌∙◌, arith}
use Rattle.std.proofs.lemmas.Nat.{or_comm, or_shifted}
use Rattle.std.specs.Prelude.{bit_or, replicate}
use Rattle.sshwire.specs.ByteLaws.{bytes_cons, bytes_none}
use Rattle.sshwire.specs.Types.{IsBytes}
use Rattle.sshcurve.specs.Bits.{word_at}

-- the bits of two words beside each other
pub or_high : (a k b : ℕ) → b < 2 ^ k → bit_or b (a * 2 ^ k) ≡ a * 2 ^ k + b
or_high a k b h = or_comm b (a * 2 ^ k) ∙ or_shifted a k b h

-- words of bytes are below 2^64
pub record AreWords (bytes : List ℕ) : Type 0 where
  pub w0 : word_at bytes 0 < 2 ^ 64
  pub w1 : word_at bytes 8 < 2 ^ 64
  pub w2 : word_at bytes 16 < 2 ^ 64
  pub w3 : word_at bytes 24 < 2 ^ 64

pub word_low : (bytes : List ℕ) (i : ℕ) → IsBytes bytes → word_at bytes i < 2 ^ 64
unfolding word_at
word_low bytes i h = omega (arith, h i, h (i + 1), h (i + 2), h (i + 3), h (i + 4), h (i + 5), h (i + 6), h (i + 7))

pub are_words : (bytes : List ℕ) → IsBytes bytes → AreWords bytes
are_words bytes h = record { w0 = word_low bytes 0 h; w1 = word_low bytes 8 h; w2 = word_low bytes 16 h; w3 = word_low bytes 24 h }

pub zero_bytes : (n : ℕ) → IsBytes (replicate n 0)
zero_bytes zero = bytes_none
zero_bytes (suc n) = bytes_cons 0 (replicate n 0) (omega arith) (zero_bytes n)
