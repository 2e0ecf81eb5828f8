-- Laws of bytes and of uint32 as terms, for what calls no law function: a ghost member of a trait, by which a suite shows its laws.
-- The law functions `bytes_law` and `types_law` say the same.

use Rattle.std.proofs.Common.{◌≡◌, ℕ, zero, suc, ◌+◌, ◌/◌, ◌%◌, ◌^◌, ◌<◌, false, List, [], ◌∷◌, ◌++◌, length, take, drop, Ok, ap, arith, ltb, lit<}
use Rattle.byteorder.specs.Endian.{big_number}
use Rattle.std.proofs.lemmas.Bool.{le-ltb}
use Rattle.std.proofs.lemmas.List.{get_or-drop}
use Rattle.sshwire.specs.TypeReadings.{uint32_at}
use Rattle.sshwire.specs.Types.{IsBytes, uint32}

-- What is cut from bytes, and what is put together of bytes, is bytes.
pub bytes_none : IsBytes []
bytes_none i = lit< tt

pub bytes_cons : (b : ℕ) (bytes : List ℕ) → b < 256 → IsBytes bytes → IsBytes (b ∷ bytes)
bytes_cons b bytes h more zero = h
bytes_cons b bytes h more (suc i) = more i

pub bytes_append : (bytes more : List ℕ) → IsBytes bytes → IsBytes more → IsBytes (bytes ++ more)
bytes_append [] more h k = k
bytes_append (b ∷ bytes) more h k = bytes_cons b (bytes ++ more) (h 0) (bytes_append bytes more (λ i. h (suc i)) k)

pub bytes_dropped : (n : ℕ) (bytes : List ℕ) → IsBytes bytes → IsBytes (drop n bytes)
bytes_dropped n bytes h = λ i. rw (get_or-drop n bytes i 0) (h (n + i))

pub bytes_taken : (n : ℕ) (bytes : List ℕ) → IsBytes bytes → IsBytes (take n bytes)
bytes_taken zero bytes h = bytes_none
bytes_taken (suc n) [] h = bytes_none
bytes_taken (suc n) (b ∷ bytes) h = bytes_cons b (take n bytes) (h 0) (bytes_taken n bytes (λ i. h (suc i)))

pub bytes_uint32 : (n : ℕ) → IsBytes (uint32 n)
bytes_uint32 n =
    bytes_cons (n / 16777216 % 256) (n / 65536 % 256 ∷ n / 256 % 256 ∷ n % 256 ∷ []) (omega arith) (bytes_cons (n / 65536 % 256) (n / 256 % 256 ∷ n % 256 ∷ []) (omega arith)
    (bytes_cons (n / 256 % 256) (n % 256 ∷ []) (omega arith) (bytes_cons (n % 256) [] (omega arith) bytes_none)))

-- A uint32 is read as its number, whatever follows.
number_read : (n : ℕ) (rest : List ℕ) → n < 2 ^ 32 → big_number 4 (uint32 n ++ rest) ≡ n
number_read n rest h = omega arith

pub uint32_read : (n : ℕ) (rest : List ℕ) → n < 2 ^ 32 → uint32_at (uint32 n ++ rest) ≡ Ok (n, rest)
unfolding uint32_at
uint32_read n rest h =
    let long : ltb (length (uint32 n ++ rest)) 4 ≡ false = le-ltb _ _ (omega arith) in
    rw long (ap (λ (m : ℕ). Ok (m, rest)) (number_read n rest h))
