-- Bytes XOR a mask.

use Rattle.std.proofs.Common.{◌≡◌, ℕ, zero, suc, ◌<◌, ◌≤◌, List, [], ◌∷◌, ◌++◌, length, take, drop, refl, sym, ap, ◌∙◌, arith}
use Rattle.std.proofs.lemmas.List.{ext_get_or, get_or-drop}
use Rattle.std.proofs.lemmas.Nat.{xor_comm, xor_of_8}
use Rattle.std.specs.Int.Bits.{xor_assoc, xor_self, xor_zero_r}
use Rattle.std.specs.Prelude.{bit_xor, slice_index}
use Rattle.sshwire.specs.ByteLaws.{bytes_cons, bytes_dropped, bytes_none}
use Rattle.sshwire.specs.Types.{IsBytes}

-- each byte XOR the one at its place in the mask
abbrev pub xored : List ℕ → List ℕ → List ℕ
xored [] mask = []
xored (b ∷ bytes) mask = bit_xor b (slice_index mask 0) ∷ xored bytes (drop 1 mask)

pub length_xored : (bytes mask : List ℕ) → length (xored bytes mask) ≡ length bytes
length_xored [] mask = refl
length_xored (b ∷ bytes) mask = ap (λ (n : ℕ). suc n) (length_xored bytes (drop 1 mask))

pub xor_twice : (a b : ℕ) → bit_xor (bit_xor a b) b ≡ a
xor_twice a b = xor_assoc a b b ∙ (ap (bit_xor a) (xor_self b) ∙ xor_zero_r a)

pub xored_twice : (bytes mask : List ℕ) → xored (xored bytes mask) mask ≡ bytes
xored_twice [] mask = refl
xored_twice (b ∷ bytes) mask =
    let e = xor_twice b (slice_index mask 0) in
    let more = xored_twice bytes (drop 1 mask) in cc

pub xored_take : (n : ℕ) (bytes mask : List ℕ) → take n (xored bytes mask) ≡ xored (take n bytes) mask
xored_take zero bytes mask = refl
xored_take (suc n) [] mask = refl
xored_take (suc n) (b ∷ bytes) mask = ap (λ (xs : List ℕ). bit_xor b (slice_index mask 0) ∷ xs) (xored_take n bytes (drop 1 mask))

pub xored_more : (bytes mask more : List ℕ) → length bytes ≤ length mask → xored bytes (mask ++ more) ≡ xored bytes mask
xored_more [] mask more h = refl
xored_more (b ∷ bytes) [] more h = absurd (omega arith)
xored_more (b ∷ bytes) (m ∷ mask) more h = ap (λ (xs : List ℕ). bit_xor b m ∷ xs) (xored_more bytes mask more (omega arith))

pub xored_comm : (xs ys : List ℕ) → length xs ≡ length ys → xored xs ys ≡ xored ys xs
xored_comm [] [] h = refl
xored_comm [] (y ∷ ys) h = absurd (omega arith)
xored_comm (x ∷ xs) [] h = absurd (omega arith)
xored_comm (x ∷ xs) (y ∷ ys) h =
    let e = xor_comm x y in
    let more = xored_comm xs ys (omega arith) in cc

pub bytes_xored : (bytes mask : List ℕ) → IsBytes bytes → IsBytes mask → IsBytes (xored bytes mask)
bytes_xored [] mask h k = bytes_none
bytes_xored (b ∷ bytes) mask h k =
    bytes_cons (bit_xor b (slice_index mask 0)) (xored bytes (drop 1 mask)) (xor_of_8 b (slice_index mask 0) (h 0) (k 0))
    (bytes_xored bytes (drop 1 mask) (λ i. h (suc i)) (bytes_dropped 1 mask k))

xored_at : (bytes mask : List ℕ) (k : ℕ) → k < length bytes → slice_index (xored bytes mask) k ≡ bit_xor (slice_index bytes k) (slice_index mask k)
xored_at [] mask k h = absurd (omega arith)
xored_at (b ∷ bytes) mask zero h = refl
xored_at (b ∷ bytes) mask (suc k) h = xored_at bytes (drop 1 mask) k (omega arith) ∙ ap (bit_xor (slice_index bytes k)) (get_or-drop 1 mask k 0 ∙ ap (slice_index mask) (omega arith))

-- a list with the XOR at each place is the XOR
pub xored_from : (out bytes mask : List ℕ) → length out ≡ length bytes
    → ((k : ℕ) → k < length bytes → slice_index out k ≡ bit_xor (slice_index bytes k) (slice_index mask k)) → out ≡ xored bytes mask
xored_from out bytes mask long each = ext_get_or 0 out (xored bytes mask) (long ∙ sym (length_xored bytes mask))
    (λ k h. each k (omega arith) ∙ sym (xored_at bytes mask k (omega arith)))
