-- Sealing by aes128-gcm@openssh.com and aes256-gcm@openssh.com has the laws.

use Rattle.std.proofs.Common.{◌≡◌, ℕ, ◌+◌, ◌-◌, ◌/◌, ◌%◌, ◌^◌, ◌≤◌, Bool, false, List, [], ◌∷◌, ◌++◌, length, take, drop, refl, sym, ap, ◌∙◌, arith, ltb}
use Rattle.std.proofs.lemmas.Bool.{cond_both, le-ltb, ltb-false}
use Rattle.std.proofs.lemmas.List.{length-append, length-take-le, take-append-le, take-take}
use Rattle.std.specs.Int.Bits.{xor_zero_r}
use Rattle.std.specs.Prelude.{Some, replicate}
use Rattle.std.specs.Str.{bytes_eq}
use Rattle.sshwire.specs.ByteLaws.{bytes_append, bytes_none, bytes_taken}
use Rattle.sshwire.specs.Types.{IsBytes}
use Rattle.sshpacket.specs.Packet.{number}
use Rattle.sshpacket.specs.Suite.{Keeps}
use Rattle.sshsuite.specs.CipherNames.{keys_by}
use Rattle.sshsuite.specs.CounterMode.{stream_to}
use Rattle.sshsuite.specs.CounterModeLaws.{bytes_high, bytes_stream, clear_front, length_stream}
use Rattle.sshsuite.specs.Gcm.{checked, encrypted, first_counter, mask, mask_by, seal, tag, unseal}
use Rattle.sshwire.specs.Masks.{bytes_xored, length_xored, xored, xored_twice}
use Rattle.sshsuite.specs.SealingLaws.{cut_before_tag, guard_none, guard_some, number_front, same_bytes}

-- Masks.
pub length_mask : (keys : List ℕ) (counter len : ℕ) → 4 ≤ len → len ≤ length (mask_by keys counter len)
length_mask keys counter len h =
    let second : ℕ = (counter + 2) % 2 ^ 128 in
    let back = length_stream keys second ((len - 4 + 15) / 16) in
    let both = length-append (replicate 4 0) (stream_to keys second ((len - 4 + 15) / 16)) in
    omega (arith, back, both)

bytes_mask : (short : Bool) (iv enc : List ℕ) (len : ℕ) → IsBytes (mask short iv enc len)
unfolding mask
bytes_mask short iv enc len =
    bytes_append (replicate 4 0) (stream_to (keys_by short enc) ((first_counter iv + 2) % 2 ^ 128) ((len - 4 + 15) / 16))
    clear_front (bytes_stream (keys_by short enc) ((first_counter iv + 2) % 2 ^ 128) ((len - 4 + 15) / 16))

pub length_encrypted : (short : Bool) (iv enc bytes : List ℕ) → length (encrypted short iv enc bytes) ≡ length bytes
unfolding encrypted
length_encrypted short iv enc bytes = length_xored bytes (mask short iv enc (length bytes))

bytes_encrypted : (short : Bool) (iv enc bytes : List ℕ) → IsBytes bytes → IsBytes (encrypted short iv enc bytes)
unfolding encrypted
bytes_encrypted short iv enc bytes h = bytes_xored bytes (mask short iv enc (length bytes)) h (bytes_mask short iv enc (length bytes))

encrypted_twice : (short : Bool) (iv enc bytes : List ℕ) → encrypted short iv enc (encrypted short iv enc bytes) ≡ bytes
unfolding encrypted
encrypted_twice short iv enc bytes =
    ap (λ (n : ℕ). xored (encrypted short iv enc bytes) (mask short iv enc n)) (length_encrypted short iv enc bytes)
    ∙ xored_twice bytes (mask short iv enc (length bytes))

-- the first four bytes stay as they are
pub front_clear : (bytes more : List ℕ) → take 4 (xored bytes (replicate 4 0 ++ more)) ≡ take 4 bytes
front_clear [] more = refl
front_clear (a ∷ []) more = ap (λ (x : ℕ). x ∷ []) (xor_zero_r a)
front_clear (a ∷ b ∷ []) more = let e = xor_zero_r a in let f = xor_zero_r b in cc
front_clear (a ∷ b ∷ c ∷ []) more = let e = xor_zero_r a in let f = xor_zero_r b in let g = xor_zero_r c in cc
front_clear (a ∷ b ∷ c ∷ d ∷ rest) more =
    let e = xor_zero_r a in let f = xor_zero_r b in let g = xor_zero_r c in let h = xor_zero_r d in cc

front_encrypted : (short : Bool) (iv enc bytes : List ℕ) → take 4 (encrypted short iv enc bytes) ≡ take 4 bytes
unfolding encrypted mask
front_encrypted short iv enc bytes = front_clear bytes (stream_to (keys_by short enc) ((first_counter iv + 2) % 2 ^ 128) ((length bytes - 4 + 15) / 16))

-- Tags.
length_tag : (short : Bool) (iv enc sealed : List ℕ) → length (tag short iv enc sealed) ≡ 16
unfolding tag
length_tag short iv enc sealed = refl

bytes_tag : (short : Bool) (iv enc sealed : List ℕ) → IsBytes (tag short iv enc sealed)
unfolding tag
bytes_tag short iv enc sealed = bytes_high 16 _

-- Sealing.
seal_is : (short : Bool) (iv enc clear : List ℕ) → 4 ≤ length clear
    → seal short iv enc clear ≡ encrypted short iv enc clear ++ tag short iv enc (encrypted short iv enc clear)
unfolding seal
seal_is short iv enc clear h = let enough : ltb (length clear) 4 ≡ false = le-ltb (length clear) 4 h in rw enough refl

pub seal_length : (short : Bool) (iv enc clear : List ℕ) → 4 ≤ length clear → length (seal short iv enc clear) ≡ length clear + 16
seal_length short iv enc clear h =
    let is = ap (λ (xs : List ℕ). length xs) (seal_is short iv enc clear h) in
    let front = length_encrypted short iv enc clear in
    let back = length_tag short iv enc (encrypted short iv enc clear) in
    let both = length-append (encrypted short iv enc clear) (tag short iv enc (encrypted short iv enc clear)) in
    omega (arith, is, front, back, both)

pub head_of_seal : (short : Bool) (iv enc clear : List ℕ) → 4 ≤ length clear → number (take 4 (seal short iv enc clear)) ≡ number clear
head_of_seal short iv enc clear h =
    let long : length (encrypted short iv enc clear) ≡ length clear = length_encrypted short iv enc clear in
    let within : 4 ≤ length (encrypted short iv enc clear) = omega arith in
    ap number (ap (λ (xs : List ℕ). take 4 xs) (seal_is short iv enc clear h)
    ∙ (take-append-le 4 (encrypted short iv enc clear) (tag short iv enc (encrypted short iv enc clear)) within ∙ front_encrypted short iv enc clear))
    ∙ number_front clear h

pub unseal_of_seal : (short : Bool) (iv enc clear : List ℕ) → 4 ≤ length clear → unseal short iv enc (seal short iv enc clear) ≡ Some clear
unfolding unseal checked
unseal_of_seal short iv enc clear h =
    let front : List ℕ = encrypted short iv enc clear in
    let back : List ℕ = tag short iv enc front in
    let is : seal short iv enc clear ≡ front ++ back = seal_is short iv enc clear h in
    let front_long : length front ≡ length clear = length_encrypted short iv enc clear in
    let back_long : length back ≡ 16 = length_tag short iv enc front in
    let long : length (front ++ back) ≡ length front + length back = length-append front back in
    let enough : ltb (length (front ++ back)) 20 ≡ false = le-ltb (length (front ++ back)) 20 (omega arith) in
    let parts = cut_before_tag front back 16 back_long in
    ap (λ (xs : List ℕ). unseal short iv enc xs) is
    ∙ rw enough (ap (λ (xs : List ℕ). checked short iv enc xs (drop (length (front ++ back) - 16) (front ++ back))) parts.0
    ∙ (ap (λ (xs : List ℕ). checked short iv enc front xs) parts.1
    ∙ rw (same_bytes back) (ap (λ (xs : List ℕ). Some xs) (encrypted_twice short iv enc clear))))

unsealed_is : (short : Bool) (iv enc sealed clear : List ℕ) → unseal short iv enc sealed ≡ Some clear
    → (20 ≤ length sealed) × (encrypted short iv enc (take (length sealed - 16) sealed) ≡ clear)
unfolding unseal checked
unsealed_is short iv enc sealed clear e =
    let covered : List ℕ = take (length sealed - 16) sealed in
    let found : List ℕ = drop (length sealed - 16) sealed in
    let outer = guard_none (ltb (length sealed) 20) (checked short iv enc covered found) clear e in
    (ltb-false (length sealed) 20 outer.0, (guard_some (bytes_eq found (tag short iv enc covered)) (encrypted short iv enc covered) clear outer.1).1)

pub unsealed : (short : Bool) (iv enc sealed clear : List ℕ) → IsBytes sealed → length sealed ≡ 4 + number (take 4 sealed) + 16
    → unseal short iv enc sealed ≡ Some clear → Keeps (number (take 4 sealed)) clear
unsealed short iv enc sealed clear h long e =
    let front : List ℕ = take (length sealed - 16) sealed in
    let opened = unsealed_is short iv enc sealed clear e in
    let enough : 20 ≤ length sealed = opened.0 in
    let is : encrypted short iv enc front ≡ clear = opened.1 in
    let front_long : length front ≡ length sealed - 16 = length-take-le (length sealed - 16) sealed (omega arith) in
    let same : length (encrypted short iv enc front) ≡ length front = length_encrypted short iv enc front in
    let clear_long : length clear ≡ length (encrypted short iv enc front) = ap (λ (xs : List ℕ). length xs) (sym is) in
    record {
      length_is = omega arith;
      field_is = sym (number_front clear (omega arith)) ∙ (ap (λ (xs : List ℕ). number (take 4 xs)) (sym is)
          ∙ ap number (front_encrypted short iv enc front ∙ take-take 4 (length sealed - 16) sealed (omega arith)));
      bytes_are = rw is at (bytes_encrypted short iv enc front (bytes_taken (length sealed - 16) sealed h));
    }

pub bytes_seal : (short : Bool) (iv enc clear : List ℕ) → IsBytes clear → IsBytes (seal short iv enc clear)
unfolding seal
bytes_seal short iv enc clear h =
    cond_both (ltb (length clear) 4) [] (encrypted short iv enc clear ++ tag short iv enc (encrypted short iv enc clear)) (λ (xs : List ℕ). IsBytes xs)
    (λ _. bytes_none)
    (λ _. bytes_append (encrypted short iv enc clear) (tag short iv enc (encrypted short iv enc clear))
    (bytes_encrypted short iv enc clear h) (bytes_tag short iv enc (encrypted short iv enc clear)))
