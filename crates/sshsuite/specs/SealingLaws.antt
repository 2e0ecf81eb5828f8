-- Sealing has the laws.

use Rattle.std.proofs.Common.{◌≡◌, ℕ, ◌+◌, ◌-◌, ◌≤◌, true, false, List, [], ◌∷◌, ◌++◌, length, take, drop, refl, sym, ap, ◌∙◌, arith, cond, ltb}
use Rattle.std.proofs.lemmas.Bool.{cond_both, le-ltb, ltb-false}
use Rattle.std.proofs.lemmas.Cmp.{nat_list_eq_equiv}
use Rattle.std.proofs.lemmas.List.{drop_at, length-append, length-take-le, take-append-le, take-take, take_at}
use Rattle.std.specs.Prelude.{Bool, Option, None, Some}
use Rattle.std.specs.Str.{bytes_eq}
use Rattle.sshwire.specs.ByteLaws.{bytes_append, bytes_none, bytes_taken}
use Rattle.sshwire.specs.TypeReadings.{uint32_at}
use Rattle.sshwire.specs.Types.{IsBytes, uint32}
use Rattle.sshpacket.specs.Packet.{IsPacket, length_field, number}
use Rattle.sshpacket.specs.Suite.{Keeps}
use Rattle.sshwire.specs.Masks.{bytes_xored, length_xored, xored, xored_more, xored_take, xored_twice}
use Rattle.sshsuite.specs.Poly1305.{tag_of}
use Rattle.sshsuite.specs.Sealing.{payload_key, checked, encrypted, head, length_key, mask, seal, tag, unseal}
use Rattle.sshsuite.specs.KeyStream.{bytes_low, bytes_stream, length_stream, stream}
use Rattle.std.specs.Int.{w128, to_le_bytes}

pub same_bytes : (xs : List ℕ) → bytes_eq xs xs ≡ true
same_bytes xs = nat_list_eq_equiv.refl xs

pub guard_some : {A : Type 0} (b : Bool) (x y : A) → cond b (Some x) None ≡ Some y → (b ≡ true) × (x ≡ y)
guard_some true x y e = (refl, cc)
guard_some false x y e = cc

pub guard_none : {A : Type 0} (b : Bool) (o : Option A) (y : A) → cond b None o ≡ Some y → (b ≡ false) × (o ≡ Some y)
guard_none true o y e = cc
guard_none false o y e = (refl, e)

-- What is sealed is cut before its tag.
pub cut_before_tag : (front back : List ℕ) (size : ℕ) → length back ≡ size
    → (take (length (front ++ back) - size) (front ++ back) ≡ front) × (drop (length (front ++ back) - size) (front ++ back) ≡ back)
cut_before_tag front back size is =
    let long : length (front ++ back) ≡ length front + length back = length-append front back in
    let cut : length (front ++ back) - size ≡ length front = omega (arith, long, is) in (
      ap (λ (n : ℕ). take n (front ++ back)) cut ∙ take_at front back (length front) refl,
      ap (λ (n : ℕ). drop n (front ++ back)) cut ∙ drop_at front back (length front) refl,
    )

-- The number in the first four bytes.
pub number_front : (bytes : List ℕ) → 4 ≤ length bytes → number (take 4 bytes) ≡ number bytes
unfolding number uint32_at
number_front [] h = absurd (omega arith)
number_front (a ∷ []) h = absurd (omega arith)
number_front (a ∷ b ∷ []) h = absurd (omega arith)
number_front (a ∷ b ∷ c ∷ []) h = absurd (omega arith)
number_front (a ∷ b ∷ c ∷ d ∷ rest) h =
    let long : ltb (length (a ∷ b ∷ c ∷ d ∷ rest)) 4 ≡ false = le-ltb (length (a ∷ b ∷ c ∷ d ∷ rest)) 4 (omega arith) in
    rw long refl

-- a packet has its length
pub some_of_packet : (counts : Bool) (block tag : ℕ) (payload clear : List ℕ) → IsPacket counts block tag payload clear → 4 ≤ length clear
unfolding length_field
some_of_packet counts block tag payload clear p =
    let n : ℕ = 1 + length payload + length p.padding in
    let rest : List ℕ = length p.padding ∷ (payload ++ p.padding) in
    let long : length clear ≡ length (uint32 n ++ rest) = ap (λ (xs : List ℕ). length xs) p.bytes_are in
    omega arith

-- Masks.
pub length_mask : (enc : List ℕ) (seq len : ℕ) → 4 ≤ len → length (mask enc seq len) ≡ len
unfolding mask
length_mask enc seq len h =
    let front = length_stream (length_key enc) seq 0 4 in
    let back = length_stream (payload_key enc) seq 1 (len - 4) in
    let both = length-append (stream (length_key enc) seq 0 4) (stream (payload_key enc) seq 1 (len - 4)) in
    omega (arith, front, back, both)

bytes_mask : (enc : List ℕ) (seq len : ℕ) → IsBytes (mask enc seq len)
unfolding mask
bytes_mask enc seq len = bytes_append (stream (length_key enc) seq 0 4) (stream (payload_key enc) seq 1 (len - 4))
    (bytes_stream (length_key enc) seq 0 4) (bytes_stream (payload_key enc) seq 1 (len - 4))

pub length_encrypted : (enc : List ℕ) (seq : ℕ) (bytes : List ℕ) → length (encrypted enc seq bytes) ≡ length bytes
unfolding encrypted
length_encrypted enc seq bytes = length_xored bytes (mask enc seq (length bytes))

bytes_encrypted : (enc : List ℕ) (seq : ℕ) (bytes : List ℕ) → IsBytes bytes → IsBytes (encrypted enc seq bytes)
unfolding encrypted
bytes_encrypted enc seq bytes h = bytes_xored bytes (mask enc seq (length bytes)) h (bytes_mask enc seq (length bytes))

encrypted_twice : (enc : List ℕ) (seq : ℕ) (bytes : List ℕ) → encrypted enc seq (encrypted enc seq bytes) ≡ bytes
unfolding encrypted
encrypted_twice enc seq bytes =
    ap (λ (n : ℕ). xored (encrypted enc seq bytes) (mask enc seq n)) (length_encrypted enc seq bytes)
    ∙ xored_twice bytes (mask enc seq (length bytes))

-- the first four bytes by the one key alone
front_encrypted : (enc : List ℕ) (seq : ℕ) (bytes : List ℕ) → 4 ≤ length bytes
    → xored (take 4 bytes) (stream (length_key enc) seq 0 4) ≡ take 4 (encrypted enc seq bytes)
unfolding encrypted mask
front_encrypted enc seq bytes h =
    let first : List ℕ = stream (length_key enc) seq 0 4 in
    let rest : List ℕ = stream (payload_key enc) seq 1 (length bytes - 4) in
    let four : length (take 4 bytes) ≡ 4 = length-take-le 4 bytes h in
    let long : length first ≡ 4 = length_stream (length_key enc) seq 0 4 in
    sym (xored_more (take 4 bytes) first rest (omega arith)) ∙ sym (xored_take 4 bytes (first ++ rest))

-- Tags.
length_tag_of : (key input : List ℕ) → length (tag_of key input) ≡ 16
unfolding tag_of
length_tag_of key input = refl

bytes_wide : (n : ℕ) → IsBytes (to_le_bytes w128 n)
bytes_wide n = bytes_low 0 16 n

bytes_tag_of : (key input : List ℕ) → IsBytes (tag_of key input)
unfolding tag_of
bytes_tag_of key input = bytes_wide _

length_tag : (enc : List ℕ) (seq : ℕ) (sealed : List ℕ) → length (tag enc seq sealed) ≡ 16
unfolding tag
length_tag enc seq sealed = length_tag_of (stream (payload_key enc) seq 0 32) sealed

bytes_tag : (enc : List ℕ) (seq : ℕ) (sealed : List ℕ) → IsBytes (tag enc seq sealed)
unfolding tag
bytes_tag enc seq sealed = bytes_tag_of (stream (payload_key enc) seq 0 32) sealed

-- Sealing.
seal_is : (enc : List ℕ) (seq : ℕ) (clear : List ℕ) → 4 ≤ length clear → seal enc seq clear ≡ encrypted enc seq clear ++ tag enc seq (encrypted enc seq clear)
unfolding seal
seal_is enc seq clear h = let enough : ltb (length clear) 4 ≡ false = le-ltb (length clear) 4 h in rw enough refl

pub seal_length : (enc : List ℕ) (seq : ℕ) (clear : List ℕ) → 4 ≤ length clear → length (seal enc seq clear) ≡ length clear + 16
seal_length enc seq clear h =
    let is = ap (λ (xs : List ℕ). length xs) (seal_is enc seq clear h) in
    let front = length_encrypted enc seq clear in
    let back = length_tag enc seq (encrypted enc seq clear) in
    let both = length-append (encrypted enc seq clear) (tag enc seq (encrypted enc seq clear)) in
    omega (arith, is, front, back, both)

pub head_of_seal : (enc : List ℕ) (seq : ℕ) (clear : List ℕ) → 4 ≤ length clear → head enc seq (take 4 (seal enc seq clear)) ≡ number clear
unfolding head
head_of_seal enc seq clear h =
    let long : length (encrypted enc seq clear) ≡ length clear = length_encrypted enc seq clear in
    let within : 4 ≤ length (encrypted enc seq clear) = omega arith in
    ap (λ (xs : List ℕ). number (xored xs (stream (length_key enc) seq 0 4)))
    (ap (λ (xs : List ℕ). take 4 xs) (seal_is enc seq clear h) ∙ take-append-le 4 (encrypted enc seq clear) (tag enc seq (encrypted enc seq clear)) within)
    ∙ (ap number (front_encrypted enc seq (encrypted enc seq clear) within ∙ ap (λ (xs : List ℕ). take 4 xs) (encrypted_twice enc seq clear))
    ∙ number_front clear h)

pub unseal_of_seal : (enc : List ℕ) (seq : ℕ) (clear : List ℕ) → 4 ≤ length clear → unseal enc seq (seal enc seq clear) ≡ Some clear
unfolding unseal checked
unseal_of_seal enc seq clear h =
    let front : List ℕ = encrypted enc seq clear in
    let back : List ℕ = tag enc seq front in
    let is : seal enc seq clear ≡ front ++ back = seal_is enc seq clear h in
    let front_long : length front ≡ length clear = length_encrypted enc seq clear in
    let back_long : length back ≡ 16 = length_tag enc seq front in
    let long : length (front ++ back) ≡ length front + length back = length-append front back in
    let enough : ltb (length (front ++ back)) 20 ≡ false = le-ltb (length (front ++ back)) 20 (omega arith) in
    let parts = cut_before_tag front back 16 back_long in
    ap (λ (xs : List ℕ). unseal enc seq xs) is
    ∙ rw enough (ap (λ (xs : List ℕ). checked enc seq xs (drop (length (front ++ back) - 16) (front ++ back))) parts.0
    ∙ (ap (λ (xs : List ℕ). checked enc seq front xs) parts.1
    ∙ rw (same_bytes back) (ap (λ (xs : List ℕ). Some xs) (encrypted_twice enc seq clear))))

unsealed_is : (enc : List ℕ) (seq : ℕ) (sealed clear : List ℕ) → unseal enc seq sealed ≡ Some clear
    → (20 ≤ length sealed) × (encrypted enc seq (take (length sealed - 16) sealed) ≡ clear)
unfolding unseal checked
unsealed_is enc seq sealed clear e =
    let covered : List ℕ = take (length sealed - 16) sealed in
    let found : List ℕ = drop (length sealed - 16) sealed in
    let outer = guard_none (ltb (length sealed) 20) (checked enc seq covered found) clear e in
    (ltb-false (length sealed) 20 outer.0, (guard_some (bytes_eq found (tag enc seq covered)) (encrypted enc seq covered) clear outer.1).1)

pub unsealed : (enc : List ℕ) (seq : ℕ) (sealed clear : List ℕ) → IsBytes sealed → length sealed ≡ 4 + head enc seq (take 4 sealed) + 16
    → unseal enc seq sealed ≡ Some clear → Keeps (head enc seq (take 4 sealed)) clear
unfolding head
unsealed enc seq sealed clear h long e =
    let front : List ℕ = take (length sealed - 16) sealed in
    let opened = unsealed_is enc seq sealed clear e in
    let enough : 20 ≤ length sealed = opened.0 in
    let is : encrypted enc seq front ≡ clear = opened.1 in
    let front_long : length front ≡ length sealed - 16 = length-take-le (length sealed - 16) sealed (omega arith) in
    let same : length (encrypted enc seq front) ≡ length front = length_encrypted enc seq front in
    let clear_long : length clear ≡ length (encrypted enc seq front) = ap (λ (xs : List ℕ). length xs) (sym is) in
    record {
      length_is = omega arith;
      field_is = sym (number_front clear (omega arith)) ∙ (ap (λ (xs : List ℕ). number (take 4 xs)) (sym is)
          ∙ (ap number (sym (front_encrypted enc seq front (omega arith)))
          ∙ ap (λ (xs : List ℕ). number (xored xs (stream (length_key enc) seq 0 4))) (take-take 4 (length sealed - 16) sealed (omega arith))));
      bytes_are = rw is at (bytes_encrypted enc seq front (bytes_taken (length sealed - 16) sealed h));
    }

pub bytes_seal : (enc : List ℕ) (seq : ℕ) (clear : List ℕ) → IsBytes clear → IsBytes (seal enc seq clear)
unfolding seal
bytes_seal enc seq clear h =
    cond_both (ltb (length clear) 4) [] (encrypted enc seq clear ++ tag enc seq (encrypted enc seq clear)) (λ (xs : List ℕ). IsBytes xs)
    (λ _. bytes_none)
    (λ _. bytes_append (encrypted enc seq clear) (tag enc seq (encrypted enc seq clear)) (bytes_encrypted enc seq clear h) (bytes_tag enc seq (encrypted enc seq clear)))
