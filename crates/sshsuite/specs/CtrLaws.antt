-- Sealing by aes128-ctr and aes256-ctr has the laws.

use Rattle.std.proofs.Common.{◌≡◌, ℕ, suc, ◌+◌, ◌-◌, ◌/◌, ◌≤◌, Bool, true, false, List, [], ◌++◌, length, take, drop, refl, sym, ap, ◌∙◌, arith, cond, ltb}
use Rattle.std.proofs.lemmas.Bool.{cond_both, le-ltb, ltb-false}
use Rattle.std.proofs.lemmas.List.{length-append, length-take-le, take-append-le, take-take}
use Rattle.std.specs.Prelude.{Some, replicate}
use Rattle.std.specs.Str.{bytes_eq}
use Rattle.sha2.proofs.Facts256.{length-sha256}
use Rattle.sha2.proofs.Facts512.{length-sha512}
use Rattle.sshwire.specs.ByteLaws.{bytes_append, bytes_none, bytes_taken}
use Rattle.sshwire.specs.Types.{IsBytes, uint32}
use Rattle.sshpacket.specs.KeysData.{KeysData}
use Rattle.sshpacket.specs.Packet.{number}
use Rattle.sshpacket.specs.Suite.{Keeps}
use Rattle.sshsuite.specs.CipherNames.{is_short_key, keys_by}
use Rattle.sshsuite.specs.CounterMode.{stream_to}
use Rattle.sshsuite.specs.CounterModeLaws.{bytes_stream, clear_front, length_stream, stream_front}
use Rattle.sshsuite.specs.Ctr.{checked, counter_of, covers_sealed, crossed, head, is_by_sha512, mask, seal, tag, tag_length, tag_over, unseal}
use Rattle.sshsuite.specs.HashBytes.{bytes_sha256, bytes_sha512}
use Rattle.sshsuite.specs.Hmac.{hmac, hmac_sha256, hmac_sha512}
use Rattle.sshwire.specs.Masks.{bytes_xored, length_xored, xored, xored_more, xored_take, xored_twice}
use Rattle.sshsuite.specs.SealingLaws.{cut_before_tag, guard_none, guard_some, number_front, same_bytes}

-- Masks.
abbrev mask_with : Bool → List ℕ → ℕ → ℕ → List ℕ
mask_with etm keys counter len = replicate (cond etm 4 0) 0 ++ stream_to keys counter ((len - cond etm 4 0 + 15) / 16)

long_mask : (etm : Bool) (keys : List ℕ) (counter len : ℕ) → 4 ≤ len → len ≤ length (mask_with etm keys counter len)
long_mask true keys counter len h =
    let back = length_stream keys counter ((len - 4 + 15) / 16) in
    let both = length-append (replicate 4 0) (stream_to keys counter ((len - 4 + 15) / 16)) in
    omega (arith, back, both)
long_mask false keys counter len h =
    let back = length_stream keys counter ((len - 0 + 15) / 16) in
    omega (arith, back)

pub length_mask : (keys : KeysData) (len : ℕ) → 4 ≤ len → len ≤ length (mask keys len)
unfolding mask
length_mask keys len h = long_mask (covers_sealed keys.mac) (keys_by (is_short_key keys.cipher) keys.enc) (counter_of keys.iv) len h

bytes_mask_with : (etm : Bool) (keys : List ℕ) (counter len : ℕ) → IsBytes (mask_with etm keys counter len)
bytes_mask_with true keys counter len =
    bytes_append (replicate 4 0) (stream_to keys counter ((len - 4 + 15) / 16)) clear_front (bytes_stream keys counter ((len - 4 + 15) / 16))
bytes_mask_with false keys counter len = bytes_stream keys counter ((len - 0 + 15) / 16)

bytes_mask : (keys : KeysData) (len : ℕ) → IsBytes (mask keys len)
unfolding mask
bytes_mask keys len = bytes_mask_with (covers_sealed keys.mac) (keys_by (is_short_key keys.cipher) keys.enc) (counter_of keys.iv) len

-- what masks the length masks it in each packet
front_with : (etm : Bool) (keys : List ℕ) (counter len : ℕ) → 4 ≤ len
    → (more : List ℕ) × (mask_with etm keys counter len ≡ mask_with etm keys counter 4 ++ more)
unfolding stream_to
front_with true keys counter len h = (stream_to keys counter ((len - 4 + 15) / 16), refl)
front_with false keys counter len h =
    let some : (len - 0 + 15) / 16 ≡ suc ((len - 1) / 16) = omega (arith, h) in
    let front = stream_front keys counter ((len - 1) / 16) in
    (front.0, ap (stream_to keys counter) some ∙ front.1)

front_mask : (keys : KeysData) (len : ℕ) → 4 ≤ len → (more : List ℕ) × (mask keys len ≡ mask keys 4 ++ more)
unfolding mask
front_mask keys len h = front_with (covers_sealed keys.mac) (keys_by (is_short_key keys.cipher) keys.enc) (counter_of keys.iv) len h

pub length_crossed : (keys : KeysData) (bytes : List ℕ) → length (crossed keys bytes) ≡ length bytes
unfolding crossed
length_crossed keys bytes = length_xored bytes (mask keys (length bytes))

bytes_crossed : (keys : KeysData) (bytes : List ℕ) → IsBytes bytes → IsBytes (crossed keys bytes)
unfolding crossed
bytes_crossed keys bytes h = bytes_xored bytes (mask keys (length bytes)) h (bytes_mask keys (length bytes))

crossed_twice : (keys : KeysData) (bytes : List ℕ) → crossed keys (crossed keys bytes) ≡ bytes
unfolding crossed
crossed_twice keys bytes =
    ap (λ (n : ℕ). xored (crossed keys bytes) (mask keys n)) (length_crossed keys bytes) ∙ xored_twice bytes (mask keys (length bytes))

front_crossed : (keys : KeysData) (bytes : List ℕ) → 4 ≤ length bytes → xored (take 4 bytes) (mask keys 4) ≡ take 4 (crossed keys bytes)
unfolding crossed
front_crossed keys bytes h =
    let front = front_mask keys (length bytes) h in
    let four : length (take 4 bytes) ≡ 4 = length-take-le 4 bytes h in
    let long : 4 ≤ length (mask keys 4) = length_mask keys 4 (omega arith) in
    sym (xored_more (take 4 bytes) (mask keys 4) front.0 (omega arith))
    ∙ (ap (λ (m : List ℕ). xored (take 4 bytes) m) (sym front.1) ∙ sym (xored_take 4 bytes (mask keys (length bytes))))

-- Tags.
tag_sizes : (wide : Bool) (key input : List ℕ) → length (cond wide (hmac_sha512 key input) (hmac_sha256 key input)) ≡ cond wide 64 32
unfolding hmac
tag_sizes true key input = length-sha512 _
tag_sizes false key input = length-sha256 _

bytes_tag_by : (wide : Bool) (key input : List ℕ) → IsBytes (cond wide (hmac_sha512 key input) (hmac_sha256 key input))
unfolding hmac
bytes_tag_by true key input = bytes_sha512 _
bytes_tag_by false key input = bytes_sha256 _

length_tag_over : (keys : KeysData) (seq : ℕ) (covered : List ℕ) → length (tag_over keys seq covered) ≡ tag_length keys.mac
unfolding tag_over
length_tag_over keys seq covered = tag_sizes (is_by_sha512 keys.mac) keys.mac_key (uint32 seq ++ covered)

bytes_tag_over : (keys : KeysData) (seq : ℕ) (covered : List ℕ) → IsBytes (tag_over keys seq covered)
unfolding tag_over
bytes_tag_over keys seq covered = bytes_tag_by (is_by_sha512 keys.mac) keys.mac_key (uint32 seq ++ covered)

pub length_tag : (keys : KeysData) (seq : ℕ) (clear sealed : List ℕ) → length (tag keys seq clear sealed) ≡ tag_length keys.mac
length_tag keys seq clear sealed = length_tag_over keys seq (cond (covers_sealed keys.mac) sealed clear)

-- Sealing.
seal_is : (keys : KeysData) (seq : ℕ) (clear : List ℕ) → 4 ≤ length clear → seal keys seq clear ≡ crossed keys clear ++ tag keys seq clear (crossed keys clear)
unfolding seal
seal_is keys seq clear h = let enough : ltb (length clear) 4 ≡ false = le-ltb (length clear) 4 h in rw enough refl

pub seal_length : (keys : KeysData) (seq : ℕ) (clear : List ℕ) → 4 ≤ length clear → length (seal keys seq clear) ≡ length clear + tag_length keys.mac
seal_length keys seq clear h =
    let is = ap (λ (xs : List ℕ). length xs) (seal_is keys seq clear h) in
    let front = length_crossed keys clear in
    let back = length_tag keys seq clear (crossed keys clear) in
    let both = length-append (crossed keys clear) (tag keys seq clear (crossed keys clear)) in
    omega (arith, is, front, back, both)

pub head_of_seal : (keys : KeysData) (seq : ℕ) (clear : List ℕ) → 4 ≤ length clear → head keys (take 4 (seal keys seq clear)) ≡ number clear
unfolding head
head_of_seal keys seq clear h =
    let long : length (crossed keys clear) ≡ length clear = length_crossed keys clear in
    let within : 4 ≤ length (crossed keys clear) = omega arith in
    ap (λ (xs : List ℕ). number (xored xs (mask keys 4)))
    (ap (λ (xs : List ℕ). take 4 xs) (seal_is keys seq clear h) ∙ take-append-le 4 (crossed keys clear) (tag keys seq clear (crossed keys clear)) within)
    ∙ (ap number (front_crossed keys (crossed keys clear) within ∙ ap (λ (xs : List ℕ). take 4 xs) (crossed_twice keys clear))
    ∙ number_front clear h)

pub unseal_of_seal : (keys : KeysData) (seq : ℕ) (clear : List ℕ) → 4 ≤ length clear → unseal keys seq (seal keys seq clear) ≡ Some clear
unfolding unseal checked
unseal_of_seal keys seq clear h =
    let front : List ℕ = crossed keys clear in
    let back : List ℕ = tag keys seq clear front in
    let size : ℕ = tag_length keys.mac in
    let is : seal keys seq clear ≡ front ++ back = seal_is keys seq clear h in
    let front_long : length front ≡ length clear = length_crossed keys clear in
    let back_long : length back ≡ size = length_tag keys seq clear front in
    let long : length (front ++ back) ≡ length front + length back = length-append front back in
    let enough : ltb (length (front ++ back)) (4 + size) ≡ false = le-ltb (length (front ++ back)) (4 + size) (omega (arith, front_long, back_long, long, h)) in
    let parts = cut_before_tag front back size back_long in
    let again : crossed keys front ≡ clear = crossed_twice keys clear in
    let own : tag keys seq (crossed keys front) front ≡ back = ap (λ (xs : List ℕ). tag keys seq xs front) again in
    ap (λ (xs : List ℕ). unseal keys seq xs) is
    ∙ rw enough (ap (λ (xs : List ℕ). checked keys seq xs (drop (length (front ++ back) - size) (front ++ back))) parts.0
    ∙ (ap (λ (xs : List ℕ). checked keys seq front xs) parts.1
    ∙ rw (own, same_bytes back) (ap (λ (xs : List ℕ). Some xs) again)))

unsealed_is : (keys : KeysData) (seq : ℕ) (sealed clear : List ℕ) → unseal keys seq sealed ≡ Some clear
    → (4 + tag_length keys.mac ≤ length sealed) × (crossed keys (take (length sealed - tag_length keys.mac) sealed) ≡ clear)
unfolding unseal checked
unsealed_is keys seq sealed clear e =
    let size : ℕ = tag_length keys.mac in
    let covered : List ℕ = take (length sealed - size) sealed in
    let found : List ℕ = drop (length sealed - size) sealed in
    let outer = guard_none (ltb (length sealed) (4 + size)) (checked keys seq covered found) clear e in
    (ltb-false (length sealed) (4 + size) outer.0, (guard_some (bytes_eq found (tag keys seq (crossed keys covered) covered)) (crossed keys covered) clear outer.1).1)

pub unsealed : (keys : KeysData) (seq : ℕ) (sealed clear : List ℕ) → IsBytes sealed → length sealed ≡ 4 + head keys (take 4 sealed) + tag_length keys.mac
    → unseal keys seq sealed ≡ Some clear → Keeps (head keys (take 4 sealed)) clear
unfolding head
unsealed keys seq sealed clear h long e =
    let size : ℕ = tag_length keys.mac in
    let front : List ℕ = take (length sealed - size) sealed in
    let opened = unsealed_is keys seq sealed clear e in
    let enough : 4 + size ≤ length sealed = opened.0 in
    let is : crossed keys front ≡ clear = opened.1 in
    let front_long : length front ≡ length sealed - size = length-take-le (length sealed - size) sealed (omega arith) in
    let same : length (crossed keys front) ≡ length front = length_crossed keys front in
    let clear_long : length clear ≡ length (crossed keys front) = ap (λ (xs : List ℕ). length xs) (sym is) in
    record {
      length_is = omega (arith, long, enough, front_long, same, clear_long);
      field_is = sym (number_front clear (omega (arith, enough, front_long, same, clear_long))) ∙ (ap (λ (xs : List ℕ). number (take 4 xs)) (sym is)
          ∙ (ap number (sym (front_crossed keys front (omega (arith, enough, front_long))))
          ∙ ap (λ (xs : List ℕ). number (xored xs (mask keys 4))) (take-take 4 (length sealed - size) sealed (omega (arith, enough)))));
      bytes_are = rw is at (bytes_crossed keys front (bytes_taken (length sealed - size) sealed h));
    }

pub bytes_seal : (keys : KeysData) (seq : ℕ) (clear : List ℕ) → IsBytes clear → IsBytes (seal keys seq clear)
unfolding seal
bytes_seal keys seq clear h =
    cond_both (ltb (length clear) 4) [] (crossed keys clear ++ tag keys seq clear (crossed keys clear)) (λ (xs : List ℕ). IsBytes xs)
    (λ _. bytes_none)
    (λ _. bytes_append (crossed keys clear) (tag keys seq clear (crossed keys clear)) (bytes_crossed keys clear h) (bytes_tag_over keys seq (cond (covers_sealed keys.mac) (crossed keys clear) clear)))
