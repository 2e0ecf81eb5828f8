-- What is written is a packet, and is read again.

use Rattle.std.proofs.Common.{◌≡◌, ℕ, ◌+◌, ◌-◌, ◌%◌, ◌<◌, ◌≤◌, ◌^◌, Bool, true, false, List, [], ◌∷◌, ◌++◌, length, take, None, Some, refl, ap, ◌∙◌, arith, cond, ltb}
use Rattle.std.proofs.Math.Nat.{le-max_left}
use Rattle.std.proofs.lemmas.List.{length-append, take-append-le, take_at}
use Rattle.std.proofs.lemmas.Nat.{mod_below}
use Rattle.sshwire.specs.TypeReadings.{IsReading, uint32_at}
use Rattle.sshwire.specs.Types.{IsBytes, Uint32Text, uint32}
use Rattle.sshpacket.specs.Parse.{parse_packet, protection, whole}
use Rattle.sshpacket.specs.KeysData.{KeysData}
use Rattle.sshpacket.specs.Packet.{IsLeastPadding, IsLength, IsPacket, IsPadding, counted, least_padding, length_field, number, packet, to_multiple, alignment, with_four}
use Rattle.sshpacket.specs.Suite.{IsLawful, SuiteData, advanced, all_advanced}
use Rattle.sshpacket.specs.Written.{IsWritten, after_all, sealed_size, written, written_sealed}
use Rattle.sshpacket.proofs.LeastPadding.{least_is}
use Rattle.sshpacket.proofs.Opening.{packet_length_is, packet_number, number_first}
use Rattle.sshpacket.proofs.ProtectedLaws.{parse_unit}
use Rattle.sshpacket.specs.declared.limits.TheConstants.{BLOCK_LIMIT, PACKET_LIMIT, TAG_LIMIT}
use Rattle.sshwire.specs.declared.limits.TheConstants.{PAYLOAD_LIMIT}

-- bounds of the padding
max_high : (block : ℕ) → block ≤ BLOCK_LIMIT → (b : Bool) → ltb 8 block ≡ b → alignment block ≤ BLOCK_LIMIT
max_high block h b e = omega arith

high_by : (u n : ℕ) (b : Bool) → 0 < u → u ≤ BLOCK_LIMIT → cond b (4 + to_multiple u n + u) (4 + to_multiple u n) ≤ 131
high_by u n true some h = let low : to_multiple u n < u = mod_below (u - n % u) u some in omega arith
high_by u n false some h = let low : to_multiple u n < u = mod_below (u - n % u) u some in omega arith

pub padding_high : (counts : Bool) (block len : ℕ) → block ≤ BLOCK_LIMIT → least_padding counts block len ≤ 131
padding_high counts block len h =
    let wide : 8 ≤ alignment block = le-max_left 8 block in
    high_by (alignment block) (with_four counts len) (ltb (5 + len + to_multiple (alignment block) (with_four counts len)) (8 + counted counts)) (omega (arith, wide)) (max_high block h (ltb 8 block) refl)

-- the written packet is a packet with the least padding
fits_packet : (counts : Bool) (block tag len padding : ℕ) → IsLeastPadding counts block len padding → padding ≤ 131 → tag ≤ TAG_LIMIT → len ≤ PAYLOAD_LIMIT
    → IsLength counts block tag (1 + len + padding)
fits_packet counts block tag len padding k high low short =
    record { multiple = k.allowed.multiple; least = k.allowed.enough; limit = omega arith }

pub written_is : (m : SuiteData) → IsLawful m → (counts : Bool) (block tag : ℕ) (seed : List ℕ) (seq : ℕ) (payload : List ℕ) → block ≤ BLOCK_LIMIT → tag ≤ TAG_LIMIT
    → 0 < length payload → length payload ≤ PAYLOAD_LIMIT → IsWritten counts block tag payload (written m counts block seed seq payload)
unfolding written
written_is m law counts block tag seed seq payload low few some short =
    let padding : List ℕ = m.padding seed seq (least_padding counts block (length payload)) in
    let size : length (m.padding seed seq (least_padding counts block (length payload))) ≡ least_padding counts block (length payload)
    = law.padding_length seed seq (least_padding counts block (length payload)) in
    let least : IsLeastPadding counts block (length payload) (least_padding counts block (length payload)) = least_is counts block (length payload) in
    let high : least_padding counts block (length payload) ≤ 131 = padding_high counts block (length payload) low in
    let from : 4 ≤ least_padding counts block (length payload) = least.allowed.low in
    let sized : IsLeastPadding counts block (length payload) (length (m.padding seed seq (least_padding counts block (length payload)))) = rw size least in
    record {
      spells = record {
        padding = m.padding seed seq (least_padding counts block (length payload));
        bytes_are = refl;
        fits = fits_packet counts block tag (length payload) (length (m.padding seed seq (least_padding counts block (length payload)))) sized (omega arith) few short;
        padding_low = omega arith;
        padding_high = omega arith;
        not_empty = some;
      };
      least = sized;
    }

-- what the law of bytes says
pub record IsBytesLaw : Type 0 where
  pub append : (bytes more : List ℕ) → IsBytes bytes → IsBytes more → IsBytes (bytes ++ more)
  pub cons : (b : ℕ) (bytes : List ℕ) → b < 256 → IsBytes bytes → IsBytes (b ∷ bytes)
  pub number : (n : ℕ) → IsBytes (uint32 n)

field_bytes : IsBytesLaw → (n : ℕ) → IsBytes (length_field n)
unfolding length_field
field_bytes bytes n = bytes.number n

packet_bytes : IsBytesLaw → (payload padding : List ℕ) → length padding < 256 → IsBytes payload → IsBytes padding → IsBytes (packet payload padding)
packet_bytes bytes payload padding short each more =
    bytes.append (length_field (1 + length payload + length padding)) (length padding ∷ (payload ++ padding))
    (field_bytes bytes (1 + length payload + length padding))
    (bytes.cons (length padding) (payload ++ padding) short (bytes.append payload padding each more))

pub written_bytes : IsBytesLaw → (m : SuiteData) → IsLawful m → (counts : Bool) (block : ℕ) (seed : List ℕ) (seq : ℕ) (payload : List ℕ) → block ≤ BLOCK_LIMIT → IsBytes payload
    → IsBytes (written m counts block seed seq payload)
unfolding written
written_bytes bytes m law counts block seed seq payload low each =
    packet_bytes bytes payload (m.padding seed seq (least_padding counts block (length payload)))
    (let size : length (m.padding seed seq (least_padding counts block (length payload))) ≡ least_padding counts block (length payload)
    = law.padding_length seed seq (least_padding counts block (length payload)) in
    let high : least_padding counts block (length payload) ≤ 131 = padding_high counts block (length payload) low in omega arith)
    each (law.padding_bytes seed seq (least_padding counts block (length payload)))

-- the first four bytes are the same with more after them
first_same : (xs rest : List ℕ) → 4 ≤ length xs → take 4 (xs ++ rest) ≡ take 4 xs
first_same xs rest h = take-append-le 4 xs rest h

-- a packet's number counts it
packet_counts : IsReading Uint32Text uint32_at → (counts : Bool) (block tag : ℕ) (payload clear : List ℕ) → IsPacket counts block tag payload clear → length clear ≡ 4 + number clear
packet_counts r counts block tag payload clear k =
    let limit : 4 + (1 + length payload + length k.padding) + tag ≤ PACKET_LIMIT = k.fits.limit in
    let parts : length clear ≡ 5 + length payload + length k.padding = ap (λ (xs : List ℕ). length xs) k.bytes_are ∙ packet_length_is payload k.padding in
    let counts : number clear ≡ 1 + length payload + length k.padding = ap number k.bytes_are ∙ packet_number r payload k.padding (omega arith) in
    omega arith

packet_long : (counts : Bool) (block tag : ℕ) (payload clear : List ℕ) → IsPacket counts block tag payload clear → 12 ≤ length clear
packet_long counts block tag payload clear k =
    let least : 8 + counted counts ≤ 1 + length payload + length k.padding = k.fits.least in
    let parts : length clear ≡ 5 + length payload + length k.padding = ap (λ (xs : List ℕ). length xs) k.bytes_are ∙ packet_length_is payload k.padding in
    omega arith

pub clear_again : IsReading Uint32Text uint32_at → (m : SuiteData) (seq : ℕ) (payload clear rest : List ℕ) → IsPacket true 8 0 payload clear
    → parse_packet (protection m None seq) (clear ++ rest) ≡ whole payload (length clear)
clear_again r m seq payload clear rest k =
    let wide : 12 ≤ length clear = packet_long true 8 0 payload clear k in
    let all : length (clear ++ rest) ≡ length clear + length rest = length-append clear rest in
    let counts : length clear ≡ 4 + number clear = packet_counts r true 8 0 payload clear k in
    let head : number (take 4 (clear ++ rest)) ≡ number clear = ap number (first_same clear rest (omega arith)) ∙ number_first clear in
    parse_unit (protection m None seq) payload clear (clear ++ rest) (length clear) (omega arith) (omega arith)
    (ap (λ (xs : List ℕ). Some xs) (take_at clear rest (length clear) refl)) k (omega arith) (omega arith)

pub sealed_again : IsReading Uint32Text uint32_at → (m : SuiteData) → IsLawful m → (keys : KeysData) (seq : ℕ) (payload clear rest : List ℕ) → seq < 2 ^ 32 → IsBytes clear
    → IsPacket (m.counts_length keys.cipher keys.mac) (m.block keys.cipher) (m.tag_len keys.cipher keys.mac) payload clear
    → parse_packet (protection m (Some keys) seq) (m.seal keys seq clear ++ rest) ≡ whole payload (length (m.seal keys seq clear))
sealed_again r m law keys seq payload clear rest low each k =
    let wide : 12 ≤ length clear = packet_long (m.counts_length keys.cipher keys.mac) (m.block keys.cipher) (m.tag_len keys.cipher keys.mac) payload clear k in
    let size : length (m.seal keys seq clear) ≡ length clear + m.tag_len keys.cipher keys.mac = law.seal_length keys seq payload clear low (each, k) in
    let all : length (m.seal keys seq clear ++ rest) ≡ length (m.seal keys seq clear) + length rest = length-append (m.seal keys seq clear) rest in
    let counts : length clear ≡ 4 + number clear = packet_counts r (m.counts_length keys.cipher keys.mac) (m.block keys.cipher) (m.tag_len keys.cipher keys.mac) payload clear k in
    let first : take 4 (m.seal keys seq clear ++ rest) ≡ take 4 (m.seal keys seq clear) = first_same (m.seal keys seq clear) rest (omega arith) in
    let head : m.head keys seq (take 4 (m.seal keys seq clear ++ rest)) ≡ number clear
    = ap (λ (xs : List ℕ). m.head keys seq xs) first ∙ law.head_of_seal keys seq payload clear low (each, k) in
    parse_unit (protection m (Some keys) seq) payload clear (m.seal keys seq clear ++ rest) (length (m.seal keys seq clear)) (omega arith) (omega arith)
    (ap (λ (xs : List ℕ). m.unseal keys seq xs) (take_at (m.seal keys seq clear) rest (length (m.seal keys seq clear)) refl)
    ∙ law.unseal_of_seal keys seq payload clear low (each, k))
    k (omega arith) (omega arith)

-- how many bytes are sealed
pub size_is : IsBytesLaw → (m : SuiteData) → IsLawful m → (keys : KeysData) (seed : List ℕ) (seq : ℕ) (payload : List ℕ) → seq < 2 ^ 32 → IsBytes payload
    → IsPacket (m.counts_length keys.cipher keys.mac) (m.block keys.cipher) (m.tag_len keys.cipher keys.mac) payload (written m (m.counts_length keys.cipher keys.mac) (m.block keys.cipher) seed seq payload)
    → length (written_sealed m keys seed seq payload) ≡ sealed_size m keys payload
unfolding sealed_size written
size_is bytes m law keys seed seq payload low each k =
    let counts : Bool = m.counts_length keys.cipher keys.mac in
    let block : ℕ = m.block keys.cipher in
    let padding : List ℕ = m.padding seed seq (least_padding counts block (length payload)) in
    let sealed : length (m.seal keys seq (packet payload padding)) ≡ length (packet payload padding) + m.tag_len keys.cipher keys.mac
    = law.seal_length keys seq payload (packet payload padding) low (written_bytes bytes m law counts block seed seq payload (law.block_high keys.cipher) each, k) in
    let parts : length (packet payload padding) ≡ 5 + length payload + length padding = packet_length_is payload padding in
    let padded : length padding ≡ least_padding counts block (length payload) = law.padding_length seed seq (least_padding counts block (length payload)) in
    omega arith

-- a payload and padding that is allowed
pub padded_is : (payload padding : List ℕ) → 0 < length payload → length payload ≤ PAYLOAD_LIMIT → IsPadding true 8 (length payload) (length padding) → length padding < 256
    → IsPacket true 8 0 payload (packet payload padding)
padded_is payload padding some low allowed short = record {
  padding = padding;
  bytes_are = refl;
  fits = record { multiple = allowed.multiple; least = allowed.enough; limit = omega arith };
  padding_low = allowed.low;
  padding_high = short;
  not_empty = some;
}

-- the keys of a suite that leaves the iv as it is
module _ (m : SuiteData) (still : (keys : KeysData) (len : ℕ) → m.next_iv keys len ≡ keys.iv) where
  same_keys : (keys : KeysData) (len : ℕ) → advanced m keys len ≡ keys
  same_keys keys len = ap (λ (iv : List ℕ). let k : KeysData = record keys { iv = iv } in k) (still keys len)

  pub stays_opened : (keys : KeysData) (sizes : List ℕ) → all_advanced m keys sizes ≡ keys
  unfolding all_advanced
  stays_opened keys [] = refl
  stays_opened keys (n ∷ ns) = ap (λ (k : KeysData). all_advanced m k ns) (same_keys keys n) ∙ stays_opened keys ns

  pub stays_sealed : (keys : KeysData) (payloads : List (List ℕ)) → after_all m keys payloads ≡ keys
  unfolding after_all
  stays_sealed keys [] = refl
  stays_sealed keys (p ∷ ps) = ap (λ (k : KeysData). after_all m k ps) (same_keys keys (sealed_size m keys p)) ∙ stays_sealed keys ps
