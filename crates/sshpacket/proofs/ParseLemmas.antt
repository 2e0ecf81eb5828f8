-- The reading of one packet, case by case.

use Rattle.std.proofs.Common.{◌≡◌, ℕ, ◌+◌, ◌%◌, ◌<◌, ◌≤◌, Bool, true, false, List, length, take, refl, sym, ◌∙◌, leb, eqb, ◌&&◌}
use Rattle.std.proofs.lemmas.Bool.{and_parts, eq-eqb, eqb-true, le-leb, le-ltb, leb-true, lt-ltb}
use Rattle.sshpacket.specs.declared.fault.PacketFault.TheVariants.{Length}
use Rattle.sshpacket.specs.Parse.{OfPacket, ProtectionData, parse_packet, is_length, refused, total, unfinished, unsealed}
use Rattle.sshpacket.specs.Packet.{IsLength, counted, alignment}
use Rattle.sshpacket.specs.declared.limits.TheConstants.{PACKET_LIMIT}

pub length_from : (counts : Bool) (block tag n : ℕ) → IsLength counts block tag n → is_length counts block tag n ≡ true
length_from counts block tag n h = rw (le-leb (8 + counted counts) n h.least, le-leb (4 + n + tag) PACKET_LIMIT h.limit, eq-eqb ((counted counts + n) % alignment block) 0 h.multiple) refl

pub length_of : (counts : Bool) (block tag n : ℕ) → is_length counts block tag n ≡ true → IsLength counts block tag n
length_of counts block tag n t =
    let a = and_parts (leb (8 + counted counts) n) (leb (4 + n + tag) PACKET_LIMIT && eqb ((counted counts + n) % alignment block) 0) t in
    let b = and_parts (leb (4 + n + tag) PACKET_LIMIT) (eqb ((counted counts + n) % alignment block) 0) a.1 in
    record { multiple = eqb-true ((counted counts + n) % alignment block) 0 b.1; least = leb-true (8 + counted counts) n a.0; limit = leb-true (4 + n + tag) PACKET_LIMIT b.0 }

not_true : (b : Bool) → b ≡ false → b ≡ true → ⊥
not_true b f t = let bad : true ≡ false = sym t ∙ f in cc

pub length_never : (counts : Bool) (block tag n : ℕ) → is_length counts block tag n ≡ false → IsLength counts block tag n → ⊥
length_never counts block tag n f h = not_true (is_length counts block tag n) f (length_from counts block tag n h)

false_where : (b : Bool) → (b ≡ true → ⊥) → b ≡ false
false_where true never = absurd (never refl)
false_where false never = refl

pub length_not : (counts : Bool) (block tag n : ℕ) → (IsLength counts block tag n → ⊥) → is_length counts block tag n ≡ false
length_not counts block tag n never = false_where (is_length counts block tag n) (λ t. never (length_of counts block tag n t))

module _ (w : ProtectionData) (bytes : List ℕ) where
  pub parse_short : length bytes < 4 → parse_packet w bytes ≡ unfinished
  unfolding parse_packet
  parse_short h = rw (lt-ltb (length bytes) 4 h) refl

  pub parse_bad : 4 ≤ length bytes → is_length w.counts w.block w.tag (w.head (take 4 bytes)) ≡ false → parse_packet w bytes ≡ refused (OfPacket Length) 4
  unfolding parse_packet
  parse_bad h f = rw (le-ltb (length bytes) 4 h, f) refl

  pub parse_part : 4 ≤ length bytes → is_length w.counts w.block w.tag (w.head (take 4 bytes)) ≡ true → length bytes < total w bytes → parse_packet w bytes ≡ unfinished
  unfolding parse_packet
  parse_part h t less = rw (le-ltb (length bytes) 4 h, t, lt-ltb (length bytes) (total w bytes) less) refl

  pub parse_full : 4 ≤ length bytes → is_length w.counts w.block w.tag (w.head (take 4 bytes)) ≡ true → total w bytes ≤ length bytes
      → parse_packet w bytes ≡ unsealed (w.unseal (take (total w bytes) bytes)) (total w bytes)
  unfolding parse_packet
  parse_full h t all = rw (le-ltb (length bytes) 4 h, t, le-ltb (length bytes) (total w bytes) all) refl
