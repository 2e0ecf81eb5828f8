-- What the reading of one packet answers, and what that means.

use Rattle.std.proofs.Common.{◌≡◌, inl, inr, ℕ, ◌+◌, ◌-◌, ◌<◌, ◌≤◌, ◌^◌, Bool, true, false, List, length, take, drop, Option, None, Some, refl, sym, ap, ◌∙◌, arith, ltb, leb, eqb}
use Rattle.std.specs.Prelude.{slice_index}
use Rattle.std.proofs.lemmas.Bool.{eqb-false, eqb-true, ltb-false, ltb-true, leb-false, leb-true}
use Rattle.std.proofs.lemmas.List.{length-take-le, take-take}
use Rattle.sshwire.specs.TypeReadings.{IsReading, uint32_at}
use Rattle.sshwire.specs.Types.{IsBytes, Uint32Text}
use Rattle.sshpacket.specs.declared.fault.PacketFault.{PacketFault}
use Rattle.sshpacket.specs.declared.fault.PacketFault.TheVariants.{Empty, Length, Mac, Memory, Padding}
use Rattle.sshpacket.specs.Parse.{Parse, OfLine, OfPacket, ProtectionData, parse_packet, is_length, opened, refused, total, unfinished, unsealed, protection, whole}
use Rattle.sshpacket.specs.KeysData.{KeysData}
use Rattle.sshpacket.specs.Packet.{IsPacket, number}
use Rattle.sshpacket.specs.Suite.{IsLawful, Keeps, SuiteData}
use Rattle.sshpacket.specs.ProtectedPacket.{IsFaithful, IsProtectedPacket, IsWhole, PacketMeans, Refuses}
use Rattle.sshpacket.proofs.ParseLemmas.{parse_bad, parse_full, parse_part, parse_short, length_from, length_never, length_not, length_of}
use Rattle.sshpacket.proofs.Opening.{opened_empty, opened_packet, opened_padding, opened_whole, packet_length_is, packet_number, packet_of_parts, number_first}
use Rattle.sshpacket.specs.declared.limits.TheConstants.{PACKET_LIMIT}

-- the first four bytes of what stands there are the first four
module _ (w : ProtectionData) (bytes : List ℕ) where
  first_four : (len : ℕ) → 4 ≤ len → take 4 (take len bytes) ≡ take 4 bytes
  first_four len h = take-take 4 len bytes h

  same_total : (len : ℕ) → 4 ≤ len → total w (take len bytes) ≡ total w bytes
  same_total len h = ap (λ (xs : List ℕ). 4 + w.head xs + w.tag) (first_four len h)

-- what the law of bytes says of their first ones
abbrev pub TakesBytes : Type 0
TakesBytes = (n : ℕ) (bytes : List ℕ) → IsBytes bytes → IsBytes (take n bytes)

-- what is unsealed at the front has the length read
kept : TakesBytes → (w : ProtectionData) (bytes : List ℕ) → IsFaithful w → IsBytes bytes → (clear : List ℕ) → total w bytes ≤ length bytes
    → w.unseal (take (total w bytes) bytes) ≡ Some clear → Keeps (w.head (take 4 bytes)) clear
kept taken w bytes f h clear all e =
    let wide : 4 ≤ total w bytes = omega arith in
    let size : length (take (total w bytes) bytes) ≡ total w (take (total w bytes) bytes)
    = length-take-le (total w bytes) bytes all ∙ sym (same_total w bytes (total w bytes) wide) in
    rw (first_four w bytes (total w bytes) wide) at (f.keeps (take (total w bytes) bytes) clear (taken (total w bytes) bytes h) size e)

module _ (taken : TakesBytes) (r : IsReading Uint32Text uint32_at) (w : ProtectionData) (bytes : List ℕ) (f : IsFaithful w) (h : IsBytes bytes) where
  abbrev n : ℕ
  n = w.head (take 4 bytes)

  module _ (whole_is : IsWhole w bytes (total w bytes)) (clear : List ℕ) (e : w.unseal (take (total w bytes) bytes) ≡ Some clear) (k : Keeps n clear) where
    abbrev p : ℕ
    p = slice_index clear 4

    rest_is : length clear - 4 ≡ n
    rest_is = (let long : length clear ≡ 4 + n = k.length_is in omega arith)

    opens_empty : 4 ≤ p → p < n → (b : Bool) → eqb (p + 1) n ≡ b → PacketMeans w bytes (opened clear (total w bytes))
    opens_empty low less true t =
        let empty : p + 1 ≡ n = eqb-true (p + 1) n t in
        rw (opened_empty clear p n (total w bytes) refl rest_is low empty) (whole_is, clear, e, low, empty)
    opens_empty low less false t =
        let some : p + 1 < n = (let ne = eqb-false (p + 1) n t in omega (arith, ne, less)) in
        let size : length (take (total w bytes) bytes) ≡ total w (take (total w bytes) bytes)
        = length-take-le (total w bytes) bytes whole_is.there ∙ sym (same_total w bytes (total w bytes) (omega arith)) in
        let packet : IsPacket w.counts w.block w.tag (take (n - p - 1) (drop 5 clear)) clear
        = rw rest_is at (packet_of_parts r w.counts w.block w.tag n clear k whole_is.fits low some) in
        rw (opened_whole clear p n (total w bytes) refl rest_is low some)
        (whole_is.there, record { clear = clear; size = size; opens = e; spells = packet })

    opens_high : 4 ≤ p → (b : Bool) → leb n p ≡ b → PacketMeans w bytes (opened clear (total w bytes))
    opens_high low true t =
        let high : n ≤ p = leb-true n p t in
        rw (opened_padding clear p n (total w bytes) refl rest_is (inr high)) (whole_is, clear, e, inr high)
    opens_high low false t =
        let less : p < n = leb-false n p t in
        opens_empty low less (eqb (p + 1) n) refl

    opens : (b : Bool) → ltb p 4 ≡ b → PacketMeans w bytes (opened clear (total w bytes))
    opens true t =
        let low : p < 4 = ltb-true p 4 t in
        rw (opened_padding clear p n (total w bytes) refl rest_is (inl low)) (whole_is, clear, e, inl low)
    opens false t = opens_high (ltb-false p 4 t) (leb n p) refl

  unseals : IsWhole w bytes (total w bytes) → (o : Option (List ℕ)) → w.unseal (take (total w bytes) bytes) ≡ o → PacketMeans w bytes (unsealed o (total w bytes))
  unseals whole_is None e = (whole_is, e)
  unseals whole_is (Some clear) e = opens whole_is clear e (kept taken w bytes f h clear whole_is.there e) (ltb (slice_index clear 4) 4) refl

  means_by : (s t u : Bool) → ltb (length bytes) 4 ≡ s → is_length w.counts w.block w.tag n ≡ t → ltb (length bytes) (total w bytes) ≡ u → PacketMeans w bytes (parse_packet w bytes)
  means_by true t u a b c = let short : length bytes < 4 = ltb-true (length bytes) 4 a in rw (parse_short w bytes short) (inl short)
  means_by false false u a b c =
      let headed : 4 ≤ length bytes = ltb-false (length bytes) 4 a in
      rw (parse_bad w bytes headed b) (headed, refl, length_never w.counts w.block w.tag n b)
  means_by false true true a b c =
      let headed : 4 ≤ length bytes = ltb-false (length bytes) 4 a in
      let less : length bytes < total w bytes = ltb-true (length bytes) (total w bytes) c in
      rw (parse_part w bytes headed b less) (inr (record { headed = headed; fits = length_of w.counts w.block w.tag n b; lacks = less }))
  means_by false true false a b c =
      let headed : 4 ≤ length bytes = ltb-false (length bytes) 4 a in
      let all : total w bytes ≤ length bytes = ltb-false (length bytes) (total w bytes) c in
      rw (parse_full w bytes headed b all)
      (unseals (record { headed = headed; fits = length_of w.counts w.block w.tag n b; size = refl; there = all }) (w.unseal (take (total w bytes) bytes)) refl)

  pub means : PacketMeans w bytes (parse_packet w bytes)
  means = means_by (ltb (length bytes) 4) (is_length w.counts w.block w.tag n) (ltb (length bytes) (total w bytes)) refl refl refl

-- what the first four bytes and the whole packet decide
parse_whole : (w : ProtectionData) (bytes : List ℕ) (len : ℕ) → IsWhole w bytes len → parse_packet w bytes ≡ unsealed (w.unseal (take len bytes)) len
parse_whole w bytes len k =
    let size : len ≡ total w bytes = k.size in
    let all : total w bytes ≤ length bytes = (let there : len ≤ length bytes = k.there in omega arith) in
    parse_full w bytes k.headed (length_from w.counts w.block w.tag (w.head (take 4 bytes)) k.fits) all
    ∙ ap (λ (m : ℕ). unsealed (w.unseal (take m bytes)) m) (sym size)

-- a unit at the front is read as its payload; no law is needed
pub parse_unit : (w : ProtectionData) (payload clear bytes : List ℕ) (len : ℕ) → len ≤ length bytes → len ≡ total w bytes → w.unseal (take len bytes) ≡ Some clear
    → IsPacket w.counts w.block w.tag payload clear → length clear ≡ 4 + w.head (take 4 bytes) → 4 ≤ len → parse_packet w bytes ≡ whole payload len
parse_unit w payload clear bytes len there size opens packet long wide =
    let parts : length clear ≡ 5 + length payload + length packet.padding
    = ap (λ (xs : List ℕ). length xs) packet.bytes_are ∙ packet_length_is payload packet.padding in
    let head : 1 + length payload + length packet.padding ≡ w.head (take 4 bytes) = omega arith in
    parse_whole w bytes len (record { headed = omega arith; fits = rw head at packet.fits; size = size; there = there })
    ∙ (ap (λ (o : Option (List ℕ)). unsealed o len) opens ∙ opened_packet w.counts w.block w.tag payload clear len packet)

-- a whole packet that was unsealed
opened_at : (w : ProtectionData) (bytes : List ℕ) (place : ℕ) (clear : List ℕ) → IsWhole w bytes place → w.unseal (take place bytes) ≡ Some clear
    → parse_packet w bytes ≡ opened clear place
opened_at w bytes place clear k e = parse_whole w bytes place k ∙ ap (λ (o : Option (List ℕ)). unsealed o place) e

rest_of : TakesBytes → (w : ProtectionData) (bytes : List ℕ) → IsFaithful w → IsBytes bytes → (place : ℕ) (clear : List ℕ) → IsWhole w bytes place
    → w.unseal (take place bytes) ≡ Some clear → length clear - 4 ≡ w.head (take 4 bytes)
rest_of taken w bytes f h place clear k e =
    let size : place ≡ total w bytes = k.size in
    let all : total w bytes ≤ length bytes = (let there : place ≤ length bytes = k.there in omega arith) in
    let keeps = kept taken w bytes f h clear all (rw size at e) in
    let long : length clear ≡ 4 + w.head (take 4 bytes) = keeps.length_is in
    omega arith

read_unit : TakesBytes → (w : ProtectionData) (bytes payload : List ℕ) (len : ℕ) → IsFaithful w → IsBytes bytes → len ≤ length bytes → IsProtectedPacket w payload (take len bytes)
    → parse_packet w bytes ≡ whole payload len
read_unit taken w bytes payload len f h there u =
    let size : length (take len bytes) ≡ len = length-take-le len bytes there in
    let counts : length (take len bytes) ≡ 4 + w.head (take 4 (take len bytes)) + w.tag = u.size in
    let wide : 4 ≤ len = omega arith in
    let is : len ≡ total w bytes = sym size ∙ (u.size ∙ same_total w bytes len wide) in
    let keeps : Keeps (w.head (take 4 bytes)) u.clear = rw (first_four w bytes len wide) at (f.keeps (take len bytes) u.clear (taken len bytes h) u.size u.opens) in
    parse_unit w payload u.clear bytes len there is u.opens u.spells keeps.length_is wide

reads_packet : TakesBytes → (w : ProtectionData) (bytes : List ℕ) → IsFaithful w → IsBytes bytes → (fault : PacketFault) (place : ℕ) → Refuses w bytes fault place
    → parse_packet w bytes ≡ refused (OfPacket fault) place
reads_packet taken w bytes f h Length place (headed, at_four, never) =
    parse_bad w bytes headed (length_not w.counts w.block w.tag (w.head (take 4 bytes)) never) ∙ ap (λ (k : ℕ). refused (OfPacket Length) k) (sym at_four)
reads_packet taken w bytes f h Mac place (k, none) = parse_whole w bytes place k ∙ ap (λ (o : Option (List ℕ)). unsealed o place) none
reads_packet taken w bytes f h Padding place (k, clear, e, cause) =
    opened_at w bytes place clear k e
    ∙ opened_padding clear (slice_index clear 4) (w.head (take 4 bytes)) place refl (rest_of taken w bytes f h place clear k e) cause
reads_packet taken w bytes f h Empty place (k, clear, e, low, empty) =
    opened_at w bytes place clear k e
    ∙ opened_empty clear (slice_index clear 4) (w.head (take 4 bytes)) place refl (rest_of taken w bytes f h place clear k e) low empty
reads_packet taken w bytes f h Memory place bad = absurd bad

pub reads : TakesBytes → (w : ProtectionData) (bytes : List ℕ) → IsFaithful w → IsBytes bytes → (answer : Parse) → PacketMeans w bytes answer → parse_packet w bytes ≡ answer
reads taken w bytes f h unfinished (inl short) = parse_short w bytes short
reads taken w bytes f h unfinished (inr part) =
    parse_part w bytes part.headed (length_from w.counts w.block w.tag (w.head (take 4 bytes)) part.fits) part.lacks
reads taken w bytes f h (whole payload len) (there, u) = read_unit taken w bytes payload len f h there u
reads taken w bytes f h (refused (OfPacket fault) place) m = reads_packet taken w bytes f h fault place m
reads taken w bytes f h (refused (OfLine fault) place) m = absurd m

some_one : (a b : List ℕ) → ◌≡◌ {A = Option (List ℕ)} (Some a) (Some b) → a ≡ b
some_one a b e = cc

keeps_clear : (bytes clear : List ℕ) → IsBytes bytes → length bytes ≡ 4 + number (take 4 bytes) + 0 → ◌≡◌ {A = Option (List ℕ)} (Some bytes) (Some clear)
    → Keeps (number (take 4 bytes)) clear
keeps_clear bytes clear each size e =
    let same : bytes ≡ clear = some_one bytes clear e in
    let first : number (take 4 bytes) ≡ number bytes = number_first bytes in
    let long : length clear ≡ length bytes = ap (λ (xs : List ℕ). length xs) (sym same) in
    record {
      length_is = long ∙ (size ∙ omega arith);
      field_is = ap number (sym same) ∙ sym first;
      bytes_are = rw same at each;
    }

-- in clear and with a suite's keys the length is kept
pub faithful : (m : SuiteData) → IsLawful m → (keys : Option KeysData) (seq : ℕ) → seq < 2 ^ 32 → IsFaithful (protection m keys seq)
faithful m law None seq h = record { keeps = keeps_clear }
faithful m law (Some keys) seq h = record { keeps = λ bytes clear each size e. law.unsealed keys seq bytes clear h each size e }

-- a clear packet is a unit in clear, and the other way round
packet_size : IsReading Uint32Text uint32_at → (payload bytes : List ℕ) → IsPacket true 8 0 payload bytes → length bytes ≡ 4 + number (take 4 bytes) + 0
packet_size r payload bytes packet =
    let limit : 4 + (1 + length payload + length packet.padding) + 0 ≤ PACKET_LIMIT = packet.fits.limit in
    let parts : length bytes ≡ 5 + length payload + length packet.padding
    = ap (λ (xs : List ℕ). length xs) packet.bytes_are ∙ packet_length_is payload packet.padding in
    let counts : number bytes ≡ 1 + length payload + length packet.padding
    = ap number packet.bytes_are ∙ packet_number r payload packet.padding (omega arith) in
    let first : number (take 4 bytes) ≡ number bytes = number_first bytes in
    omega arith

pub unit_of_packet : IsReading Uint32Text uint32_at → (m : SuiteData) (seq : ℕ) (payload bytes : List ℕ) → IsPacket true 8 0 payload bytes → IsProtectedPacket (protection m None seq) payload bytes
unit_of_packet r m seq payload bytes packet =
    record { clear = bytes; size = packet_size r payload bytes packet; opens = refl; spells = packet }

pub packet_of_unit : (m : SuiteData) (seq : ℕ) (payload bytes : List ℕ) → IsProtectedPacket (protection m None seq) payload bytes → IsPacket true 8 0 payload bytes
packet_of_unit m seq payload bytes u = let same : u.clear ≡ bytes = sym (some_one bytes u.clear u.opens) in rw same at u.spells
