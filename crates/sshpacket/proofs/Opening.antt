-- A clear packet of which all is there, opened.

use Rattle.std.proofs.Common.{◌≡◌, ◌⊎◌, inl, inr, ℕ, ◌+◌, ◌-◌, ◌<◌, ◌≤◌, ◌^◌, Bool, true, false, List, [], ◌∷◌, ◌++◌, length, take, drop, refl, sym, ap, ◌∙◌, arith, ltb, ◌||◌, Ok}
use Rattle.std.specs.Prelude.{slice_index}
use Rattle.std.proofs.lemmas.Bool.{le-ltb, lt-ltb, lt-leb, le-leb, ne_eqb, eq-eqb}
use Rattle.std.proofs.lemmas.List.{drop-drop, get_or-drop, length-append, length-drop, length-take-le, take-append-drop, take_at}
use Rattle.sshwire.specs.TypeReadings.{IsReading, uint32_at}
use Rattle.sshwire.specs.Types.{IsBytes, Uint32Text, uint32}
use Rattle.sshpacket.specs.declared.fault.PacketFault.TheVariants.{Empty, Padding}
use Rattle.sshpacket.specs.Parse.{OfPacket, opened, refused, whole}
use Rattle.sshpacket.specs.Packet.{IsLength, IsPacket, counted, length_field, number, number_read, packet}
use Rattle.sshpacket.specs.Suite.{Keeps}

or_true : (b : Bool) → b || true ≡ true
or_true true = refl
or_true false = refl

-- by the padding's length p and the packet_length n
pub opened_padding : (clear : List ℕ) (p n len : ℕ) → slice_index clear 4 ≡ p → length clear - 4 ≡ n → (p < 4) ⊎ (n ≤ p)
    → opened clear len ≡ refused (OfPacket Padding) len
unfolding opened
opened_padding clear p n len e f (inl low) = rw (e, f, lt-ltb p 4 low) refl
opened_padding clear p n len e f (inr high) = rw (e, f, le-leb n p high, or_true (ltb p 4)) refl

pub opened_empty : (clear : List ℕ) (p n len : ℕ) → slice_index clear 4 ≡ p → length clear - 4 ≡ n → 4 ≤ p → p + 1 ≡ n
    → opened clear len ≡ refused (OfPacket Empty) len
unfolding opened
opened_empty clear p n len e f low empty = rw (e, f, le-ltb p 4 low, lt-leb n p (omega (arith, empty)), eq-eqb (p + 1) n empty) refl

pub opened_whole : (clear : List ℕ) (p n len : ℕ) → slice_index clear 4 ≡ p → length clear - 4 ≡ n → 4 ≤ p → p + 1 < n
    → opened clear len ≡ whole (take (n - p - 1) (drop 5 clear)) len
unfolding opened
opened_whole clear p n len e f low some = rw (e, f, le-ltb p 4 low, lt-leb n p (omega (arith, some)), ne_eqb (p + 1) n (λ z. omega (arith, some, z))) refl

-- the packet of a payload is opened as it
packet_padding : (payload padding : List ℕ) → slice_index (packet payload padding) 4 ≡ length padding
unfolding length_field
packet_padding payload padding = refl

packet_rest : (payload padding : List ℕ) → drop 5 (packet payload padding) ≡ payload ++ padding
unfolding length_field
packet_rest payload padding = refl

pub packet_length_is : (payload padding : List ℕ) → length (packet payload padding) ≡ 5 + length payload + length padding
unfolding length_field
packet_length_is payload padding = let both : length (payload ++ padding) ≡ length payload + length padding = length-append payload padding in omega arith

opened_parts : (payload padding : List ℕ) (len : ℕ) → 4 ≤ length padding → 0 < length payload
    → opened (packet payload padding) len ≡ whole payload len
opened_parts payload padding len low some =
    let long : length (packet payload padding) ≡ 5 + length payload + length padding = packet_length_is payload padding in
    let n : ℕ = 1 + length payload + length padding in
    let p : ℕ = length padding in
    let rest : length (packet payload padding) - 4 ≡ 1 + length payload + length padding = omega (arith, long) in
    let size : 1 + length payload + length padding - length padding - 1 ≡ length payload = omega arith in
    let same : take (1 + length payload + length padding - length padding - 1) (drop 5 (packet payload padding)) ≡ payload
    = ap (λ (k : ℕ). take k (drop 5 (packet payload padding))) size
    ∙ (ap (λ (xs : List ℕ). take (length payload) xs) (packet_rest payload padding) ∙ take_at payload padding (length payload) refl) in
    opened_whole (packet payload padding) (length padding) (1 + length payload + length padding) len (packet_padding payload padding) rest low (omega arith)
    ∙ ap (λ (xs : List ℕ). whole xs len) same

pub opened_packet : (counts : Bool) (block tag : ℕ) (payload clear : List ℕ) (len : ℕ) → IsPacket counts block tag payload clear → opened clear len ≡ whole payload len
opened_packet counts block tag payload clear len k =
    ap (λ (xs : List ℕ). opened xs len) k.bytes_are ∙ opened_parts payload k.padding len k.padding_low k.not_empty

-- the length field and its number
pub number_field : IsReading Uint32Text uint32_at → (n : ℕ) (rest : List ℕ) → n < 2 ^ 32 → number (length_field n ++ rest) ≡ n
unfolding number length_field
number_field r n rest h = ap number_read (r.complete n (uint32 n) rest (h, refl))

pub packet_number : IsReading Uint32Text uint32_at → (payload padding : List ℕ) → 1 + length payload + length padding < 2 ^ 32
    → number (packet payload padding) ≡ 1 + length payload + length padding
packet_number r payload padding h = number_field r (1 + length payload + length padding) (length padding ∷ (payload ++ padding)) h

-- four bytes are a length field
record Headed (bytes : List ℕ) : Type 0 where
  low : number bytes < 2 ^ 32
  bytes_are : bytes ≡ length_field (number bytes) ++ drop 4 bytes

read_four : (bytes : List ℕ) → 4 ≤ length bytes → (n : ℕ) × (uint32_at bytes ≡ Ok (n, drop 4 bytes))
unfolding uint32_at
read_four bytes h = let f : ltb (length bytes) 4 ≡ false = le-ltb (length bytes) 4 h in (number_read (uint32_at bytes), rw f refl)

headed : IsReading Uint32Text uint32_at → (bytes : List ℕ) → IsBytes bytes → 4 ≤ length bytes → Headed bytes
unfolding number length_field
headed r bytes h long =
    let e = read_four bytes long in
    let s = r.sound bytes e.0 (drop 4 bytes) h e.1 in
    let is : number_read (uint32_at bytes) ≡ e.0 = ap number_read e.1 in
    let text : s.0 ≡ uint32 e.0 = s.1.1 in
    record {
      low = rw is s.1.0;
      bytes_are = s.2 ∙ (ap (λ (xs : List ℕ). xs ++ drop 4 bytes) text ∙ ap (λ (n : ℕ). uint32 n ++ drop 4 bytes) (sym is));
    }

-- the number is that of the first four
pub number_first : (bytes : List ℕ) → number (take 4 bytes) ≡ number bytes
unfolding number uint32_at
number_first [] = refl
number_first (a ∷ []) = refl
number_first (a ∷ b ∷ []) = refl
number_first (a ∷ b ∷ c ∷ []) = refl
number_first (a ∷ b ∷ c ∷ d ∷ more) =
    let f : ltb (length (a ∷ b ∷ c ∷ d ∷ more)) 4 ≡ false = le-ltb (length (a ∷ b ∷ c ∷ d ∷ more)) 4 (omega arith) in
    rw f refl

-- a list with a first element
first_and_more : (xs : List ℕ) → 0 < length xs → xs ≡ slice_index xs 0 ∷ drop 1 xs
first_and_more [] h = absurd (omega (arith, h))
first_and_more (x ∷ xs) h = refl

-- A clear packet with a taken length field is the packet of what stands between its padding's length and its padding.
module _ (r : IsReading Uint32Text uint32_at) (counts : Bool) (block tag n : ℕ) (clear : List ℕ) (k : Keeps n clear) where
  abbrev p : ℕ
  p = slice_index clear 4

  abbrev after : List ℕ
  after = drop 5 clear

  abbrev payload : List ℕ
  payload = take (length clear - 4 - p - 1) after

  abbrev padding : List ℕ
  padding = drop (length clear - 4 - p - 1) after

  pub packet_of_parts : IsLength counts block tag n → 4 ≤ p → p + 1 < n → IsPacket counts block tag payload clear
  packet_of_parts fits low some =
      let long : length clear ≡ 4 + n = k.length_is in
      let field : number clear ≡ n = k.field_is in
      let least : 8 + counted counts ≤ n = fits.least in
      let h = headed r clear k.bytes_are (omega arith) in
      let rest : length (drop 4 clear) ≡ length clear - 4 = length-drop 4 clear in
      let left : length after ≡ length clear - 5 = length-drop 5 clear in
      let size : length payload ≡ length clear - 4 - p - 1 = length-take-le (length clear - 4 - p - 1) after (omega arith) in
      let pads : length padding ≡ length after - (length clear - 4 - p - 1) = length-drop (length clear - 4 - p - 1) after in
      let pad : length padding ≡ p = omega arith in
      let whole_is : 1 + length payload + length padding ≡ n = omega arith in
      let byte : p < 256 = k.bytes_are 4 in
      let head : slice_index (drop 4 clear) 0 ≡ length padding = get_or-drop 4 clear 0 0 ∙ sym pad in
      let more : drop 1 (drop 4 clear) ≡ payload ++ padding = drop-drop 1 4 clear ∙ sym (take-append-drop (length clear - 4 - p - 1) after) in
      let tail : drop 4 clear ≡ length padding ∷ (payload ++ padding) = first_and_more (drop 4 clear) (omega arith)
      ∙ (ap (λ (x : ℕ). x ∷ drop 1 (drop 4 clear)) head ∙ ap (λ (xs : List ℕ). length padding ∷ xs) more) in
      record {
        padding = padding;
        bytes_are = h.bytes_are ∙ (ap (λ (m : ℕ). length_field m ++ drop 4 clear) (field ∙ sym whole_is)
            ∙ ap (λ (xs : List ℕ). length_field (1 + length payload + length padding) ++ xs) tail);
        fits = rw whole_is fits;
        padding_low = rw pad low;
        padding_high = rw pad byte;
        not_empty = omega arith;
      }
