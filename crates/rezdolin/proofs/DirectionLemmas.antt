-- States in bytes.

use Rattle.std.proofs.Common.{◌≡◌, ◌∙◌, ℕ, ◌+◌, ◌*◌, ◌/◌, ◌%◌, ◌^◌, ◌<◌, ◌≤◌, List, [], ◌++◌, Option, None, Some, ap, arith, drop, length, refl, subst, sym, take}
use Rattle.std.proofs.Math.Seq.{drop-append_seam, take-append_seam}
use Rattle.std.proofs.lemmas.List.{append_assoc, length-append}
use Rattle.sshwire.specs.declared.limits.TheConstants.{PAYLOAD_LIMIT}
use Rattle.sshwire.specs.Types.{string, uint32}
use Rattle.sshpacket.specs.KeysData.{KeysData}
use Rattle.sshpacket.specs.Parse.{protection}
use Rattle.sshpacket.specs.ProtectedPacket.{IsProtectedPacket}
use Rattle.sshpacket.specs.PacketReaderData.{PacketReaderData}
use Rattle.sshpacket.specs.Suite.{advanced, next_keys}
use Rattle.sshpacket.specs.Written.{IsWritten, written, written_sealed}
use Rattle.sshcore.specs.declared.link.TheConstants.{LINK_BYTES_LIMIT, LINK_LIMIT}
use Rattle.sshsuite.specs.Deployed.{deployed}
use Rattle.sshsuite.specs.DeployedLaws.{next_length}
use Rattle.rezdolin.specs.declared.directions.Place.{Place}
use Rattle.rezdolin.specs.Directions.{IsOpened, IsPut, IsSealed, IsStateBefore, place_bytes, vector_place}
use Rattle.rezdolin.specs.Drawn.{IsUniform}
use Rattle.rezdolin.specs.Records.{state_bytes}

-- a place that was read in four numbers
pub place_whole : (n c high low : ℕ) (all a b d e : List ℕ) → low < 2 ^ 32
    → all ≡ uint32 n ++ a → a ≡ uint32 c ++ b → b ≡ uint32 high ++ d → d ≡ uint32 low ++ e
    → all ≡ place_bytes (record { number = n; count = c; bytes = high * 2 ^ 32 + low }) ++ e
place_whole n c high low all a b d e small e1 e2 e3 e4 =
    let above : high ≡ (high * 2 ^ 32 + low) / 2 ^ 32 = omega (arith, small) in
    let below : low ≡ (high * 2 ^ 32 + low) % 2 ^ 32 = omega (arith, small) in
    e1 ∙ ap (λ (xs : List ℕ). uint32 n ++ xs) (e2 ∙ ap (λ (xs : List ℕ). uint32 c ++ xs)
    (e3 ∙ (ap (λ (k : ℕ). uint32 k ++ d) above ∙ ap (λ (xs : List ℕ). uint32 ((high * 2 ^ 32 + low) / 2 ^ 32) ++ xs) (e4 ∙ ap (λ (k : ℕ). uint32 k ++ e) below))))

-- what was read field by field
pub state_whole : (place : Place) (cipher mac iv enc mac_key all b d e f g h : List ℕ)
    → all ≡ place_bytes place ++ b → b ≡ string cipher ++ d → d ≡ string mac ++ e → e ≡ string iv ++ f → f ≡ string enc ++ g → g ≡ string mac_key ++ h → h ≡ []
    → all ≡ state_bytes place.number place.count place.bytes (record { cipher = cipher; mac = mac; iv = iv; enc = enc; mac_key = mac_key })
state_whole place cipher mac iv enc mac_key all b d e f g h e1 e3 e4 e5 e6 e7 e8 =
    e1 ∙ ap (λ (xs : List ℕ). place_bytes place ++ xs) (e3 ∙ ap (λ (xs : List ℕ). string cipher ++ xs)
    (e4 ∙ ap (λ (xs : List ℕ). string mac ++ xs) (e5 ∙ ap (λ (xs : List ℕ). string iv ++ xs) (e6 ∙ ap (λ (xs : List ℕ). string enc ++ xs)
    (e7 ∙ ap (λ (xs : List ℕ). string mac_key ++ xs) e8)))))

-- what stands before the vector of a state, and what stands after it
front : Place → KeysData → List ℕ
front place keys = place_bytes place ++ (string keys.cipher ++ (string keys.mac ++ uint32 (length keys.iv)))

back : KeysData → List ℕ
back keys = string keys.enc ++ (string keys.mac_key ++ [])

abbrev state_at : Place → KeysData → List ℕ
state_at place keys = state_bytes place.number place.count place.bytes keys

parted : (place : Place) (keys : KeysData) → state_at place keys ≡ front place keys ++ (keys.iv ++ back keys)
unfolding front back
parted place keys =
    let rest = keys.iv ++ back keys in
    sym (ap (λ (xs : List ℕ). place_bytes place ++ xs)
    (append_assoc (string keys.cipher) (string keys.mac ++ uint32 (length keys.iv)) rest ∙ ap (λ (xs : List ℕ). string keys.cipher ++ xs) (append_assoc (string keys.mac) (uint32 (length keys.iv)) rest)))

front_length : (place : Place) (keys : KeysData) → length (front place keys) ≡ vector_place keys
unfolding front
front_length place keys =
    omega (arith, length-append (string keys.cipher) (string keys.mac ++ uint32 (length keys.iv)), length-append (string keys.mac) (uint32 (length keys.iv)))

-- other bytes in the place of as many
put_there : (a old new b all : List ℕ) (place : ℕ) → all ≡ a ++ (old ++ b) → length a ≡ place → length old ≡ length new
    → take place all ++ (new ++ drop (place + length new) all) ≡ a ++ (new ++ b)
put_there a old new b all place is at same =
    let before : take place all ≡ a = ap (λ (k : ℕ). take k all) (sym at) ∙ (ap (λ (xs : List ℕ). take (length a) xs) is ∙ take-append_seam a (old ++ b)) in
    let both : place + length new ≡ length (a ++ old) = omega (arith, length-append a old, at, same) in
    let after : drop (place + length new) all ≡ b = ap (λ (k : ℕ). drop k all) both
    ∙ (ap (λ (xs : List ℕ). drop (length (a ++ old)) xs) (is ∙ sym (append_assoc a old b)) ∙ drop-append_seam (a ++ old) b) in
    ap (λ (xs : List ℕ). xs ++ (new ++ drop (place + length new) all)) before ∙ ap (λ (xs : List ℕ). a ++ (new ++ xs)) after

-- the place at the front goes, and the rest stays
place_goes : (place next : Place) (keys : KeysData) (before after : List ℕ) → before ≡ state_at place keys → after ≡ place_bytes next ++ drop 16 before → after ≡ state_at next keys
place_goes place next keys before after is now = now ∙ ap (λ (xs : List ℕ). place_bytes next ++ drop 16 xs) is

-- the vector lies within the bytes of a state
pub place_within : (place : Place) (keys : KeysData) (bytes : List ℕ) → IsStateBefore place keys bytes → vector_place keys + length keys.iv ≤ length bytes
place_within place keys bytes h =
    let old = record keys { iv = h.0 } in
    omega (arith, ap length (h.2 ∙ parted place old), length-append (front place old) (h.0 ++ back old), front_length place old, length-append h.0 (back old), h.1)

pub place_within_after : (place next : Place) (keys : KeysData) (before after : List ℕ) → IsStateBefore place keys before
    → after ≡ place_bytes next ++ drop 16 before → vector_place keys + length keys.iv ≤ length after
place_within_after place next keys before after h now =
    place_within next keys after (h.0, h.1, place_goes place next (record keys { iv = h.0 }) before after h.2 now)

-- what stands before a vector tells of it how many bytes it has, and no more
fronts_alike : (place : Place) (keys : KeysData) (iv : List ℕ) → length iv ≡ length keys.iv → front place (record keys { iv = iv }) ≡ front place keys
unfolding front
fronts_alike place keys iv same =
    ap (λ (n : ℕ). place_bytes place ++ (string keys.cipher ++ (string keys.mac ++ uint32 n))) same

backs_alike : (keys : KeysData) (iv : List ℕ) → back (record keys { iv = iv }) ≡ back keys
unfolding back
backs_alike keys iv = refl

-- the state of the next packet, by another place and the new vector in its own
pub raised_so : (place next : Place) (keys : KeysData) (before between after : List ℕ) → IsStateBefore place keys before
    → between ≡ place_bytes next ++ drop 16 before
    → after ≡ take (vector_place keys) between ++ (keys.iv ++ drop (vector_place keys + length keys.iv) between)
    → after ≡ state_at next keys
raised_so place next keys before between after h goes vector =
    let old = record keys { iv = h.0 } in
    let stood : between ≡ front next old ++ (h.0 ++ back old) = place_goes place next old before between h.2 goes ∙ parted next old in
    let same : front next old ≡ front next keys = fronts_alike next keys h.0 h.1 in
    vector ∙ (put_there (front next old) h.0 keys.iv (back old) between (vector_place keys) stood (front_length next old) h.1
    ∙ (ap (λ (xs : List ℕ). xs ++ (keys.iv ++ back old)) same
    ∙ (ap (λ (xs : List ℕ). front next keys ++ (keys.iv ++ xs)) (backs_alike keys h.0) ∙ sym (parted next keys))))

-- a state by the keys before is one for the keys after
pub before_next : (place : Place) (len : ℕ) (keys next : KeysData) (bytes : List ℕ) → bytes ≡ state_at place keys → next ≡ advanced deployed keys len
    → IsStateBefore place next bytes
before_next place len keys next bytes is next_is =
    subst (λ (k : KeysData). IsStateBefore place k bytes) (sym next_is) (keys.iv, sym (next_length keys len), is)

-- after a packet a reader has the keys of the next one
pub reads_on_by : (keys : KeysData) (number used : ℕ) (reader after : PacketReaderData) (found : Option KeysData)
    → reader ≡ record { keys = Some keys; seq = number; held = []; fault = None } → after.keys ≡ next_keys deployed reader.keys used
    → found ≡ after.keys → found ≡ Some (advanced deployed keys used)
reads_on_by keys number used reader after found begins goes here =
    here ∙ (goes ∙ ap (λ (d : PacketReaderData). next_keys deployed d.keys used) begins)

pub same_keys : (keys next : KeysData) (found : Option KeysData) → found ≡ Some next → found ≡ Some keys → next ≡ keys
same_keys keys next found is other = let both : Some next ≡ Some keys = sym is ∙ other in cc

pub sealed_by : (place : Place) (keys next : KeysData) (seed payload packet before after room new : List ℕ) (n : ℕ)
    → before ≡ state_at place keys → place.count < LINK_LIMIT → place.bytes < LINK_BYTES_LIMIT → next ≡ advanced deployed keys (length packet)
    → after ≡ state_bytes ((place.number + 1) % 2 ^ 32) (place.count + 1) (place.bytes + n) next
    → (IsUniform seed → ⊥) → 0 < length payload → length payload ≤ PAYLOAD_LIMIT
    → packet ≡ written_sealed deployed keys seed place.number payload → IsPut packet room n new
    → IsWritten (deployed.counts_length keys.cipher keys.mac) (deployed.block keys.cipher) (deployed.tag_len keys.cipher keys.mac) payload
    (written deployed (deployed.counts_length keys.cipher keys.mac) (deployed.block keys.cipher) seed place.number payload)
    → IsSealed deployed before seed payload room after n new
sealed_by place keys next seed payload packet before after room new n is left bytes_left next_is now drawn some short packet_is put least = record {
  moves = record {
    number = place.number;
    count = place.count;
    bytes = place.bytes;
    keys = keys;
    before_is = is;
    left = left;
    bytes_left = bytes_left;
    after_is = now ∙ ap (state_bytes ((place.number + 1) % 2 ^ 32) (place.count + 1) (place.bytes + n)) (next_is ∙ ap (advanced deployed keys) (sym put.1));
  };
  drawn = drawn;
  some = some;
  short = short;
  put = subst (λ (xs : List ℕ). IsPut xs room n new) packet_is put;
  packet = least;
}

pub opened_by : (place : Place) (keys next : KeysData) (before after received payload room new : List ℕ) (used n : ℕ)
    → before ≡ state_at place keys → place.count < LINK_LIMIT → place.bytes < LINK_BYTES_LIMIT → next ≡ advanced deployed keys used
    → after ≡ state_bytes ((place.number + 1) % 2 ^ 32) (place.count + 1) (place.bytes + used) next
    → used ≤ length received → IsPut payload room n new → IsProtectedPacket (protection deployed (Some keys) place.number) payload (take used received)
    → IsOpened deployed before received room after used n new
opened_by place keys next before after received payload room new used n is left bytes_left next_is now within put packet = record {
  moves = record {
    number = place.number;
    count = place.count;
    bytes = place.bytes;
    keys = keys;
    before_is = is;
    left = left;
    bytes_left = bytes_left;
    after_is = now ∙ ap (state_bytes ((place.number + 1) % 2 ^ 32) (place.count + 1) (place.bytes + used)) next_is;
  };
  within = within;
  payload = payload;
  put = put;
  packet = packet;
}
