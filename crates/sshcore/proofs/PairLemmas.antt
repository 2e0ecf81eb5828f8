-- What one link seals, the other opens; and numbers of packets one after another.

use Rattle.std.proofs.Common.{◌≡◌, ◌≢◌, ◌⊎◌, ℕ, ◌+◌, ◌%◌, ◌^◌, ◌<◌, List, [], ◌∷◌, ◌++◌, length, take, refl, sym, ap, ◌∙◌, subst, Some, Option, Result, Ok, Err, arith}
use Rattle.std.proofs.lemmas.List.{length-append, take_at}
use Rattle.sshpacket.specs.declared.reader.PacketStep.{PacketStep}
use Rattle.sshpacket.specs.declared.reader.PacketStep.TheVariants.{More, Payload}
use Rattle.sshpacket.specs.KeysData.{KeysData}
use Rattle.sshpacket.specs.Parse.{ProtectionData, protection}
use Rattle.sshpacket.specs.ProtectedPacket.{IsProtectedPacket}
use Rattle.sshpacket.specs.PacketReaderData.{PacketReaderData, packet_reader_data, protection_at}
use Rattle.sshpacket.specs.Suite.{SuiteData, advanced, next_keys}
use Rattle.sshpacket.specs.Written.{sealed_size}
use Rattle.sshcore.specs.declared.link_fault.LinkFault.{LinkFault}
use Rattle.sshcore.specs.declared.link_fault.LinkFault.TheVariants as fault
use Rattle.sshcore.specs.declared.session.Direction.{Direction}
use Rattle.sshcore.specs.Linked.{AreLinked, BeginsBy, Incoming, LinkLeaves, OnlyOpenAnswer, Opens, Outgoing, raised, raised_by, sealed_by, sent_by}

pub begins_linked : (direction : Direction) (seed : List ℕ) (i : Incoming) → direction.sequence_number < 2 ^ 32 → BeginsBy direction i → AreLinked (sent_by direction seed) i
begins_linked direction seed i low b = record {
  same_keys = ap (λ (s : PacketReaderData). s.keys) b.state_is;
  same_number = ap (λ (s : PacketReaderData). s.seq) b.state_is;
  none_held = ap (λ (s : PacketReaderData). s.held) b.state_is;
  in_range = low;
}

-- the reader's protection is that of the packet
same_protection : (m : SuiteData) (o : Outgoing) (i : Incoming) → AreLinked o i → protection m (Some o.keys) o.number ≡ protection_at m (packet_reader_data i.reader)
same_protection m o i l =
    ap (λ (k : Option KeysData). protection m k o.number) (sym l.same_keys) ∙ ap (λ (n : ℕ). protection m (packet_reader_data i.reader).keys n) (sym l.same_number)

-- the packet is opened, if it is one by its protection
pub opens_linked : (m : SuiteData) (o : Outgoing) (i : Incoming) → AreLinked o i → (payload rest : List ℕ)
    → IsProtectedPacket (protection m (Some o.keys) o.number) payload (sealed_by m o payload)
    → (result : Result PacketStep LinkFault) → OnlyOpenAnswer m i (sealed_by m o payload ++ rest) result
    → Opens payload o.number (length (sealed_by m o payload)) result ⊎ (result ≡ Err fault.Memory)
opens_linked m o i l payload rest unit result only =
    let sealed : List ℕ = sealed_by m o payload in
    let all : length (sealed ++ rest) ≡ length sealed + length rest = length-append sealed rest in
    let front : sealed ≡ (packet_reader_data i.reader).held ++ take (length sealed) (sealed ++ rest)
    = sym (take_at sealed rest (length sealed) refl) ∙ ap (λ (xs : List ℕ). xs ++ take (length sealed) (sealed ++ rest)) (sym l.none_held) in
    let told : Opens payload (packet_reader_data i.reader).seq (length sealed) result ⊎ (result ≡ Err fault.Memory)
    = only.payload payload (length sealed) (omega (arith, all))
    (subst (λ (w : ProtectionData). IsProtectedPacket w payload ((packet_reader_data i.reader).held ++ take (length sealed) (sealed ++ rest))) (same_protection m o i l)
    (subst (λ (xs : List ℕ). IsProtectedPacket (protection m (Some o.keys) o.number) payload xs) front unit)) in
    subst (λ (n : ℕ). Opens payload n (length sealed) result ⊎ (result ≡ Err fault.Memory)) l.same_number told

pub goes_on_linked : (m : SuiteData) (o : Outgoing) (i new : Incoming) → AreLinked o i → (piece : List ℕ) (step : PacketStep) (payload : List ℕ) (seq used : ℕ)
    → Opens payload seq used (Ok step) → used ≡ sealed_size m o.keys payload → LinkLeaves m i piece (Ok step) new → AreLinked (raised m payload o) new
goes_on_linked m o i new l piece More payload seq used is size leaves = absurd is
goes_on_linked m o i new l piece (Payload lent number taken) payload seq used is size leaves = record {
  same_keys = ap (λ (s : PacketReaderData). s.keys) leaves.0
      ∙ (ap (λ (k : Option KeysData). next_keys m k (length (packet_reader_data i.reader).held + taken)) l.same_keys
      ∙ ap (λ (n : ℕ). Some (advanced m o.keys n))
      (let none : length (packet_reader_data i.reader).held ≡ 0 = ap (λ (xs : List ℕ). length xs) l.none_held in
      let all : length (packet_reader_data i.reader).held + taken ≡ sealed_size m o.keys payload = omega (arith, none, is.2, size) in
      all));
  same_number = ap (λ (s : PacketReaderData). s.seq) leaves.0 ∙ ap (λ (n : ℕ). (n + 1) % 2 ^ 32) l.same_number;
  none_held = ap (λ (s : PacketReaderData). s.held) leaves.0;
  in_range = omega arith;
}

pub counts_by : (m : SuiteData) (o : Outgoing) (ps : List (List ℕ)) → (raised_by m ps o).sealed ≡ o.sealed + length ps
counts_by m o [] = omega arith
counts_by m o (p ∷ ps) = let ih : (raised_by m ps o).sealed ≡ o.sealed + length ps = counts_by m o ps in omega (arith, ih)

number_by : (m : SuiteData) (o : Outgoing) (ps : List (List ℕ)) → o.number < 2 ^ 32 → (raised_by m ps o).number ≡ (o.number + length ps) % 2 ^ 32
number_by m o [] low = omega (arith, low)
number_by m o (p ∷ ps) low = let ih : (raised_by m ps o).number ≡ (o.number + length ps) % 2 ^ 32 = number_by m o ps low in omega (arith, ih)

apart : (x a b : ℕ) → a < b → b < a + 2 ^ 32 → (x + a) % 2 ^ 32 ≢ (x + b) % 2 ^ 32
apart x a b low near = λ e. omega (arith, low, near, e)

pub fresh_by : (m : SuiteData) (o : Outgoing) (ps qs : List (List ℕ)) → o.number < 2 ^ 32 → length ps < length qs → length qs < length ps + 2 ^ 32 → (raised_by m ps o).number ≢ (raised_by m qs o).number
fresh_by m o ps qs low below near = λ e. apart o.number (length ps) (length qs) below near (sym (number_by m o ps low) ∙ (e ∙ number_by m o qs low))
