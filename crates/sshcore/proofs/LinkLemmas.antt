-- A link tells what its reader answers, and counts the packets that it opens.

use Rattle.std.proofs.Common.{◌≡◌, ◌≢◌, ◌⊎◌, inl, inr, ℕ, suc, zero, ◌+◌, ◌<◌, ◌≤◌, List, [], ◌∷◌, ◌++◌, length, refl, ap, ◌∙◌, Option, None, Some, Result, Ok, Err, IfOk, IfSome, arith}
use Rattle.sshpacket.specs.declared.fault.PacketFault.{PacketFault}
use Rattle.sshpacket.specs.declared.fault.PacketFault.TheVariants.{Empty, Length, Mac, Memory, Padding}
use Rattle.sshpacket.specs.declared.reader.PacketStep.{PacketStep}
use Rattle.sshpacket.specs.declared.reader.PacketStep.TheVariants.{More, Payload}
use Rattle.sshpacket.specs.ProtectedPacket.{Refuses}
use Rattle.sshpacket.specs.PacketReaderData.{IsPayload, OnlyPacketAnswer, PacketAnswer, PacketReaderData, ReaderLeaves, Uses, last_used, packet_reader_data, protection_at}
use Rattle.sshpacket.specs.Suite.{SuiteData}
use Rattle.sshcore.specs.declared.link_fault.LinkFault.TheVariants as fault
use Rattle.sshcore.specs.Linked.{Incoming, LinkLeaves, OnlyOpenAnswer, OpenAnswer, Opens, packet_ended, told_by}

-- after a piece nothing has come to its end, as long as all of it is held
pub none_ended : (held piece : List ℕ) → packet_ended (held ++ piece) (length piece) ≡ 0
none_ended [] [] = refl
none_ended [] (b ∷ piece) = refl
none_ended (b ∷ held) piece = refl

-- after a packet one has
pub one_ended : (held : List ℕ) (used : ℕ) → held ≡ [] → 0 < used → packet_ended held used ≡ 1
one_ended [] zero e some = absurd (omega (arith, some))
one_ended [] (suc n) e some = refl
one_ended (b ∷ held) used e some = absurd cc

-- at most one has
few_ended : (held : List ℕ) (used : ℕ) → packet_ended held used ≤ 1
few_ended [] zero = omega arith
few_ended [] (suc n) = omega arith
few_ended (b ∷ held) used = omega arith

module _ (m : SuiteData) (i : Incoming) (piece : List ℕ) where
  pub tells_of : (answer : Result PacketStep PacketFault) → PacketAnswer m (packet_reader_data i.reader) piece answer → OpenAnswer m i piece (told_by answer)
  tells_of (Ok step) a = a
  tells_of (Err Length) a = (λ e. cc, a)
  tells_of (Err Padding) a = (λ e. cc, a)
  tells_of (Err Empty) a = (λ e. cc, a)
  tells_of (Err Mac) a = (λ e. cc, a)
  tells_of (Err Memory) a = tt

  -- it opens what the reader has read
  opens_by : (payload : List ℕ) (seq used : ℕ) (answer : Result PacketStep PacketFault) → IsPayload payload seq used answer → Opens payload seq used (told_by answer)
  opens_by payload seq used (Ok step) is = is
  opens_by payload seq used (Err f) is = absurd is

  told_more : (answer : Result PacketStep PacketFault) → (answer ≡ Ok More) ⊎ (answer ≡ Err Memory) → (told_by answer ≡ Ok More) ⊎ (told_by answer ≡ Err fault.Memory)
  told_more answer or = elim or [ inl e ↦ inl (ap told_by e) | inr e ↦ inr (ap told_by e) ]

  told_payload : (payload : List ℕ) (seq used : ℕ) (answer : Result PacketStep PacketFault) → IsPayload payload seq used answer ⊎ (answer ≡ Err Memory)
      → Opens payload seq used (told_by answer) ⊎ (told_by answer ≡ Err fault.Memory)
  told_payload payload seq used answer or = elim or [ inl is ↦ inl (opens_by payload seq used answer is) | inr e ↦ inr (ap told_by e) ]

  -- running out of memory isn't a refusal of bytes
  told_refused : (f : PacketFault) (answer : Result PacketStep PacketFault) → (f ≢ Memory) → (answer ≡ Err f) ⊎ (answer ≡ Err Memory)
      → (told_by answer ≡ Err (fault.Packet f)) ⊎ (told_by answer ≡ Err fault.Memory)
  told_refused Length answer other or = elim or [ inl e ↦ inl (ap told_by e) | inr e ↦ inr (ap told_by e) ]
  told_refused Padding answer other or = elim or [ inl e ↦ inl (ap told_by e) | inr e ↦ inr (ap told_by e) ]
  told_refused Empty answer other or = elim or [ inl e ↦ inl (ap told_by e) | inr e ↦ inr (ap told_by e) ]
  told_refused Mac answer other or = elim or [ inl e ↦ inl (ap told_by e) | inr e ↦ inr (ap told_by e) ]
  told_refused Memory answer other or = absurd (other refl)

  is_refusal : (f : PacketFault) (place : ℕ) → Refuses (protection_at m (packet_reader_data i.reader)) ((packet_reader_data i.reader).held ++ piece) f place → f ≢ Memory
  is_refusal Length place r = λ e. cc
  is_refusal Padding place r = λ e. cc
  is_refusal Empty place r = λ e. cc
  is_refusal Mac place r = λ e. cc
  is_refusal Memory place r = absurd r

  pub only_of : (answer : Result PacketStep PacketFault) → OnlyPacketAnswer m (packet_reader_data i.reader) piece answer → OnlyOpenAnswer m i piece (told_by answer)
  only_of answer only = record {
    more = λ means. told_more answer (only.more means);
    payload = λ payload used low unit. told_payload payload (packet_reader_data i.reader).seq used answer (only.payload payload used low unit);
    refused = λ f place r. told_refused f answer (is_refusal f place r) (only.refused f place r);
  }

  -- how the count is left
  counts_more : (new : Incoming) → (packet_reader_data new.reader).held ≡ (packet_reader_data i.reader).held ++ piece → last_used new.reader ≡ length piece
      → new.opened ≡ i.opened + packet_ended (packet_reader_data new.reader).held (last_used new.reader) → new.opened ≡ i.opened
  counts_more new held used count =
      let none : packet_ended (packet_reader_data new.reader).held (last_used new.reader) ≡ 0
      = ap (λ (xs : List ℕ). packet_ended xs (last_used new.reader)) held ∙ (ap (λ (n : ℕ). packet_ended ((packet_reader_data i.reader).held ++ piece) n) used ∙ none_ended (packet_reader_data i.reader).held piece) in
      omega (arith, count, none)

  counts_one : (new : Incoming) → (packet_reader_data new.reader).held ≡ [] → 0 < last_used new.reader
      → new.opened ≡ i.opened + packet_ended (packet_reader_data new.reader).held (last_used new.reader) → new.opened ≡ i.opened + 1
  counts_one new held some count =
      let one : packet_ended (packet_reader_data new.reader).held (last_used new.reader) ≡ 1 = one_ended (packet_reader_data new.reader).held (last_used new.reader) held some in
      omega (arith, count, one)

  counts_few : (new : Incoming) → new.opened ≡ i.opened + packet_ended (packet_reader_data new.reader).held (last_used new.reader) → new.opened ≤ i.opened + 1
  counts_few new count = omega (arith, count, few_ended (packet_reader_data new.reader).held (last_used new.reader))

  pub leaves_of : (answer : Result PacketStep PacketFault) (new : Incoming) → ReaderLeaves m (packet_reader_data i.reader) piece answer new.reader
      → IfOk answer (λ step. Uses (length piece) step) → new.opened ≡ i.opened + packet_ended (packet_reader_data new.reader).held (last_used new.reader)
      → LinkLeaves m i piece (told_by answer) new
  leaves_of (Ok More) new l uses count = (l.0, counts_more new (ap (λ (s : PacketReaderData). s.held) l.0) l.1 count, l.2)
  leaves_of (Ok (Payload payload seq used)) new l uses count =
      (l.0, counts_one new (ap (λ (s : PacketReaderData). s.held) l.0) (omega (arith, l.1, uses.0)) count, l.2)
  leaves_of (Err Length) new l uses count = (l.0, counts_few new count)
  leaves_of (Err Padding) new l uses count = (l.0, counts_few new count)
  leaves_of (Err Empty) new l uses count = (l.0, counts_few new count)
  leaves_of (Err Mac) new l uses count = (l.0, counts_few new count)
  leaves_of (Err Memory) new l uses count = (l.0, counts_few new count)

-- where no fault is found nothing is claimed of one
pub none_found : (claim : PacketFault → Type 0) (found told : Option PacketFault) → told ≡ found → ((f : PacketFault) → told ≡ Some f → ⊥) → IfSome found claim
none_found claim None told same none = tt
none_found claim (Some f) told same none = absurd (none f same)
