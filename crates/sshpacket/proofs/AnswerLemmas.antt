-- What the answer of the function says of the packet at hand.

use Rattle.std.proofs.Common.{◌≡◌, ◌≢◌, ◌⊎◌, inl, inr, ℕ, ◌+◌, ◌%◌, ◌^◌, ◌<◌, ◌≤◌, List, [], ◌++◌, length, take, refl, sym, ap, ◌∙◌, Result, Ok, Err, arith}
use Rattle.std.proofs.Math.Seq.{take-append-add}
use Rattle.std.proofs.lemmas.List.{length-append}
use Rattle.sshpacket.specs.declared.fault.PacketFault.{PacketFault}
use Rattle.sshpacket.specs.declared.fault.PacketFault.TheVariants.{Empty, Length, Mac, Memory, Padding}
use Rattle.sshpacket.specs.declared.reader.PacketStep.{PacketStep}
use Rattle.sshpacket.specs.declared.reader.PacketStep.TheVariants.{More, Payload}
use Rattle.sshpacket.specs.declared.room.TheConstants.{ROOM_KEPT}
use Rattle.sshpacket.specs.Parse.{Parse, OfPacket, refused, unfinished, whole}
use Rattle.sshpacket.specs.declared.reader.PacketReader.{PacketReader}
use Rattle.sshpacket.specs.PacketReaderData.{HoldsNothingAfter, IsPayload, IsStep, KeepsLittle, ReaderLeaves, ReaderWaits, Uses, last_used, spare_room, packet_reader_data, OnlyPacketAnswer, ParseAnswer, PacketAnswer, PacketReaderData, ahead, protection_at}
use Rattle.sshpacket.specs.Suite.{SuiteData, next_keys}
use Rattle.sshpacket.specs.ProtectedPacket.{IsProtectedPacket, PacketMeans}

is_memory : (f : PacketFault) → (f ≡ Memory) ⊎ (f ≢ Memory)
is_memory Length = inr (λ e. cc)
is_memory Padding = inr (λ e. cc)
is_memory Empty = inr (λ e. cc)
is_memory Mac = inr (λ e. cc)
is_memory Memory = inl refl

same_whole : (p q : List ℕ) (i j : ℕ) → whole p i ≡ whole q j → (p ≡ q) × (i ≡ j)
same_whole p q i j e = (cc, cc)

same_fault : (e f : PacketFault) (i j : ℕ) → refused (OfPacket e) i ≡ refused (OfPacket f) j → e ≡ f
same_fault e f i j is = cc

module _ (m : SuiteData) (s : PacketReaderData) (piece : List ℕ) where
  bytes_used : (used : ℕ) → take (length s.held + used) (s.held ++ piece) ≡ s.held ++ take used piece
  bytes_used used = take-append-add s.held piece used

  pub tells_of : (result : Result PacketStep PacketFault) → PacketMeans (protection_at m s) (s.held ++ piece) (ahead m s piece) → ParseAnswer m s piece result → PacketAnswer m s piece result
  tells_of (Ok More) means answer = rw answer at means
  tells_of (Ok (Payload payload seq used)) means answer =
      let told : PacketMeans (protection_at m s) (s.held ++ piece) (whole payload.now (length s.held + used)) = rw answer.1 at means in
      (answer.0, answer.2, rw (bytes_used used) at told.1)
  tells_of (Err f) means answer = λ other.
      let a = answer other in
      let told : PacketMeans (protection_at m s) (s.held ++ piece) (refused (OfPacket f) (length s.held + a.0)) = rw a.2 at means in
      (a.0, a.1, told)

  -- the bytes mean one answer
  abbrev pub OneMeaning : Type 0
  OneMeaning = (found : Parse) → PacketMeans (protection_at m s) (s.held ++ piece) found → ahead m s piece ≡ found

  -- an error that isn't out of memory tells its own refusal
  told_error : (f : PacketFault) → ParseAnswer m s piece (Err f) → (f ≢ Memory) → (used : ℕ) × (ahead m s piece ≡ refused (OfPacket f) (length s.held + used))
  told_error f answer other = let a = answer other in (a.0, a.2)

  only_error : {A : Type 0} → (f : PacketFault) → ParseAnswer m s piece (Err f)
      → ((used : ℕ) → ahead m s piece ≡ refused (OfPacket f) (length s.held + used) → A ⊎ (◌≡◌ {A = Result PacketStep PacketFault} (Err f) (Err Memory)))
      → A ⊎ (◌≡◌ {A = Result PacketStep PacketFault} (Err f) (Err Memory))
  only_error f answer else_is = elim (is_memory f) [
    | inl e ↦ inr (ap (λ (x : PacketFault). let r : Result PacketStep PacketFault = Err x in r) e)
    | inr other ↦ (let a = told_error f answer other in else_is a.0 a.1)
  ]

  more_by : (result : Result PacketStep PacketFault) → ParseAnswer m s piece result → ahead m s piece ≡ unfinished → (result ≡ Ok More) ⊎ (result ≡ Err Memory)
  more_by (Ok More) answer e = inl refl
  more_by (Ok (Payload payload seq used)) answer e = absurd (let bad : ◌≡◌ {A = Parse} unfinished (whole payload.now (length s.held + used)) = sym e ∙ answer.1 in cc)
  more_by (Err f) answer e = only_error f answer (λ used told. absurd (let bad : ◌≡◌ {A = Parse} unfinished (refused (OfPacket f) (length s.held + used)) = sym e ∙ told in cc))

  payload_by : (wanted : List ℕ) (len : ℕ) (result : Result PacketStep PacketFault) → ParseAnswer m s piece result → ahead m s piece ≡ whole wanted (length s.held + len)
      → IsPayload wanted s.seq len result ⊎ (result ≡ Err Memory)
  payload_by wanted len (Ok More) answer e = absurd (let bad : ◌≡◌ {A = Parse} unfinished (whole wanted (length s.held + len)) = sym answer ∙ e in cc)
  payload_by wanted len (Ok (Payload payload seq used)) answer e =
      let same = same_whole payload.now wanted (length s.held + used) (length s.held + len) (sym answer.1 ∙ e) in
      let sum : length s.held + used ≡ length s.held + len = same.1 in
      inl (same.0, answer.2, omega arith)
  payload_by wanted len (Err f) answer e = only_error f answer
      (λ used told. absurd (let bad : ◌≡◌ {A = Parse} (whole wanted (length s.held + len)) (refused (OfPacket f) (length s.held + used)) = sym e ∙ told in cc))

  refused_by : (wanted : PacketFault) (place : ℕ) (result : Result PacketStep PacketFault) → ParseAnswer m s piece result → ahead m s piece ≡ refused (OfPacket wanted) place
      → (result ≡ Err wanted) ⊎ (result ≡ Err Memory)
  refused_by wanted place (Ok More) answer e = absurd (let bad : ◌≡◌ {A = Parse} unfinished (refused (OfPacket wanted) place) = sym answer ∙ e in cc)
  refused_by wanted place (Ok (Payload payload seq used)) answer e =
      absurd (let bad : ◌≡◌ {A = Parse} (whole payload.now (length s.held + used)) (refused (OfPacket wanted) place) = sym answer.1 ∙ e in cc)
  refused_by wanted place (Err f) answer e = only_error f answer
      (λ used told. inl (ap (λ (x : PacketFault). let r : Result PacketStep PacketFault = Err x in r) (same_fault f wanted _ place (sym told ∙ e))))

  -- a packet within the piece
  unit_means : (payload : List ℕ) (used : ℕ) → used ≤ length piece → IsProtectedPacket (protection_at m s) payload (s.held ++ take used piece)
      → PacketMeans (protection_at m s) (s.held ++ piece) (whole payload (length s.held + used))
  unit_means payload used low unit =
      let all : length (s.held ++ piece) ≡ length s.held + length piece = length-append s.held piece in
      (omega arith, rw (bytes_used used) unit)

  pub only_of : (result : Result PacketStep PacketFault) → OneMeaning → ParseAnswer m s piece result → OnlyPacketAnswer m s piece result
  only_of result one answer = record {
    more = λ found. more_by result answer (one unfinished found);
    payload = λ payload used low unit. payload_by payload used result answer
        (one (whole payload (length s.held + used)) (unit_means payload used low unit));
    refused = λ f place found. refused_by f place result answer (one (refused (OfPacket f) place) found);
  }

  -- what is told by the payload that is lent
  module _ (payload : List ℕ) (used : ℕ) where
    pub step_answer : (step : PacketStep) → IsStep payload s.seq used step → used ≤ length piece → ahead m s piece ≡ whole payload (length s.held + used)
        → ParseAnswer m s piece (Ok step)
    step_answer More is low e = absurd is
    step_answer (Payload lent seq taken) is low e =
        (omega (arith, is.2, low), e ∙ (ap (λ (xs : List ℕ). whole xs (length s.held + used)) (sym is.0) ∙ ap (λ (n : ℕ). whole lent.now (length s.held + n)) (sym is.2)), is.1)

    pub step_leaves : (step : PacketStep) (new : PacketReader) → IsStep payload s.seq used step → packet_reader_data new ≡ record s { keys = next_keys m s.keys (length s.held + used); held = []; seq = (s.seq + 1) % 2 ^ 32 }
        → last_used new ≡ used → ReaderWaits m new → ReaderLeaves m s piece (Ok step) new
    step_leaves More new is same taken waits = absurd is
    step_leaves (Payload lent seq number) new is same taken waits = (
      same ∙ ap (λ (n : ℕ). record s { keys = next_keys m s.keys (length s.held + n); held = []; seq = (s.seq + 1) % 2 ^ 32 }) (sym is.2),
      taken ∙ sym is.2,
      waits,
    )

    pub step_uses : (step : PacketStep) → IsStep payload s.seq used step → 0 < used → used ≤ length piece → Uses (length piece) step
    step_uses More is some low = tt
    step_uses (Payload lent seq taken) is some low = (omega (arith, is.2, some), omega (arith, is.2, low))

pub step_holds : (step : PacketStep) (new : PacketReaderData) → new.held ≡ [] → HoldsNothingAfter (Ok step) new
step_holds More new none = tt
step_holds (Payload lent seq taken) new none = none

-- a payload is after a step that is one
pub step_keeps : (payload : List ℕ) (seq used : ℕ) (step : PacketStep) (new : PacketReader) → IsStep payload seq used step → spare_room new ≤ ROOM_KEPT → KeepsLittle (Ok step) new
step_keeps payload seq used More new is little = absurd is
step_keeps payload seq used (Payload lent number taken) new is little = little
