-- In clear the answers of a packet reader are the same whatever the suite.

use Rattle.std.proofs.Common.{◌≡◌, ℕ, ◌+◌, ◌%◌, ◌^◌, List, [], ◌++◌, length, take, refl, sym, ap, ◌∙◌, subst, Option, None, Some, IfErr, Result, Ok, Err}
use Rattle.sshpacket.specs.ClearReaderData.{ClearWaits, packets_of}
use Rattle.sshpacket.specs.declared.clear_reader.ClearReader.{ClearReader}
use Rattle.sshpacket.specs.declared.fault.PacketFault.{PacketFault}
use Rattle.sshpacket.specs.declared.reader.PacketReader.{PacketReader}
use Rattle.sshpacket.specs.declared.reader.PacketStep.{PacketStep}
use Rattle.sshpacket.specs.declared.reader.PacketStep.TheVariants.{More, Payload}
use Rattle.sshpacket.specs.KeysData.{KeysData}
use Rattle.sshpacket.specs.PacketReaderData.{OnlyPacketAnswer, PacketAnswer, PacketReaderData, ParseAnswer, ReaderLeaves, ReaderWaits, ahead, packet_reader_data, protection_at}
use Rattle.sshpacket.specs.Parse.{ProtectionData, parse_packet, protection, unfinished}
use Rattle.sshpacket.specs.ProtectedPacket.{IsProtectedPacket, PacketMeans, Refuses}
use Rattle.sshpacket.specs.ReaderSteps.{needed}
use Rattle.sshpacket.specs.Suite.{SuiteData, next_keys}

same_by : (m n : SuiteData) (keys : Option KeysData) (seq : ℕ) → keys ≡ None → protection m keys seq ≡ protection n keys seq
same_by m n None seq e = refl
same_by m n (Some keys) seq e = absurd (cc)

module _ (m n : SuiteData) (s : PacketReaderData) (clear : s.keys ≡ None) (piece : List ℕ) where
  same : protection_at m s ≡ protection_at n s
  same = same_by m n s.keys s.seq clear

  same_ahead : ahead n s piece ≡ ahead m s piece
  same_ahead = ap (λ (w : ProtectionData). parse_packet w (s.held ++ piece)) (sym same)

  pub tells_any : (result : Result PacketStep PacketFault) → PacketAnswer m s piece result → PacketAnswer n s piece result
  tells_any (Ok More) a = subst (λ (w : ProtectionData). PacketMeans w (s.held ++ piece) unfinished) same a
  tells_any (Ok (Payload payload seq used)) a =
      (a.0, a.1, subst (λ (w : ProtectionData). IsProtectedPacket w payload.now (s.held ++ take used piece)) same a.2)
  tells_any (Err f) a = λ other.
      let b = a other in (b.0, b.1, subst (λ (w : ProtectionData). Refuses w (s.held ++ piece) f (length s.held + b.0)) same b.2)

  pub only_any : (result : Result PacketStep PacketFault) → OnlyPacketAnswer m s piece result → OnlyPacketAnswer n s piece result
  only_any result a = record {
    more = λ found. a.more (subst (λ (w : ProtectionData). PacketMeans w (s.held ++ piece) unfinished) (sym same) found);
    payload = λ payload used low is. a.payload payload used low
        (subst (λ (w : ProtectionData). IsProtectedPacket w payload (s.held ++ take used piece)) (sym same) is);
    refused = λ f place is. a.refused f place (subst (λ (w : ProtectionData). Refuses w (s.held ++ piece) f place) (sym same) is);
  }

  pub answers_any : (result : Result PacketStep PacketFault) → ParseAnswer m s piece result → ParseAnswer n s piece result
  answers_any (Ok More) a = same_ahead ∙ a
  answers_any (Ok (Payload payload seq used)) a = (a.0, same_ahead ∙ a.1, a.2)
  answers_any (Err f) a = λ other. let b = a other in (b.0, b.1, same_ahead ∙ b.2)

-- a reader without keys waits for any suite that it waits for one
waits_any : (m n : SuiteData) (r : PacketReader) → (packet_reader_data r).keys ≡ None → ReaderWaits m r → ReaderWaits n r
waits_any m n r clear a =
    let same : protection_at n (packet_reader_data r) ≡ protection_at m (packet_reader_data r)
    = same_by n m (packet_reader_data r).keys (packet_reader_data r).seq clear in
    record {
      no_fault = a.no_fault;
      unfinished_is = ap (λ (w : ProtectionData). parse_packet w (packet_reader_data r).held) same ∙ a.unfinished_is;
      knows = a.knows ∙ ap (λ (w : ProtectionData). needed w (packet_reader_data r).held) (sym same);
    }

-- how it is left
pub stays_clear : (m : SuiteData) (s : PacketReaderData) → s.keys ≡ None → (piece : List ℕ) (result : Result PacketStep PacketFault) (new : PacketReader)
    → ReaderLeaves m s piece result new → (packet_reader_data new).keys ≡ None
stays_clear m s clear piece (Err f) new a = ap (λ (t : PacketReaderData). t.keys) a.0 ∙ clear
stays_clear m s clear piece (Ok More) new a = ap (λ (t : PacketReaderData). t.keys) a.0 ∙ clear
stays_clear m s clear piece (Ok (Payload payload seq used)) new a = ap (λ (t : PacketReaderData). t.keys) a.0 ∙ ap (λ (k : Option KeysData). next_keys m k (length s.held + used)) clear

pub leaves_any : (m n : SuiteData) (s : PacketReaderData) → s.keys ≡ None → (piece : List ℕ) (result : Result PacketStep PacketFault) (new : PacketReader)
    → ReaderLeaves m s piece result new → ReaderLeaves n s piece result new
leaves_any m n s clear piece (Err f) new a = (a.0, a.1, λ other. same_ahead m n s clear piece ∙ a.2 other)
leaves_any m n s clear piece (Ok More) new a = (a.0, a.1, waits_any m n new (stays_clear m s clear piece (Ok More) new a) a.2)
leaves_any m n s clear piece (Ok (Payload payload seq used)) new a =
    let none : next_keys m s.keys (length s.held + used) ≡ next_keys n s.keys (length s.held + used)
    = ap (λ (k : Option KeysData). next_keys m k (length s.held + used)) clear ∙ ap (λ (k : Option KeysData). next_keys n k (length s.held + used)) (sym clear) in
    (a.0 ∙ ap (λ (k : Option KeysData). record s { keys = k; held = []; seq = (s.seq + 1) % 2 ^ 32 }) none, a.1, waits_any m n new (stays_clear m s clear piece (Ok (Payload payload seq used)) new a) a.2)

waits_left : (m : SuiteData) (s : PacketReaderData) (piece : List ℕ) (step : PacketStep) (new : PacketReader)
    → ReaderLeaves m s piece (Ok step) new → ReaderWaits m new
waits_left m s piece More new a = a.2
waits_left m s piece (Payload payload seq used) new a = a.2

pub waits_on : (m : SuiteData) (s : PacketReaderData) → s.keys ≡ None → (piece : List ℕ) (step : PacketStep) (new : ClearReader)
    → ReaderLeaves m s piece (Ok step) (packets_of new) → ClearWaits new
waits_on m s clear piece step new a =
    let none : (packet_reader_data (packets_of new)).keys ≡ None = stays_clear m s clear piece (Ok step) (packets_of new) a in
    record { clear = none; waits = λ n. waits_any m n (packets_of new) none (waits_left m s piece step (packets_of new) a) }

-- a refusal is kept
pub leaves_kept : (s : PacketReaderData) (result : Result PacketStep PacketFault) (f : PacketFault) (new : PacketReader) → result ≡ Err f
    → IfErr result (λ g. packet_reader_data new ≡ record s { held = []; fault = Some g }) → packet_reader_data new ≡ record s { held = []; fault = Some f }
leaves_kept s result f new is a = subst (λ (r : Result PacketStep PacketFault). IfErr r (λ g. packet_reader_data new ≡ record s { held = []; fault = Some g })) is a
