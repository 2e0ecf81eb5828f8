-- A reader that stands at the rest of a stream goes on standing there: of packets, and of the lines before them.

use Rattle.std.proofs.Common.{◌≡◌, ℕ, ◌+◌, ◌≤◌, List, [], ◌∷◌, ◌++◌, length, take, refl, sym, ap, ◌∙◌, subst, arith, None, Ok, Err, Result}
use Rattle.std.proofs.lemmas.List.{append-nil, length-append}
use Rattle.sshwire.specs.declared.fault.WireFault.{WireFault}
use Rattle.sshwire.specs.declared.line_form.LineForm.{LineForm}
use Rattle.sshwire.specs.declared.line_reader.LineStep.{LineStep}
use Rattle.sshwire.specs.declared.line_reader.LineStep.TheVariants as line_step
use Rattle.sshwire.specs.Feeding.{PreambleAnswerBy, StandsOpen}
use Rattle.sshwire.specs.LineReaderData.{Finished, LineReaderData, Progress, Refused, Waits}
use Rattle.sshwire.specs.Lines.{PreambleBy}
use Rattle.sshpacket.specs.declared.fault.PacketFault.{PacketFault}
use Rattle.sshpacket.specs.declared.reader.PacketReader.{PacketReader}
use Rattle.sshpacket.specs.declared.reader.PacketStep.{PacketStep}
use Rattle.sshpacket.specs.declared.reader.PacketStep.TheVariants.{More, Payload}
use Rattle.sshpacket.specs.Parse.{Parse, OfLine, OfPacket, parse_packet, refused, unfinished, whole}
use Rattle.sshpacket.specs.Receiving.{ReceivesLinesOn, ReceivesOn}
use Rattle.sshpacket.specs.PreambleParser.{PreambleMeansBy, preamble_parser_by}
use Rattle.sshpacket.specs.PacketReaderData.{PacketReaderData, ParseAnswer, ReaderLeaves, last_used, protection_at}
use Rattle.sshpacket.specs.Stream.{IsIncremental, Parser, Parsers, Received, Units}
use Rattle.sshpacket.specs.Suite.{SuiteData}
use Rattle.sshpacket.proofs.Streams.{received_part, received_push, received_refusal, received_unit}

pub receives : (m : SuiteData) (parsers : Parsers) → ((us : Units) (ns : List ℕ) → IsIncremental (parsers us ns)) → (stream : List ℕ) (us : Units) (ns : List ℕ) (old : PacketReaderData) (new : PacketReader) (piece : List ℕ)
    (result : Result PacketStep PacketFault) → Received parsers stream us ns old.held None → parsers us ns ≡ parse_packet (protection_at m old)
    → ParseAnswer m old piece result → ReaderLeaves m old piece result new → ReceivesOn parsers stream us ns old piece result new
receives m parsers each stream us ns old new piece (Ok More) h e a l =
    subst (λ (x : List ℕ). Received parsers (stream ++ piece) us ns x None) (sym (ap (λ (s : PacketReaderData). s.held) l.0))
    (received_part parsers each stream piece us ns old.held h (ap (λ (parser : Parser). parser (old.held ++ piece)) e ∙ a))
receives m parsers each stream us ns old new piece (Ok (Payload payload seq used)) h e a l = (
  a.0,
  subst (λ (x : List ℕ). Received parsers (stream ++ take used piece) (us ++ payload.now ∷ []) (ns ++ (length old.held + used) ∷ []) x None) (sym (ap (λ (s : PacketReaderData). s.held) l.0))
      (received_unit parsers each stream piece us ns old.held payload.now used h a.0 (ap (λ (parser : Parser). parser (old.held ++ piece)) e ∙ a.1)),
)
receives m parsers each stream us ns old new piece (Err f) h e a l = λ other.
    received_refusal parsers each stream piece us ns old.held (OfPacket f) (last_used new) h l.1 (ap (λ (parser : Parser). parser (old.held ++ piece)) e ∙ l.2 other)

module _ (form : LineForm) where
  -- what the law of parsers says of lines
  pub record IsLinesParser : Type 0 where
    pub only : (k : ℕ) (bytes : List ℕ) (f : Parse) → PreambleMeansBy form k bytes f → preamble_parser_by form k bytes ≡ f
    pub preamble : (k : ℕ) (text bytes more : List ℕ) → PreambleBy form k text bytes → preamble_parser_by form k (bytes ++ more) ≡ whole text (length bytes)

  -- A line reader that stands open has received no unit.
  pub stands : IsLinesParser → (parsers : Parsers) (k : ℕ) (stream : List ℕ) (progress : Progress) → parsers [] [] ≡ preamble_parser_by form k
      → StandsOpen k stream progress → Received parsers stream [] [] stream None
  stands law parsers k stream (Waits left line) e o = record { read = (refl, refl); then_rest = ap (λ (parser : Parser). parser stream) e ∙ law.only k stream unfinished (left, line, o) }
  stands law parsers k stream Finished e o = absurd o
  stands law parsers k stream (Refused code) e o = absurd o

  -- It goes on standing at the stream.
  pub receives_lines : IsLinesParser → (parsers : Parsers) → ((us : Units) (ns : List ℕ) → IsIncremental (parsers us ns)) → (k : ℕ) (stream piece : List ℕ) (old : Progress) (new : LineReaderData)
      (result : Result LineStep WireFault) → parsers [] [] ≡ preamble_parser_by form k → StandsOpen k stream old → PreambleAnswerBy form k stream piece result new
      → ReceivesLinesOn parsers stream piece result new
  receives_lines law parsers each k stream piece old new (Ok line_step.More) e o a = stands law parsers k (stream ++ piece) new.progress e a.0
  receives_lines law parsers each k stream piece old new (Ok (line_step.Done version used)) e o a =
      let all : List ℕ = stream ++ take used piece in
      let seen : preamble_parser_by form k all ≡ whole version (length all)
      = ap (λ (x : List ℕ). preamble_parser_by form k x) (sym (append-nil all)) ∙ law.preamble k version all [] a.1 in
      (a.0, received_push parsers each stream (take used piece) [] [] stream version None (stands law parsers k stream old e o) (ap (λ (parser : Parser). parser all) e ∙ seen))
  receives_lines law parsers each k stream piece old new (Err code) e o a = λ other.
      let told = a.0 other in
      let seen : parsers [] [] (stream ++ piece) ≡ refused (OfLine code) (length stream + new.taken)
      = ap (λ (parser : Parser). parser (stream ++ piece)) e ∙ law.only k (stream ++ piece) (refused (OfLine code) (length stream + new.taken)) (told.0, sym told.1, told.2) in
      let within : length stream + new.taken ≤ length (stream ++ piece) = ((each [] []).refused_again (stream ++ piece) (OfLine code) (length stream + new.taken) seen).0 in
      let all : length (stream ++ piece) ≡ length stream + length piece = length-append stream piece in
      received_refusal parsers each stream piece [] [] stream (OfLine code) new.taken (stands law parsers k stream old e o) (omega arith) seen
