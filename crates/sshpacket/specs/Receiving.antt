-- What a reader that stands at the rest of a stream has received of the stream and a piece, by its answer: of packets, and of the
-- lines before them.

use Rattle.std.specs.Prelude.{◌≢◌, ℕ, ◌≤◌, ◌+◌, List, [], ◌∷◌, ◌++◌, length, take, None, Some, Result, Ok, Err}
use Rattle.sshwire.specs.declared.fault.WireFault.{WireFault}
use Rattle.sshwire.specs.declared.fault.WireFault.TheVariants as line_fault
use Rattle.sshwire.specs.declared.line_reader.LineStep.{LineStep}
use Rattle.sshwire.specs.declared.line_reader.LineStep.TheVariants as line_step
use Rattle.sshwire.specs.LineReaderData.{LineReaderData}
use Rattle.sshpacket.specs.declared.fault.PacketFault.{PacketFault}
use Rattle.sshpacket.specs.declared.fault.PacketFault.TheVariants.{Memory}
use Rattle.sshpacket.specs.declared.reader.PacketReader.{PacketReader}
use Rattle.sshpacket.specs.declared.reader.PacketStep.{PacketStep}
use Rattle.sshpacket.specs.declared.reader.PacketStep.TheVariants.{More, Payload}
use Rattle.sshpacket.specs.Parse.{OfLine, OfPacket}
use Rattle.sshpacket.specs.PacketReaderData.{PacketReaderData, last_used, packet_reader_data}
use Rattle.sshpacket.specs.Stream.{Parsers, Received, Units}

-- all of the piece, with the rest that is held now; one unit more, and nothing after it; or the refusal, at the last byte used
abbrev pub ReceivesOn : Parsers → List ℕ → Units → List ℕ → PacketReaderData → List ℕ → Result PacketStep PacketFault → PacketReader → Type 0
ReceivesOn parsers stream us sizes old piece (Ok More) new = Received parsers (stream ++ piece) us sizes (packet_reader_data new).held None
ReceivesOn parsers stream us sizes old piece (Ok (Payload payload seq used)) new =
    (used ≤ length piece) × Received parsers (stream ++ take used piece) (us ++ payload.now ∷ []) (sizes ++ (length old.held + used) ∷ []) (packet_reader_data new).held None
ReceivesOn parsers stream us sizes old piece (Err f) new =
    f ≢ Memory → Received parsers (stream ++ take (last_used new) piece) us sizes (old.held ++ take (last_used new) piece) (Some (OfPacket f))

-- What a line reader that stood open at a stream has received of it after an answer (RFC 4253 section 4.2). All of the piece is rest; or
-- the version is the first unit, and nothing follows it; or there is the refusal, at the last byte used.
abbrev pub ReceivesLinesOn : Parsers → List ℕ → List ℕ → Result LineStep WireFault → LineReaderData → Type 0
ReceivesLinesOn parsers stream piece (Ok line_step.More) new = Received parsers (stream ++ piece) [] [] (stream ++ piece) None
ReceivesLinesOn parsers stream piece (Ok (line_step.Done version used)) new =
    (used ≤ length piece) × Received parsers (stream ++ take used piece) (version ∷ []) (length (stream ++ take used piece) ∷ []) [] None
ReceivesLinesOn parsers stream piece (Err code) new =
    code ≢ line_fault.Memory → Received parsers (stream ++ take new.taken piece) [] [] (stream ++ take new.taken piece) (Some (OfLine code))
