-- The lines at the front of a direction as a unit: the text of the version line, with its place after the other lines.

use Rattle.std.specs.Prelude.{◌≡◌, ℕ, ◌+◌, ◌-◌, ◌≤◌, List, [], length, take}
use Rattle.sshwire.specs.declared.line_form.LineForm.{LineForm}
use Rattle.sshwire.specs.declared.line_form.LineForm.TheVariants.{Strict}
use Rattle.sshwire.specs.Lines.{LineOpen, LineRefusedBy, PreambleBy}
use Rattle.sshwire.specs.Reading.{Reading, Got, More, Stop, reading_by}
use Rattle.sshpacket.specs.Parse.{Parse, OfLine, OfPacket, refused, unfinished, whole}
use Rattle.sshpacket.specs.Stream.{Parser}

-- a reading of lines as a prefix of so many bytes: what isn't left was read
abbrev pub parse_preamble : ℕ → Reading → Parse
parse_preamble all (More left line) = unfinished
parse_preamble all (Got text rest) = whole text (all - length rest)
parse_preamble all (Stop code rest) = refused (OfLine code) (all - length rest)

-- the reader of the version line of a form and at most k other lines before it (RFC 4253 section 4.2)
unfoldable pub preamble_parser_by : LineForm → ℕ → Parser
preamble_parser_by form k bytes = parse_preamble (length bytes) (reading_by form k [] bytes)

-- the version line with at most k other lines before it, read as a unit by the strict form (RFC 4253 section 4.2)
abbrev pub preamble_parser : ℕ → Parser
preamble_parser k = preamble_parser_by Strict k

-- what an answer says of the bytes, in the terms of the lines: a refused byte is the last of those that decide it (RFC 4253 section 4.2)
abbrev pub PreambleMeansBy : LineForm → ℕ → List ℕ → Parse → Type 0
PreambleMeansBy form k bytes unfinished = (left : ℕ) × (line : List ℕ) × LineOpen k bytes left line
PreambleMeansBy form k bytes (whole text len) = (len ≤ length bytes) × PreambleBy form k text (take len bytes)
PreambleMeansBy form k bytes (refused (OfLine code) len) = (place : ℕ) × (len ≡ place + 1) × LineRefusedBy form k bytes place code
PreambleMeansBy form k bytes (refused (OfPacket code) len) = ⊥

-- what an answer says of the bytes, by the strict form of version lines (RFC 4253 section 4.2)
abbrev pub PreambleMeans : ℕ → List ℕ → Parse → Type 0
PreambleMeans k bytes f = PreambleMeansBy Strict k bytes f
