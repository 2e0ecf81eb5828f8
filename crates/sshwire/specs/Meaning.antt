-- What a reading says of the bytes, in the terms of the lines.

use Rattle.std.specs.Prelude.{◌≡◌, ◌≤◌, ℕ, ◌+◌, List, ◌++◌, drop, length}
use Rattle.sshwire.specs.declared.fault.WireFault.{WireFault}
use Rattle.sshwire.specs.declared.line_form.LineForm.{LineForm}
use Rattle.sshwire.specs.declared.line_form.LineForm.TheVariants.{Strict}
use Rattle.sshwire.specs.Lines.{LineOpen, LineRefused, LineRefusedBy, PreambleBy}
use Rattle.sshwire.specs.Reading.{Reading, More, Got, Stop}

-- a prefix of the bytes is a preamble, and the rest stands after it
pub record EndsPreambleBy (form : LineForm) (k : ℕ) (bytes text rest : List ℕ) : Type 0 where
  pub prefix : List ℕ
  pub bytes_are : bytes ≡ prefix ++ rest
  pub preamble : PreambleBy form k text prefix

-- a prefix of the bytes is a preamble, by the strict form, and the rest follows it
abbrev pub EndsPreamble : ℕ → List ℕ → List ℕ → List ℕ → Type 0
EndsPreamble k bytes text rest = EndsPreambleBy Strict k bytes text rest

-- the bytes are refused at a place, and the rest stands after it
pub record EndsRefusedBy (form : LineForm) (k : ℕ) (bytes : List ℕ) (code : WireFault) (rest : List ℕ) : Type 0 where
  pub place : ℕ
  pub refused : LineRefusedBy form k bytes place code
  pub rest_is : rest ≡ drop (place + 1) bytes

-- the bytes are refused at a place, by the strict form, and the rest follows it
abbrev pub EndsRefused : ℕ → List ℕ → WireFault → List ℕ → Type 0
EndsRefused k bytes code rest = EndsRefusedBy Strict k bytes code rest

-- what a reading by this form says of the bytes: still open; a preamble, and what follows it; or refused, and what follows that place (RFC
-- 4253 section 4.2)
abbrev pub ReadingMeansBy : LineForm → ℕ → List ℕ → Reading → Type 0
ReadingMeansBy form k bytes (More left line) = LineOpen k bytes left line
ReadingMeansBy form k bytes (Got text rest) = EndsPreambleBy form k bytes text rest
ReadingMeansBy form k bytes (Stop code rest) = EndsRefusedBy form k bytes code rest

-- what a reading says of the bytes, by the strict form: still open, a preamble, or refused (RFC 4253 section 4.2)
abbrev pub ReadingMeans : ℕ → List ℕ → Reading → Type 0
ReadingMeans k bytes r = ReadingMeansBy Strict k bytes r

-- a prefix of the bytes is a preamble of this version text (RFC 4253 section 4.2)
abbrev pub BeginsPreamble : ℕ → List ℕ → List ℕ → Type 0
BeginsPreamble k text bytes = (rest : List ℕ) × EndsPreamble k bytes text rest

-- the bytes are refused somewhere with this code (profile)
abbrev pub IsLineRefused : ℕ → List ℕ → WireFault → Type 0
IsLineRefused k bytes code = (place : ℕ) × LineRefused k bytes place code

-- what is left of the bytes after some of them
abbrev pub IsLeftOf : List ℕ → List ℕ → Type 0
IsLeftOf bytes rest = (used : ℕ) × (used ≤ length bytes) × (rest ≡ drop used bytes)
