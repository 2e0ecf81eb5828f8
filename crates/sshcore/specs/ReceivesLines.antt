-- What a line reader brings an endpoint that stands at its lines.

use Rattle.std.specs.Prelude.{◌≡◌, ◌≢◌, ℕ, ◌+◌, ◌≤◌, List, ◌++◌, length, take}
use Rattle.sshwire.specs.Feeding.{StandsOpen}
use Rattle.sshwire.specs.LineReaderData.{Finished, LineReaderData, Progress}
use Rattle.sshwire.specs.Lines.{LineRefusedBy, PreambleBy}
use Rattle.sshwire.specs.declared.fault.WireFault.{WireFault}
use Rattle.sshwire.specs.declared.line_form.LineForm.{LineForm}
use Rattle.sshcore.specs.declared.end.Fault.TheVariants as fault
use Rattle.sshcore.specs.declared.input.Received.{Received}
use Rattle.sshcore.specs.declared.input.Received.TheVariants as received
use Rattle.sshcore.specs.EndData.{EndData, Failed, Open}
use Rattle.sshcore.specs.StateData.{StateData}

-- how many bytes were used
abbrev pub used_by : Received → ℕ
used_by (received.Part used) = used
used_by (received.Refused used) = used
used_by (received.Whole used) = used

-- What a reader of lines in this form, which is open at these bytes, makes of a piece (RFC 4253 section 4.2). The lines stay unfinished; or
-- they are refused, and the endpoint has failed; or the version line ends in the piece, and is known.
abbrev pub ReceivesLines : LineForm → ℕ → List ℕ → LineReaderData → StateData → StateData → List ℕ → Received → Type 0
ReceivesLines form k bytes new old kept piece (received.Part used) =
    StandsOpen k (bytes ++ piece) new.progress × (used ≡ length piece) × (kept ≡ old)
ReceivesLines form k bytes new old kept piece (received.Refused used) =
    (place : ℕ) × (code : WireFault) × (place + 1 ≡ length bytes + used) × LineRefusedBy form k (bytes ++ piece) place code
    × (used ≤ length piece) × (kept ≡ record old { end = Failed fault.Version })
ReceivesLines form k bytes new old kept piece (received.Whole used) =
    (version : List ℕ) × PreambleBy form k version (bytes ++ take used piece) × (used ≤ length piece)
    × (kept ≡ record old { known = record old.known { version = version } })

-- while the version line hasn't come the reader may be given more
abbrev pub MayReadOn : Received → Progress → Type 0
MayReadOn (received.Part used) progress = progress ≢ Finished
MayReadOn (received.Refused used) progress = progress ≢ Finished
MayReadOn (received.Whole used) progress = Unit {0}

-- how the endpoint ends by that, with so many bytes used of so many
abbrev pub EndsBy : Received → ℕ → ℕ → EndData → Type 0
EndsBy (received.Part used) n all end = (end ≡ Open) × (n ≡ all)
EndsBy (received.Refused used) n all end = end ≡ Failed fault.Version
EndsBy (received.Whole used) n all end = end ≡ Open
