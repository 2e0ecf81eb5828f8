-- What is expected of a peer that receives a message of its number alone: what the phase table says of that packet, but that a message
-- which is read there has no fields, and so ends the connection too. Of the number that leaves the place nothing is expected.

use Rattle.std.specs.Prelude.{ℕ, ◌==◌, ◌||◌, Bool, true, false, List, codes, if◌then◌else◌}
use Rattle.sshneg.specs.declared.side.Side.{Side}
use Rattle.sshneg.specs.declared.side.Side.TheVariants.{Client}
use Rattle.sshcore.specs.declared.phase_table.Disposition.{Disposition}
use Rattle.sshcore.specs.declared.phase_table.Disposition.TheVariants as disposition
use Rattle.sshcore.specs.declared.phase_table.Phase.{Phase}
use Rattle.sshcore.specs.declared.phase_table.Phase.TheVariants as phase
use Rattle.sshcore.specs.Phases.{leaving}
use Rattle.sshcore.specs.Table.{disposition_by}
use Rattle.sshchecks.specs.declared.sweep.Place.{Place}
use Rattle.sshchecks.specs.declared.sweep.Place.TheVariants as place

-- the phase of an endpoint at a place
abbrev pub phase_at : Place → Phase
phase_at place.KexInit = phase.Exchange
phase_at place.KexInitStrict = phase.Exchange
phase_at place.NewKeysStrict = phase.NewKeys
phase_at place.Service = phase.Service
phase_at place.Auth = phase.Auth

-- whether strict key exchange was agreed at this place
abbrev pub strict_at : Place → Bool
strict_at place.KexInit = false
strict_at place.KexInitStrict = true
strict_at place.NewKeysStrict = true
strict_at place.Service = false
strict_at place.Auth = false

-- a client may wait there for what is told of its query, of which the number is PK_OK's
abbrev pub may_wait : Side → Place → ℕ → Bool
may_wait Client place.Auth number = number == 60
may_wait role at number = false

-- what is expected by a line of the table
abbrev pub words_of : Disposition → List ℕ
words_of disposition.Unknown = codes "unimplemented"
words_of disposition.Reads = codes "ends"
words_of disposition.Drops = codes "ends"
words_of disposition.Deviates = codes "ends"
words_of disposition.Unexpected = codes "ends"

-- what a check expects when it sends a message of this number at this place
abbrev pub expected : Side → Place → ℕ → List ℕ
expected role at number =
    if number == leaving role (phase_at at) || may_wait role at number then codes "ends|goes_on|unimplemented|silent|garbled|FAILURE"
    else words_of (disposition_by role (phase_at at) (strict_at at) false false number)
