-- What an endpoint of either role sends and how it ends, by the units that it received. In `reply_at` the payloads before a place
-- stand without the version; from `unit_reply` on `before` and `units` have the text of the version line in front.

use Rattle.std.specs.Prelude.{◌≡◌, ◌≢◌, ℕ, if◌then◌else◌, List, [], ◌∷◌, ◌++◌, Option, None, Some, Result, Ok, Err}
use Rattle.sshmsg.specs.declared.fault.MsgFault.{MsgFault}
use Rattle.sshmsg.specs.MessageData.{MessageData, Unimplemented}
use Rattle.sshmsg.specs.Messages.{message_in}
use Rattle.sshmsg.specs.Numbers.{message_number}
use Rattle.sshmsg.specs.Written.{written_message}
use Rattle.sshneg.specs.declared.side.Side.{Side}
use Rattle.sshpacket.specs.declared.fault.PacketFault.TheVariants as packet
use Rattle.sshpacket.specs.Parse.{OfLine, OfPacket, Refusal}
use Rattle.sshpacket.specs.Places.{EachPlace, flat_places}
use Rattle.sshpacket.specs.Stream.{Units}
use Rattle.sshcore.specs.declared.end.Fault.{Fault}
use Rattle.sshcore.specs.declared.end.Fault.TheVariants as fault
use Rattle.sshcore.specs.declared.phase_table.Disposition.{Disposition}
use Rattle.sshcore.specs.declared.phase_table.Disposition.TheVariants as disposition
use Rattle.sshcore.specs.IgnoredLimit.{overspends}
use Rattle.sshcore.specs.Before.{expects_guess, strict_at}
use Rattle.sshcore.specs.Counting.{number_in}
use Rattle.sshcore.specs.EndData.{EndData, Open, Reply, fails, goes}
use Rattle.sshcore.specs.KnownBefore.{Known, known_at, waits_at}
use Rattle.sshcore.specs.EndpointParts.{ConfigData, Setup}
use Rattle.sshcore.specs.Phases.{phase_at}
use Rattle.sshcore.specs.Table.{disposition_by}
use Rattle.sshcore.specs.Work.{making, work}

-- a message that is read is worked on, and one that can't be read is malformed (profile)
abbrev pub read_reply : Setup → Known → ℕ → Result MessageData MsgFault → Reply
read_reply setup known n (Ok content) = work setup known content
read_reply setup known n (Err e) = fails (fault.Malformed n)

-- a payload that says nothing is taken only within the allowance, be it well-formed or not (profile)
abbrev pub allowed : Known → List ℕ → Reply → Reply
allowed known payload reply = if overspends known.allowance payload then fails fault.TooMuchIgnored else reply

-- what a line of the table says of a packet with this number; UNIMPLEMENTED tells it (RFC 4253 section 11.4) (F6 is profile)
unfoldable pub disposition_reply : Setup → Known → ℕ → Disposition → List ℕ → Reply
disposition_reply setup known packet disposition.Reads payload = allowed known payload (read_reply setup known (message_number payload) (message_in known.shares payload))
disposition_reply setup known packet disposition.Drops payload = goes []
disposition_reply setup known packet disposition.Deviates payload = fails (fault.Strict (message_number payload))
disposition_reply setup known packet disposition.Unknown payload = allowed known payload (goes (written_message (Unimplemented packet) ∷ []))
disposition_reply setup known packet disposition.Unexpected payload = fails (fault.Unexpected (message_number payload))

-- the line that decides at a place
abbrev pub disposition_at : Side → ConfigData → Units → List ℕ → Disposition
disposition_at role config before payload =
    disposition_by role (phase_at role config.offer before) (strict_at role config before) (expects_guess role config.offer before) (waits_at role config before)
    (message_number payload)

-- what a payload brings after those before it
abbrev pub reply_at : Setup → List ℕ → Units → List ℕ → Reply
reply_at setup version before payload =
    disposition_reply setup (known_at setup version before) (number_in setup.role setup.config before) (disposition_at setup.role setup.config before payload) payload

-- what an endpoint does at a unit, after these; the version line is answered by nothing
abbrev pub unit_reply : Setup → Units → List ℕ → Reply
unit_reply setup [] version = goes []
unit_reply setup (version ∷ before) payload = reply_at setup version before payload

-- what an endpoint sends in answer to this unit, after these
abbrev pub answers_at : Setup → Units → List ℕ → Units
answers_at setup before unit = (unit_reply setup before unit).answers

-- how the endpoint is after this unit
abbrev pub end_at : Setup → Units → List ℕ → EndData
end_at setup before unit = (unit_reply setup before unit).end

-- the failure at bytes that are refused (lines are refused for what they are, never because memory ran out)
abbrev pub fault_of : Refusal → Fault
fault_of (OfLine f) = fault.Version
fault_of (OfPacket packet.Length) = fault.Length
fault_of (OfPacket packet.Padding) = fault.Padding
fault_of (OfPacket packet.Empty) = fault.Padding
fault_of (OfPacket packet.Mac) = fault.Mac
fault_of (OfPacket packet.Memory) = fault.Memory

-- what an endpoint does when the bytes are refused: it fails by the fault of the refusal; where nothing is refused it sends nothing
abbrev pub refusal_reply : Option Refusal → Reply
refusal_reply None = goes []
refusal_reply (Some r) = fails (fault_of r)

-- the endpoint stays open at each of these units
abbrev pub StaysOpen : Setup → Units → Type 0
StaysOpen setup units = EachPlace (λ before unit. end_at setup before unit ≡ Open) [] units

-- how it stands: open or refused after all units; or the last unit ended it, and nothing follows
pub data Ends (setup : Setup) (units : Units) (refusal : Option Refusal) (end : EndData) : Type 0 where
  goes_on : StaysOpen setup units → end ≡ (refusal_reply refusal).end → Ends setup units refusal end
  ended : (before : Units) (last : List ℕ) → units ≡ before ++ last ∷ [] → StaysOpen setup before
      → end ≡ end_at setup before last → end ≢ Open → refusal ≡ None → Ends setup units refusal end

-- What an endpoint sends: its first payloads, then the answers to each unit received, in order, and to a refusal.
pub record Replies (setup : Setup) (units : Units) (refusal : Option Refusal) (answers : Units) (end : EndData) : Type 0 where
  pub in_order : answers ≡ making setup.suite setup.role setup.config ++ (flat_places (answers_at setup) [] units ++ (refusal_reply refusal).answers)
  pub ends : Ends setup units refusal end
