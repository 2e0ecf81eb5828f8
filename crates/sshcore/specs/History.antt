-- What an endpoint has received and sent, and how it ends by that, in bytes. None of it speaks of buffers, counters or pieces.

use Rattle.std.specs.Prelude.{◌≡◌, ◌≢◌, ℕ, ◌<◌, ◌≤◌, true, List, [], ◌∷◌, length, Option, None}
use Rattle.sshwire.specs.declared.limits.TheConstants.{PAYLOAD_LIMIT}
use Rattle.sshwire.specs.Types.{IsBytes}
use Rattle.sshneg.specs.declared.side.Side.{Side}
use Rattle.sshpacket.specs.Parse.{Refusal}
use Rattle.sshpacket.specs.Places.{EachPlace, IsPrefix}
use Rattle.sshpacket.specs.Stream.{Received, Sent, Units}
use Rattle.sshcore.specs.declared.phase_table.Phase.TheVariants as phase
use Rattle.sshcore.specs.Before.{offered, stood}
use Rattle.sshcore.specs.Counting.{switched_out}
use Rattle.sshcore.specs.Directions.{parsers, payloads_in, spells}
use Rattle.sshcore.specs.EndData.{EndData, Open}
use Rattle.sshcore.specs.EndpointParts.{ConfigData, Setup}
use Rattle.sshcore.specs.Phases.{leaving}
use Rattle.sshcore.specs.Replies.{Replies}

-- a payload that is sent: some bytes, no more than every side takes (RFC 4253 section 6.1)
pub record FitsPacket (payload : List ℕ) : Type 0 where
  pub some : 0 < length payload
  pub short : length payload ≤ PAYLOAD_LIMIT
  pub bytes : IsBytes payload

-- each of these payloads has some bytes, and no more than every side takes (RFC 4253 section 6.1)
abbrev pub AllFit : Units → Type 0
AllFit answers = EachPlace (λ before payload. FitsPacket payload) [] answers

-- the exchange was received, so both directions have their keys (RFC 4253 section 7.2)
pub record IsReady (role : Side) (config : ConfigData) (payloads : Units) : Type 0 where
  pub offer : offered payloads ≡ true
  pub exchange : stood role config.offer (leaving role phase.Exchange) payloads ≡ true

-- The history of an endpoint (RFC 4253 sections 4 to 11). The bytes received read as these units, of these sizes, and a rest, which may be
-- refused. The bytes sent spell the version line and these answers, and the endpoint ends so. What was sent fits packets, and is sealed
-- only where the exchange was received. Nothing was taken after the unit that ended the endpoint.
pub record History (setup : Setup) (units : Units) (sizes rest : List ℕ) (refusal : Option Refusal) (answers : Units) (end : EndData) (received_bytes sent_bytes : List ℕ) : Type 0 where
  pub received : Received (parsers setup.suite setup.role setup.config) received_bytes units sizes rest refusal
  pub sent : Sent (spells setup.suite setup.role setup.config units) sent_bytes (setup.config.version ∷ answers)
  pub replies : Replies setup units refusal answers end
  pub fits : AllFit answers
  pub keyed : switched_out answers ≡ true → IsReady setup.role setup.config (payloads_in units)
  pub last : end ≢ Open → refusal ≡ None → rest ≡ []

-- What was sent where memory ran out: whole packets, a prefix of the answers that would have been given (profile).
pub record BrokenOff (setup : Setup) (received_bytes sent_bytes : List ℕ) : Type 0 where
  pub units : Units
  pub sizes : List ℕ
  pub rest : List ℕ
  pub refusal : Option Refusal
  pub answers : Units
  pub end : EndData
  pub some_answers : Units
  pub received : Received (parsers setup.suite setup.role setup.config) received_bytes units sizes rest refusal
  pub replies : Replies setup units refusal answers end
  pub prefix : IsPrefix some_answers answers
  pub sent : Sent (spells setup.suite setup.role setup.config units) sent_bytes (setup.config.version ∷ some_answers)

-- Two histories are one: the same units were received, with the same rest and refusal, and the same was answered, sent and come to.
pub record IsOneHistory (units other_units : Units) (rest other_rest : List ℕ) (refusal other_refusal : Option Refusal) (answers other_answers : Units) (end other_end : EndData) (sent_bytes other_bytes : List ℕ) : Type 0 where
  pub same_units : units ≡ other_units
  pub same_rest : rest ≡ other_rest
  pub same_refusal : refusal ≡ other_refusal
  pub same_answers : answers ≡ other_answers
  pub same_end : end ≡ other_end
  pub same_sent : sent_bytes ≡ other_bytes
