-- The two sides of a world on their course, in units, stated once for either role: own is the partner whose node it is, and
-- their is the other, whose node is the opposite one.

use Rattle.std.specs.Prelude.{◌≡◌, ◌≢◌, ℕ, List, take, Option, None}
use Rattle.sshneg.specs.declared.side.Side.{Side}
use Rattle.sshpacket.specs.Parse.{Refusal}
use Rattle.sshpacket.specs.Places.{IsPrefix}
use Rattle.sshpacket.specs.Stream.{Units}
use Rattle.sshpacket.specs.Suite.{SuiteData}
use Rattle.sshcore.specs.declared.end.Fault.TheVariants as fault
use Rattle.sshcore.specs.EndData.{EndData, Failed}
use Rattle.sshcore.specs.History.{History}
use Rattle.sshcore.specs.EndpointParts.{ConfigData, DecisionsData, Setup, setup_with}
use Rattle.sshworld.specs.Course.{Part, sent_after}
use Rattle.sshworld.specs.Follows.{KeepsPart, units_of}
use Rattle.sshworld.specs.Headline.{Told}
use Rattle.sshworld.specs.Links.{CanBeReceived}
use Rattle.sshworld.specs.Worlds.{HasReplied, NodeData}

-- One of the two in a course: its role, what its endpoint is made of, and its part.
pub record Partner : Type 0 where
  pub role : Side
  pub config : ConfigData
  pub part : Part

-- the setup of a partner's endpoint
abbrev pub partner_setup : SuiteData → DecisionsData → Partner → Setup
partner_setup m d p = setup_with m d p.role p.config

-- all payloads that a partner sends
abbrev pub payloads_of : Partner → Units
payloads_of p = sent_after p.part p.part.receives

-- all units that a partner sends: its version line, then its payloads
abbrev pub stream_of : Partner → Units
stream_of p = units_of p.config p.part

-- An endpoint that stands so has received and sent these bytes: they are such units and answers (RFC 4253 sections 4 to 11).
pub record HasHistory (setup : Setup) (end : EndData) (received_bytes sent_bytes : List ℕ) : Type 0 where
  pub units : Units
  pub sizes : List ℕ
  pub rest : List ℕ
  pub refusal : Option Refusal
  pub answers : Units
  pub history : History setup units sizes rest refusal answers end received_bytes sent_bytes

-- what a partner's endpoint has received and sent, in units
abbrev pub told : {setup : Setup} {end : EndData} {h s : List ℕ} → HasHistory setup end h s → Told
told {end = end} a = record { units = a.units; answers = a.answers; end = end }

-- One direction of a course: all that the other sends can be received, and the other keeps its part whatever it has received of
-- what the own side sends.
pub record ReceivesCourse (m : SuiteData) (d : DecisionsData) (own their : Partner) : Type 0 where
  pub received : CanBeReceived m own.role their.role own.config their.config (payloads_of own) (payloads_of their)
  pub keeps : KeepsPart (partner_setup m d their) their.part (stream_of own)

-- A side has used what was moved to it, up to its end; and unless memory ran out, it has a history with the bytes that it used
-- and those that it sent.
abbrev pub NodeReplies : Setup → NodeData → NodeData → Type 0
NodeReplies setup node opposite = HasReplied (HasHistory setup node.end) node opposite

-- A side is on its course: unless one of the two ran out of memory, the units of each such history are a prefix of all that the
-- other sends, and nothing was refused.
pub record OnCourse (m : SuiteData) (d : DecisionsData) (own their : Partner) (node opposite : NodeData) : Type 0 where
  pub replies : NodeReplies (partner_setup m d own) node opposite
  pub prefix : node.end ≢ Failed fault.Memory → opposite.end ≢ Failed fault.Memory
      → (a : HasHistory (partner_setup m d own) node.end (take node.used opposite.sent) node.sent) → IsPrefix a.units (stream_of their) × (a.refusal ≡ None)

-- Both sides are.
pub record BothOnCourse (m : SuiteData) (d : DecisionsData) (own their : Partner) (node opposite : NodeData) : Type 0 where
  pub own_side : OnCourse m d own their node opposite
  pub their_side : OnCourse m d their own opposite node
