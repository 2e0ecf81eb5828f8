-- What an endpoint keeps, as what it has received and sent.

use Rattle.std.specs.Prelude.{◌≡◌, ◌≢◌, ◌&&◌, ℕ, true, false, not, if◌then◌else◌, List, [], ◌∷◌, ◌++◌, length, Option, None, Some}
use Rattle.sshwire.specs.Feeding.{StandsOpen}
use Rattle.sshwire.specs.LineReaderData.{Finished, held}
use Rattle.sshwire.specs.declared.line_form.LineForm.{LineForm}
use Rattle.sshneg.specs.declared.side.Side.{Side}
use Rattle.sshneg.specs.Markers.{other}
use Rattle.sshpacket.specs.KeysData.{KeysData}
use Rattle.sshpacket.specs.Parse.{Refusal}
use Rattle.sshpacket.specs.PacketReaderData.{ReaderWaits, packet_reader_data}
use Rattle.sshpacket.specs.Stream.{Units}
use Rattle.sshpacket.specs.Suite.{SuiteData}
use Rattle.sshcore.specs.declared.end.Fault.TheVariants as fault
use Rattle.sshcore.specs.declared.input.Input.{Input}
use Rattle.sshcore.specs.declared.input.Input.TheVariants as input
use Rattle.sshcore.specs.declared.phase_table.Phase.{Phase}
use Rattle.sshcore.specs.Brings.{IsOngoing}
use Rattle.sshcore.specs.Counting.{number_in}
use Rattle.sshcore.specs.Directions.{form_of, keys_in, others_of, payloads_in, version_in}
use Rattle.sshcore.specs.EndData.{Authenticated, Closed, Disconnected, EndData, Failed, Open, by_owner}
use Rattle.sshcore.specs.Exchange.{exchange_at, keys_at}
use Rattle.sshcore.specs.Exchanged.{HasForm}
use Rattle.sshcore.specs.History.{History}
use Rattle.sshcore.specs.StateData.{Carried, StateData}
use Rattle.sshcore.specs.Output.{Speaks}
use Rattle.sshcore.specs.EndpointParts.{ConfigData, Setup}
use Rattle.sshcore.specs.Phases.{past_exchange, past_newkeys}
use Rattle.sshcore.specs.Standing.{Sits}
use Rattle.sshcore.specs.Tries.{last_key, successful_keys_at}

-- the reader may be given bytes: the version line hasn't been read yet, or the packet reader waits
abbrev pub CanRead : SuiteData → Input → Type 0
CanRead m (input.Lines reader) = reader.state.progress ≢ Finished
CanRead m (input.Packets reader) = ReaderWaits m reader

-- how many bytes of an unfinished line or packet the reader holds
abbrev pub held_by : Input → ℕ
held_by (input.Lines reader) = held reader.state.progress
held_by (input.Packets reader) = length (packet_reader_data reader).held

-- A bound for the loop over the units of a piece: a turn that uses no byte of it lowers this, for it goes on from lines to
-- packets, or ends.
abbrev pub turns_left : EndData → Input → ℕ
turns_left Open (input.Lines reader) = 2
turns_left Open (input.Packets reader) = 1
turns_left (Authenticated a) i = 0
turns_left (Failed f) i = 0
turns_left (Closed reason) i = 0
turns_left (Disconnected reason) i = 0

-- The reader of what is received (RFC 4253 sections 4.2, 6 and 6.4). Up to the version line it reads lines, in the form of the config. Then
-- it reads packets, with the keys and the number of the next one, and holds the bytes of the unfinished one.
abbrev pub IsInput : SuiteData → Side → ConfigData → Units → List ℕ → List ℕ → Input → Type 0
IsInput m role config units sizes rest (input.Lines reader) =
    (units ≡ []) × StandsOpen (others_of role) rest reader.state.progress × (reader.form ≡ form_of config.reading role)
IsInput m role config units sizes rest (input.Packets reader) =
    (version : List ℕ) × (before : Units) × (units ≡ version ∷ before)
    × (packet_reader_data reader ≡ record { keys = keys_in m role config version before sizes; seq = number_in role config before; held = rest; fault = None })

-- the keys of what is received are kept from the exchange up to NEWKEYS (RFC 4253 section 7.3)
abbrev pub pending_at : Phase → KeysData → Option KeysData
pending_at p keys = if past_exchange p && not (past_newkeys p) then Some keys else None

-- what is carried along agrees with what was received: the keys of what is received; from the exchange on the own version line
-- and the exchange's host key; and the key of the last request that was successful by one
pub record IsCarried (setup : Setup) (version : List ℕ) (before : Units) (p : Phase) (carried : Carried) : Type 0 where
  pub pending : carried.pending ≡ pending_at p (keys_at setup.suite setup.role setup.config version before (other setup.role))
  pub own_version : past_exchange p ≡ true → carried.own_version ≡ setup.config.version
  pub host_key : past_exchange p ≡ true → carried.host_key ≡ (exchange_at setup.suite setup.role setup.config version before).host_key
  pub user_key : carried.user_key ≡ last_key None (successful_keys_at setup version before)

-- what an endpoint keeps agrees with what was received and sent, while its session goes on
pub record IsInside (setup : Setup) (units answers : Units) (sizes rest : List ℕ) (kept : StateData) (i : Input) : Type 0 where
  pub sits : Sits setup (version_in units) (payloads_in units) kept.phase kept.guess kept.known
  pub form : HasForm setup.suite kept
  pub reads : IsInput setup.suite setup.role setup.config units sizes rest i
  pub carries : IsCarried setup (version_in units) (payloads_in units) kept.phase kept.carried
  pub speaks : Speaks setup.suite setup.role setup.config units answers kept.sending

-- how an endpoint stands that has come to this end by what it received: so; or, where it stood open, cut off, or told to disconnect
-- (profile)
pub data StandsSo (received_end end : EndData) : Type 0 where
  AsReceived : end ≡ received_end → StandsSo received_end end
  CutOff : received_end ≡ Open → end ≡ Failed fault.Cut → StandsSo received_end end
  Left : (reason : ℕ) → received_end ≡ Open → end ≡ Disconnected reason → StandsSo received_end end

-- An endpoint that keeps this, with this reader, has received and sent these bytes; of one that left, what it sent before that (RFC 4253
-- sections 4 to 11).
pub record EndpointStands (setup : Setup) (kept : StateData) (i : Input) (received_bytes sent_bytes : List ℕ) : Type 0 where
  pub units : Units
  pub sizes : List ℕ
  pub rest : List ℕ
  pub refusal : Option Refusal
  pub answers : Units
  pub received_end : EndData
  pub history : History setup units sizes rest refusal answers received_end received_bytes sent_bytes
  pub ends : StandsSo received_end kept.end
  pub inside : IsOngoing kept.end → IsInside setup units answers sizes rest kept i

-- An endpoint that goes on from here has received these bytes more, and sent what was appended; its owner didn't end it.
pub record GoesOn (setup : Setup) (new : StateData) (j : Input) (h s taken before after : List ℕ) : Type 0 where
  pub added : List ℕ
  pub appended : after ≡ before ++ added
  pub stands : EndpointStands setup new j (h ++ taken) (s ++ added)
  pub uncut : by_owner new.end ≡ false

-- what a step did that used these bytes, whatever was received and sent before
abbrev pub Steps : Setup → Input → StateData → Input → StateData → List ℕ → List ℕ → List ℕ → Type 0
Steps setup i old j new taken before after = (h s : List ℕ) → EndpointStands setup old i h s → GoesOn setup new j h s taken before after

-- before any byte is received, of a reader of lines of this form (RFC 4253 section 4.2)
abbrev pub Begins : Side → LineForm → Input → Type 0
Begins role form (input.Lines reader) =
    (StandsOpen (others_of role) [] reader.state.progress) × (reader.form ≡ form) × (reader.state.progress ≢ Finished)
Begins role form (input.Packets reader) = ⊥
