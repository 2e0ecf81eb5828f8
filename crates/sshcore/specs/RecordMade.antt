-- What is made of a record, part by part; and that the endpoint which is made goes on from where the record was written.

use Rattle.std.specs.Prelude.{ℕ, List, ◌≡◌, ◌≤◌, ◌-◌, IfSome, IsUtf8, [], None, Option, Some, Result, is_some, length}
use Rattle.sshwire.specs.declared.limits.TheConstants.{LINE_LIMIT}
use Rattle.sshpacket.specs.declared.limits.TheConstants.{DIGEST_LIMIT, PACKET_LIMIT}
use Rattle.sshwire.specs.LineReaderData.{Waits}
use Rattle.sshwire.specs.declared.line_form.LineForm.{LineForm}
use Rattle.sshpacket.specs.PacketReaderData.{packet_reader_data}
use Rattle.sshpacket.specs.Parse.{parse_packet, protection, unfinished}
use Rattle.sshpacket.specs.ReaderSteps.{needed}
use Rattle.sshpacket.specs.Suite.{SuiteData}
use Rattle.sshcore.specs.declared.input.Input.{Input}
use Rattle.sshcore.specs.declared.input.Input.TheVariants as input
use Rattle.sshneg.specs.declared.side.Side.{Side}
use Rattle.sshcore.specs.declared.config_parts.TheConstants.{TRIES_LIMIT}
use Rattle.sshcore.specs.declared.record_fault.RecordFault.{RecordFault}
use Rattle.sshcore.specs.declared.record_making.AuthenticationMade.{AuthenticationMade}
use Rattle.sshcore.specs.declared.record_making.CarriedMade.{CarriedMade}
use Rattle.sshcore.specs.declared.record_making.ExchangeMade.{ExchangeMade}
use Rattle.sshcore.specs.declared.phase_table.Phase.{Phase}
use Rattle.sshcore.specs.Phases.{past_kexinit}
use Rattle.sshcore.specs.AskingData.{WaitingData}
use Rattle.sshcore.specs.Directions.{form_of}
use Rattle.sshcore.specs.EndData.{Open}
use Rattle.sshcore.specs.EndpointParts.{ConfigData, DecisionsData, Setup, setup_with}
use Rattle.sshcore.specs.Paused.{FitsPaused, PausedAfter, PausedData, asked_paused, kept_by}
use Rattle.sshcore.specs.Record.{HasKeyNames, HasNames, HasUserText, IsMadeSo, IsRecordOf}
use Rattle.sshcore.specs.RecordData.{AuthenticationRecord, ExchangeRecord, OfLines, OfPackets, ReaderRecord, RecordData}
use Rattle.sshcore.specs.StateData.{Carried, StateData, algorithms_or, completed_methods_data, user_key_data}

-- what an endpoint in this phase may know of the exchange
pub record FitsPhase (p : Phase) (x : ExchangeRecord) : Type 0 where
  pub version : length x.version ≤ LINE_LIMIT
  pub kexinit : length x.kexinit ≤ PACKET_LIMIT
  pub session : length x.session ≤ DIGEST_LIMIT
  pub chosen : is_some x.algorithms ≡ past_kexinit p
  pub names : IfSome x.algorithms HasNames

-- what is known of the exchange is made so
pub record IsExchange (x : ExchangeRecord) (m : ExchangeMade) : Type 0 where
  pub version : m.version.items ≡ x.version
  pub kexinit : m.kexinit.items ≡ x.kexinit
  pub session : m.session.items ≡ x.session
  pub algorithms : m.algorithms ≡ x.algorithms

-- what an endpoint may know of authentication
pub record FitsTries (a : AuthenticationRecord) : Type 0 where
  pub request : a.request ≤ TRIES_LIMIT
  pub user : IsUtf8 a.completed.user
  pub service : IsUtf8 a.completed.service

-- what is made of a record knows the same of authentication
pub record IsAuthentication (a : AuthenticationRecord) (m : AuthenticationMade) : Type 0 where
  pub request : m.request ≡ a.request
  pub allowance : m.allowance ≡ a.allowance
  pub completed : completed_methods_data m.completed ≡ a.completed

-- what is carried along has names and texts
pub record HasCarriedTexts (c : Carried) : Type 0 where
  pub pending : IfSome c.pending HasKeyNames
  pub user_key : IfSome c.user_key HasUserText

-- what is made of a record carries the same along
pub record IsCarriedSo (c : Carried) (m : CarriedMade) : Type 0 where
  pub pending : m.pending ≡ c.pending
  pub own_version : m.own_version.items ≡ c.own_version
  pub host_key : m.host_key.items ≡ c.host_key
  pub user_key : user_key_data m.user_key ≡ c.user_key

-- what an endpoint may keep
pub record FitsState (r : RecordData) : Type 0 where
  pub exchange : FitsPhase r.phase r.exchange
  pub authentication : FitsTries r.authentication
  pub carried : HasCarriedTexts r.carried
  pub keys : IfSome r.sending.keys HasKeyNames

-- what an open endpoint keeps by its record, without attempts
abbrev pub state_in : RecordData → StateData
state_in r = record {
  end = Open;
  phase = r.phase;
  guess = r.guess;
  known = record {
    version = r.exchange.version;
    kexinit = r.exchange.kexinit;
    algorithms = algorithms_or r.exchange.algorithms;
    shares = r.exchange.shares;
    session = r.exchange.session;
    request = r.authentication.request;
    left = [];
    completed = r.authentication.completed;
    strict = r.exchange.strict;
    first = r.exchange.first;
    allowance = r.authentication.allowance;
  };
  carried = r.carried;
  sending = r.sending;
}

-- the bytes that a reader of packets holds are those of an unfinished one
abbrev pub IsReaderOf : SuiteData → ReaderRecord → Type 0
IsReaderOf m (OfLines left line) = Unit {0}
IsReaderOf m (OfPackets keys number held) = parse_packet (protection m keys number) held ≡ unfinished

-- how many bytes more the reader of a record needs before more is judged; of lines none
abbrev pub wants : SuiteData → ReaderRecord → ℕ
wants m (OfLines left line) = 0
wants m (OfPackets keys number held) = needed (protection m keys number) held - length held

-- how many bytes more a record's reader needs; 0 where a packet waits
abbrev pub missing_in : SuiteData → ReaderRecord → Option (List ℕ) → ℕ
missing_in m reader None = wants m reader
missing_in m reader (Some payload) = 0

-- a reader as the record says, of lines by this form
abbrev pub IsInputOf : LineForm → ReaderRecord → Input → Type 0
IsInputOf form (OfLines left line) (input.Lines r) = (r.state.progress ≡ Waits left line) × (r.form ≡ form)
IsInputOf form (OfLines left line) (input.Packets r) = ⊥
IsInputOf form (OfPackets keys number held) (input.Lines r) = ⊥
IsInputOf form (OfPackets keys number held) (input.Packets r) = packet_reader_data r ≡ record { keys = keys; seq = number; held = held; fault = None }

-- packets that wait are the same: their payloads, and what they ask
abbrev pub IsSameWaiting : Option WaitingData → Option WaitingData → Type 0
IsSameWaiting None None = Unit {0}
IsSameWaiting None (Some w) = ⊥
IsSameWaiting (Some v) None = ⊥
IsSameWaiting (Some v) (Some w) = (w.payload ≡ v.payload) × (w.question ≡ v.question)

-- Two readers are alike. Both read lines and have come as far, the second by this form; or both read packets, with the same keys, sequence
-- number, bytes held and fault.
abbrev pub IsSameInput : LineForm → Input → Input → Type 0
IsSameInput form (input.Lines r) (input.Lines q) = (q.state.progress ≡ r.state.progress) × (q.form ≡ form)
IsSameInput form (input.Lines r) (input.Packets q) = ⊥
IsSameInput form (input.Packets r) (input.Lines q) = ⊥
IsSameInput form (input.Packets r) (input.Packets q) = packet_reader_data q ≡ packet_reader_data r

-- this reader reads on: one of lines has neither found the version line nor refused
abbrev pub IsReading : Input → Type 0
IsReading (input.Lines r) = (left : ℕ) × (line : List ℕ) × (r.state.progress ≡ Waits left line)
IsReading (input.Packets r) = Unit {0}

-- two paused endpoints with this config are alike: they keep the same, their readers are alike, and the same packet waits or none
pub record IsSamePaused {S : Type 0} (role : Side) (config : ConfigData) (p q : PausedData S) : Type 0 where
  pub kept : kept_by config q ≡ kept_by config p
  pub input : IsSameInput (form_of config.reading role) p.input q.input
  pub waiting : IsSameWaiting p.waiting q.waiting

-- these bytes are the record of this paused endpoint, which reads on and may be resumed in this role, with this config and this suite
pub record IsRecorded {S : Type 0} (meaning : S → SuiteData) (role : Side) (config : ConfigData) (suite : S) (bytes : List ℕ) (p : PausedData S) : Type 0 where
  pub fits : FitsPaused meaning role config suite p
  pub reading : IsReading p.input
  pub is_record : IsRecordOf bytes p

-- the second paused endpoint has received and sent these bytes in this setup, and asks what the first one asks
pub record IsAsFar {S : Type 0} (setup : Setup) (h s : List ℕ) (p q : PausedData S) : Type 0 where
  pub after : PausedAfter setup q h s
  pub asks : asked_paused q ≡ asked_paused p

-- Of the record of an endpoint, whatever it has received and sent with this config and this suite, one is made that is as far; unless
-- memory runs out.
abbrev pub GoesOnFrom : {S : Type 0} → (S → SuiteData) → Side → ConfigData → S → List ℕ → Result (PausedData S) RecordFault → Type 0
GoesOnFrom {S} meaning role config suite bytes result =
    (p : PausedData S) (d : DecisionsData) (h s : List ℕ) → IsRecordOf bytes p → FitsPaused meaning role config suite p
    → PausedAfter (setup_with (meaning suite) d role config) p h s → IsMadeSo (IsAsFar (setup_with (meaning suite) d role config) h s p) result
