-- What stands in the record of a paused endpoint; what its names and texts are; and which bytes are its record.

use Rattle.std.specs.Prelude.{◌≡◌, ◌≤◌, ℕ, List, length, Result, Ok, Err, IfSome, IsUtf8, Option, None, Some, option_map}
use Rattle.sshwire.specs.Lines.{IsUnfinished}
use Rattle.sshwire.specs.Types.{IsName}
use Rattle.sshwire.specs.LineReaderData.{others_left, unfinished}
use Rattle.sshneg.specs.Fields.{AlgorithmsData}
use Rattle.sshpacket.specs.KeysData.{KeysData}
use Rattle.sshpacket.specs.PacketReaderData.{PacketReaderData, missing_of, packet_reader_data}
use Rattle.sshcore.specs.declared.input.Input.{Input}
use Rattle.sshcore.specs.declared.input.Input.TheVariants as input
use Rattle.sshcore.specs.declared.record_fault.RecordFault.{RecordFault}
use Rattle.sshcore.specs.declared.record_fault.TheConstants.{RECORD_LIMIT}
use Rattle.sshcore.specs.declared.record_fault.RecordFault.TheVariants as fault
use Rattle.sshcore.specs.declared.state.State.{State}
use Rattle.sshcore.specs.AskingData.{WaitingData}
use Rattle.sshcore.specs.EndData.{Open}
use Rattle.sshcore.specs.EndpointParts.{UserKeyData}
use Rattle.sshcore.specs.Paused.{PausedData, paused_end}
use Rattle.sshcore.specs.RecordData.{AuthenticationRecord, ExchangeRecord, OfLines, OfPackets, ReaderRecord, RecordData}
use Rattle.sshcore.specs.RecordText.{FitsRecord, record_bytes}
use Rattle.sshcore.specs.StateData.{completed_methods_data, state_data}

-- what a record has of the key exchange
abbrev pub exchange_of : State → ExchangeRecord
exchange_of s = record {
  shares = s.shares;
  strict = s.strict;
  first = s.first;
  version = s.version.items;
  kexinit = s.kexinit.items;
  session = s.session.items;
  algorithms = s.algorithms;
}

-- what a record has of authentication
abbrev pub authentication_of : State → AuthenticationRecord
authentication_of s = record { request = s.request; allowance = s.allowance; completed = completed_methods_data s.completed }

-- what a record has of a packet reader: its keys, its sequence number and the bytes that it holds
abbrev pub packets_of : PacketReaderData → ReaderRecord
packets_of r = OfPackets r.keys r.seq r.held

-- what a record has of the reader of either kind: of lines, how many other lines are left and the unfinished line
abbrev pub reader_of : Input → ReaderRecord
reader_of (input.Lines r) = OfLines (others_left r.state.progress) (unfinished r.state.progress)
reader_of (input.Packets r) = packets_of (packet_reader_data r)

-- How many bytes more a reader wants before anything comes of them: of lines none, since each is looked at.
abbrev pub wanted : Input → ℕ
wanted (input.Lines r) = 0
wanted (input.Packets r) = missing_of r

-- how many bytes more an endpoint needs before anything comes of them; none where a packet waits for its answer
abbrev pub missing_by : Input → Option WaitingData → ℕ
missing_by i None = wanted i
missing_by i (Some w) = 0

-- what a record has of a packet that waits for an answer: its sequence number and its payload
abbrev pub payload_of : WaitingData → List ℕ
payload_of w = w.payload

-- The record of this paused endpoint: all that changes of it. Left out are what the waiting packet asks and what is prepared of the answer,
-- which are made again.
abbrev pub record_of : {S : Type 0} → PausedData S → RecordData
record_of p = record {
  missing = missing_by p.input p.waiting;
  role = p.role;
  confirmed = p.state.confirmed;
  left = p.left;
  phase = p.state.phase;
  guess = p.state.guess;
  exchange = exchange_of p.state;
  authentication = authentication_of p.state;
  carried = (state_data p.state).carried;
  sending = (state_data p.state).sending;
  reader = reader_of p.input;
  waiting = option_map payload_of p.waiting;
}

-- what is made of a record is so, unless memory runs out
abbrev pub IsMadeSo : {V : Type 0} → (V → Type 0) → Result V RecordFault → Type 0
IsMadeSo is (Ok v) = is v
IsMadeSo is (Err fault.Memory) = Unit {0}
IsMadeSo is (Err fault.Version) = ⊥
IsMadeSo is (Err fault.Unreadable) = ⊥

-- What a record has of names, of texts, and of lines, of whatever endpoint it is.

-- the cipher and the MAC of these keys are names (RFC 4251 section 6)
abbrev pub HasKeyNames : KeysData → Type 0
HasKeyNames k = IsName k.cipher × IsName k.mac

-- the chosen algorithms are names (RFC 4251 section 6)
pub record HasNames (a : AlgorithmsData) : Type 0 where
  pub kex : IsName a.kex
  pub host_key : IsName a.host_key
  pub encryption_client_to_server : IsName a.encryption_client_to_server
  pub encryption_server_to_client : IsName a.encryption_server_to_client
  pub mac_client_to_server : IsName a.mac_client_to_server
  pub mac_server_to_client : IsName a.mac_server_to_client
  pub compression_client_to_server : IsName a.compression_client_to_server
  pub compression_server_to_client : IsName a.compression_server_to_client

-- the algorithm of the user's key is UTF-8
abbrev pub HasUserText : UserKeyData → Type 0
HasUserText k = IsUtf8 k.algorithm

-- a line that is held is an unfinished one; of keys, cipher and MAC are names
abbrev pub HasLine : ReaderRecord → Type 0
HasLine (OfLines left line) = IsUnfinished line
HasLine (OfPackets keys number held) = IfSome keys HasKeyNames

-- In this record each algorithm is a name, each text is UTF-8, and the line that is held is an unfinished one (RFC 4251 sections 5 and 6).
-- This is true of the record of every endpoint.
pub record HasTexts (r : RecordData) : Type 0 where
  pub algorithms : IfSome r.exchange.algorithms HasNames
  pub user : IsUtf8 r.authentication.completed.user
  pub service : IsUtf8 r.authentication.completed.service
  pub pending : IfSome r.carried.pending HasKeyNames
  pub user_key : IfSome r.carried.user_key HasUserText
  pub keys : IfSome r.sending.keys HasKeyNames
  pub line : HasLine r.reader

-- These bytes are the record of a paused endpoint, which is open.
pub record IsRecordOf {S : Type 0} (bytes : List ℕ) (p : PausedData S) : Type 0 where
  pub is_open : paused_end p ≡ Open
  pub written : FitsRecord (record_of p)
  pub texts : HasTexts (record_of p)
  pub bytes_are : bytes ≡ record_bytes (record_of p)
  pub short : length bytes ≤ RECORD_LIMIT
