-- The record of a paused endpoint as bytes: what stands in it, one after the other, each with what follows it. A number is a uint32, a
-- flag one of 0 or 1, bytes are a string (RFC 4251 section 5).

use Rattle.std.specs.Prelude.{◌≡◌, ℕ, ◌<◌, ◌^◌, Bool, if◌then◌else◌, List, [], ◌++◌, length, Option, None, Some, IfSome}
use Rattle.sshwire.specs.Types.{string, uint32}
use Rattle.sshwire.specs.declared.share_form.ShareForm.{ShareForm}
use Rattle.sshwire.specs.declared.share_form.ShareForm.TheVariants as form
use Rattle.sshneg.specs.declared.side.Side.{Side}
use Rattle.sshneg.specs.declared.side.Side.TheVariants.{Client, Server}
use Rattle.sshneg.specs.Fields.{AlgorithmsData}
use Rattle.sshpacket.specs.KeysData.{KeysData}
use Rattle.sshcore.specs.declared.record_fault.TheConstants.{RECORD_VERSION}
use Rattle.sshcore.specs.declared.phase_table.Phase.{Phase}
use Rattle.sshcore.specs.declared.phase_table.Phase.TheVariants as phase
use Rattle.sshcore.specs.EndpointParts.{UserKeyData}
use Rattle.sshcore.specs.Output.{Sending}
use Rattle.sshcore.specs.CompletedMethods.{CompletedMethodsData}
use Rattle.sshcore.specs.RecordData.{AuthenticationRecord, ExchangeRecord, OfLines, OfPackets, ReaderRecord, RecordData, held_in}
use Rattle.sshcore.specs.StateData.{Carried}

-- a number as a uint32, in front of what follows (RFC 4251 section 5)
abbrev pub number_text : ℕ → List ℕ → List ℕ
number_text n rest = uint32 n ++ rest

-- a flag as a number: 1 for true, 0 for false
abbrev pub flag_number : Bool → ℕ
flag_number flag = if flag then 1 else 0

-- a flag as a number, in front of what follows
abbrev pub flag_text : Bool → List ℕ → List ℕ
flag_text flag rest = number_text (flag_number flag) rest

-- bytes as a string, in front of what follows (RFC 4251 section 5)
abbrev pub bytes_text : List ℕ → List ℕ → List ℕ
bytes_text bytes rest = string bytes ++ rest

-- what may be missing: a flag, and where it is there what it is
abbrev pub option_text : {A : Type 0} → (A → List ℕ → List ℕ) → Option A → List ℕ → List ℕ
option_text text None rest = number_text 0 rest
option_text text (Some a) rest = number_text 1 (text a rest)

-- keys: cipher, MAC, initialisation vector, encryption key and integrity key
abbrev pub keys_text : KeysData → List ℕ → List ℕ
keys_text k rest = bytes_text k.cipher (bytes_text k.mac (bytes_text k.iv (bytes_text k.enc (bytes_text k.mac_key rest))))

-- the chosen algorithms, in the order of a KEXINIT (RFC 4253 section 7.1)
abbrev pub names_text : AlgorithmsData → List ℕ → List ℕ
names_text a rest =
    bytes_text a.kex (bytes_text a.host_key (bytes_text a.encryption_client_to_server (bytes_text a.encryption_server_to_client
    (bytes_text a.mac_client_to_server (bytes_text a.mac_server_to_client (bytes_text a.compression_client_to_server (bytes_text a.compression_server_to_client rest)))))))

-- the algorithm and the blob of the user's key
abbrev pub user_key_text : UserKeyData → List ℕ → List ℕ
user_key_text k rest = bytes_text k.algorithm (bytes_text k.blob rest)

-- a role as a number: 0 is the client, 1 the server
abbrev pub role_number : Side → ℕ
role_number Client = 0
role_number Server = 1

-- a phase as a number, in order from 0
abbrev pub phase_number : Phase → ℕ
phase_number phase.KexInit = 0
phase_number phase.Exchange = 1
phase_number phase.NewKeys = 2
phase_number phase.Service = 3
phase_number phase.Auth = 4

-- a form of shares as a number: 0 is `Mpint`, 1 `OctetString`, 2 `Hybrid`
abbrev pub form_number : ShareForm → ℕ
form_number form.Mpint = 0
form_number form.OctetString = 1
form_number form.Hybrid = 2

-- what is known of the key exchange: the form of shares, the flags, the peer's version line and KEXINIT, the session identifier and the
-- algorithms
abbrev pub exchange_text : ExchangeRecord → List ℕ → List ℕ
exchange_text x rest =
    number_text (form_number x.shares) (flag_text x.strict (flag_text x.first
    (bytes_text x.version (bytes_text x.kexinit (bytes_text x.session (option_text names_text x.algorithms rest))))))

-- what is completed: user, service, and whether by password and by public key
abbrev pub completed_methods_text : CompletedMethodsData → List ℕ → List ℕ
completed_methods_text r rest = bytes_text r.user (bytes_text r.service (flag_text r.password (flag_text r.publickey rest)))

-- what is known of authentication: the number of the next request, the limit of what may be ignored, and what is completed
abbrev pub authentication_text : AuthenticationRecord → List ℕ → List ℕ
authentication_text a rest = number_text a.request (option_text number_text a.allowance (completed_methods_text a.completed rest))

-- what is carried along: keys that aren't in use yet, the own version line, the host key and the user's key
abbrev pub carried_text : Carried → List ℕ → List ℕ
carried_text c rest =
    option_text keys_text c.pending (bytes_text c.own_version (bytes_text c.host_key (option_text user_key_text c.user_key rest)))

-- the keys with which is sent, if there are any, and the next sequence number
abbrev pub sending_text : Sending → List ℕ → List ℕ
sending_text s rest = option_text keys_text s.keys (number_text s.number rest)

-- the kind of the reader; of lines how many other lines are left, of packets the keys and the sequence number
abbrev pub reader_text : ReaderRecord → List ℕ → List ℕ
reader_text (OfLines left line) rest = number_text 0 (number_text left rest)
reader_text (OfPackets keys number held) rest = number_text 1 (option_text keys_text keys (number_text number rest))

-- in front stand the version of records, how many bytes more are wanted before anything comes of them, and the bytes of the unfinished
-- line or packet
abbrev pub waits_text : ℕ → List ℕ → List ℕ → List ℕ
waits_text missing held rest = number_text RECORD_VERSION (number_text missing (bytes_text held rest))

-- the role, whether the first attempt that is left was confirmed, how many are left, the phase, and whether the packet of a wrong guess is
-- due
abbrev pub front_text : RecordData → List ℕ → List ℕ
front_text r rest =
    number_text (role_number r.role) (flag_text r.confirmed (number_text r.left (number_text (phase_number r.phase) (flag_text r.guess rest))))

-- The parts of a record in order: the front, the key exchange, authentication, what is carried along, sending, the reader, and the payload
-- of the packet that waits.
abbrev pub body_text : RecordData → List ℕ → List ℕ
body_text r rest =
    front_text r (exchange_text r.exchange (authentication_text r.authentication (carried_text r.carried (sending_text r.sending
    (reader_text r.reader (option_text bytes_text r.waiting rest))))))

-- All of a record, and what follows. First `RECORD_VERSION`, how many bytes more the reader needs, and the bytes that it holds; then the
-- parts in order (profile).
abbrev pub record_text : RecordData → List ℕ → List ℕ
record_text r rest = waits_text r.missing (held_in r.reader) (body_text r rest)

-- the bytes of a record: `record_text`, and nothing after it
abbrev pub record_bytes : RecordData → List ℕ
record_bytes r = record_text r []

-- these bytes were appended: whatever follows stands after the text
abbrev pub Adds : (List ℕ → List ℕ) → List ℕ → List ℕ → Type 0
Adds text old new = (rest : List ℕ) → new ++ rest ≡ old ++ text rest

-- What can be written so, and read again: numbers below 2^32, and bytes that are fewer.

-- the bytes fit a string: they are fewer than 2^32 (RFC 4251 section 5)
abbrev pub IsShort : List ℕ → Type 0
IsShort bytes = length bytes < 2 ^ 32

-- each part of the keys fits a string
pub record FitsKeys (k : KeysData) : Type 0 where
  pub cipher : IsShort k.cipher
  pub mac : IsShort k.mac
  pub iv : IsShort k.iv
  pub enc : IsShort k.enc
  pub mac_key : IsShort k.mac_key

-- each name fits a string
pub record FitsNames (a : AlgorithmsData) : Type 0 where
  pub kex : IsShort a.kex
  pub host_key : IsShort a.host_key
  pub encryption_client_to_server : IsShort a.encryption_client_to_server
  pub encryption_server_to_client : IsShort a.encryption_server_to_client
  pub mac_client_to_server : IsShort a.mac_client_to_server
  pub mac_server_to_client : IsShort a.mac_server_to_client
  pub compression_client_to_server : IsShort a.compression_client_to_server
  pub compression_server_to_client : IsShort a.compression_server_to_client

-- algorithm and blob fit a string
pub record FitsUserKey (k : UserKeyData) : Type 0 where
  pub algorithm : IsShort k.algorithm
  pub blob : IsShort k.blob

-- all that is known of the key exchange fits strings
pub record FitsExchange (x : ExchangeRecord) : Type 0 where
  pub version : IsShort x.version
  pub kexinit : IsShort x.kexinit
  pub session : IsShort x.session
  pub algorithms : IfSome x.algorithms FitsNames

-- the numbers are below 2^32, and user and service fit a string
pub record FitsAuthentication (a : AuthenticationRecord) : Type 0 where
  pub request : a.request < 2 ^ 32
  pub allowance : IfSome a.allowance (λ n. n < 2 ^ 32)
  pub user : IsShort a.completed.user
  pub service : IsShort a.completed.service

-- all that is carried along fits strings
pub record FitsCarried (c : Carried) : Type 0 where
  pub pending : IfSome c.pending FitsKeys
  pub own_version : IsShort c.own_version
  pub host_key : IsShort c.host_key
  pub user_key : IfSome c.user_key FitsUserKey

-- the keys fit strings, and the sequence number is below 2^32
pub record FitsSending (s : Sending) : Type 0 where
  pub keys : IfSome s.keys FitsKeys
  pub number : s.number < 2 ^ 32

-- how many other lines are left, or the sequence number, is below 2^32; the keys fit strings
abbrev pub FitsReader : ReaderRecord → Type 0
FitsReader (OfLines left line) = left < 2 ^ 32
FitsReader (OfPackets keys number held) = IfSome keys FitsKeys × (number < 2 ^ 32)

-- the record can be written: each number in it is below 2^32, and each string has fewer than 2^32 bytes
pub record FitsRecord (r : RecordData) : Type 0 where
  pub missing : r.missing < 2 ^ 32
  pub held : IsShort (held_in r.reader)
  pub left : r.left < 2 ^ 32
  pub exchange : FitsExchange r.exchange
  pub authentication : FitsAuthentication r.authentication
  pub carried : FitsCarried r.carried
  pub sending : FitsSending r.sending
  pub reader : FitsReader r.reader
  pub waiting : IfSome r.waiting IsShort
