-- What the record of a paused endpoint has: all that changes of it.

use Rattle.std.specs.Prelude.{ℕ, Bool, List, Option}
use Rattle.sshwire.specs.declared.share_form.ShareForm.{ShareForm}
use Rattle.sshneg.specs.declared.side.Side.{Side}
use Rattle.sshneg.specs.Fields.{AlgorithmsData}
use Rattle.sshpacket.specs.KeysData.{KeysData}
use Rattle.sshcore.specs.declared.phase_table.Phase.{Phase}
use Rattle.sshcore.specs.Output.{Sending}
use Rattle.sshcore.specs.CompletedMethods.{CompletedMethodsData}
use Rattle.sshcore.specs.StateData.{Carried}

-- What a record has of the key exchange (RFC 4253 sections 7 and 8): the form of shares, whether both sides are strict, and whether no
-- payload was received. Then the peer's version line and KEXINIT, the session identifier, and the names of a choice, once there is one.
pub record ExchangeRecord : Type 0 where
  pub shares : ShareForm
  pub strict : Bool
  pub first : Bool
  pub version : List ℕ
  pub kexinit : List ℕ
  pub session : List ℕ
  pub algorithms : Option AlgorithmsData

-- Of authentication: the number of the next request, how many bytes of packets that say nothing may still come, where there is a limit,
-- and what is completed (RFC 4252 section 5).
pub record AuthenticationRecord : Type 0 where
  pub request : ℕ
  pub allowance : Option ℕ
  pub completed : CompletedMethodsData

-- What it reads its bytes with: of lines, how many others it still accepts, and the unfinished line; of packets, the keys, the number
-- of the next one, and the bytes of the unfinished one.
pub data ReaderRecord : Type 0 where
  OfLines : ℕ → List ℕ → ReaderRecord
  OfPackets : Option KeysData → ℕ → List ℕ → ReaderRecord

-- the bytes of the unfinished line or packet
abbrev pub held_in : ReaderRecord → List ℕ
held_in (OfLines left line) = line
held_in (OfPackets keys number held) = held

-- How many bytes more it wants before anything comes of them; its role; whether the first attempt that is left was confirmed, and how
-- many are left; its phase, and whether the packet of a wrong guess is due; what it knows; what it carries along, and what it sends packets
-- with; its reader; and the payload of the packet that waits, where one does, which tells what it asks.
pub record RecordData : Type 0 where
  pub missing : ℕ
  pub role : Side
  pub confirmed : Bool
  pub left : ℕ
  pub phase : Phase
  pub guess : Bool
  pub exchange : ExchangeRecord
  pub authentication : AuthenticationRecord
  pub carried : Carried
  pub sending : Sending
  pub reader : ReaderRecord
  pub waiting : Option (List ℕ)
