-- How an endpoint stands, as plain data, and what a payload brings.

use Rattle.std.specs.Prelude.{ℕ, nat_le, Bool, true, false, if◌then◌else◌, List, [], ◌∷◌, length, string_bytes, Option, None, Some}
use Rattle.sshmsg.specs.declared.numbers.TheConstants.{SSH_DISCONNECT_HOST_KEY_NOT_VERIFIABLE, SSH_DISCONNECT_KEY_EXCHANGE_FAILED, SSH_DISCONNECT_MAC_ERROR, SSH_DISCONNECT_NO_MORE_AUTH_METHODS_AVAILABLE, SSH_DISCONNECT_PROTOCOL_ERROR, SSH_DISCONNECT_SERVICE_NOT_AVAILABLE}
use Rattle.sshmsg.specs.MessageData.{Disconnect}
use Rattle.sshmsg.specs.Written.{written_message}
use Rattle.sshneg.specs.Fields.{AlgorithmsData}
use Rattle.sshpacket.specs.Stream.{Units}
use Rattle.sshcore.specs.declared.disconnecting.TheConstants.{DESCRIPTION_LIMIT}
use Rattle.sshcore.specs.declared.end.Agreed.{Agreed}
use Rattle.sshcore.specs.declared.end.End.{End}
use Rattle.sshcore.specs.declared.end.End.TheVariants as end
use Rattle.sshcore.specs.declared.end.Fault.{Fault}
use Rattle.sshcore.specs.declared.end.Fault.TheVariants as fault

-- what both sides agreed on: algorithms, strictness, session identifier, user and service
pub record AgreedData : Type 0 where
  pub algorithms : AlgorithmsData
  pub strict : Bool
  pub session : List ℕ
  pub user : List ℕ
  pub service : List ℕ

-- How an endpoint is: open, authenticated, failed, closed by the peer's DISCONNECT, or disconnected by its owner, the last two with the
-- reason (RFC 4253 section 11.1).
pub data EndData : Type 0 where
  Open : EndData
  Authenticated : AgreedData → EndData
  Failed : Fault → EndData
  Closed : ℕ → EndData
  Disconnected : ℕ → EndData

-- what both sides agreed on, without where its texts lie in memory
abbrev pub agreed_data : Agreed → AgreedData
agreed_data a = record {
  algorithms = record {
    kex = string_bytes a.kex;
    host_key = string_bytes a.host_key;
    encryption_client_to_server = string_bytes a.encryption_client_to_server;
    encryption_server_to_client = string_bytes a.encryption_server_to_client;
    mac_client_to_server = string_bytes a.mac_client_to_server;
    mac_server_to_client = string_bytes a.mac_server_to_client;
    compression_client_to_server = string_bytes a.compression_client_to_server;
    compression_server_to_client = string_bytes a.compression_server_to_client;
  };
  strict = a.strict;
  session = a.session.items;
  user = string_bytes a.user;
  service = string_bytes a.service;
}

-- the twin of an `End`
abbrev pub end_data : End → EndData
end_data end.Open = Open
end_data (end.Authenticated a) = Authenticated (agreed_data a)
end_data (end.Failed f) = Failed f
end_data (end.Closed reason) = Closed reason
end_data (end.Disconnected reason) = Disconnected reason

-- the endpoint's owner ended it: its input was cut off, or it was told to disconnect (profile)
abbrev pub by_owner : EndData → Bool
by_owner (Failed fault.Cut) = true
by_owner (Disconnected reason) = true
by_owner _ = false

-- an endpoint is open, or what it received ended it: neither its owner did, nor memory that ran out (profile)
abbrev pub by_input : EndData → Bool
by_input (Failed fault.Memory) = false
by_input (Failed fault.Cut) = false
by_input (Disconnected reason) = false
by_input _ = true

-- the reason of the DISCONNECT that a failure sends (RFC 4253 section 11.1), or none where nothing is sent (which failure has which is
-- profile)
abbrev pub reason_of : Fault → Option ℕ
reason_of fault.Version = None
reason_of fault.Length = Some SSH_DISCONNECT_PROTOCOL_ERROR
reason_of fault.Padding = Some SSH_DISCONNECT_PROTOCOL_ERROR
reason_of fault.Mac = Some SSH_DISCONNECT_MAC_ERROR
reason_of (fault.Malformed n) = Some SSH_DISCONNECT_PROTOCOL_ERROR
reason_of (fault.Unexpected n) = Some SSH_DISCONNECT_PROTOCOL_ERROR
reason_of (fault.Strict n) = Some SSH_DISCONNECT_PROTOCOL_ERROR
reason_of (fault.NoCommon f) = Some SSH_DISCONNECT_KEY_EXCHANGE_FAILED
reason_of fault.Exchange = Some SSH_DISCONNECT_KEY_EXCHANGE_FAILED
reason_of fault.HostKey = Some SSH_DISCONNECT_HOST_KEY_NOT_VERIFIABLE
reason_of fault.Signature = Some SSH_DISCONNECT_KEY_EXCHANGE_FAILED
reason_of fault.Service = Some SSH_DISCONNECT_SERVICE_NOT_AVAILABLE
reason_of fault.TooManyTries = Some SSH_DISCONNECT_NO_MORE_AUTH_METHODS_AVAILABLE
reason_of fault.NoMoreMethods = Some SSH_DISCONNECT_NO_MORE_AUTH_METHODS_AVAILABLE
reason_of fault.Memory = None
reason_of fault.Cut = None
reason_of fault.TooMuchIgnored = Some SSH_DISCONNECT_PROTOCOL_ERROR

-- the DISCONNECT, with empty texts (RFC 4253 section 11.1; the empty texts are profile)
abbrev pub disconnect_by : Option ℕ → Units
disconnect_by None = []
disconnect_by (Some reason) = written_message (Disconnect reason [] []) ∷ []

-- what an endpoint sends when it fails so: one DISCONNECT, or nothing (RFC 4253 section 11.1)
abbrev pub disconnect : Fault → Units
disconnect f = disconnect_by (reason_of f)

-- what a payload brings: the answers to it, and how the endpoint stands after it
pub record Reply : Type 0 where
  pub answers : Units
  pub end : EndData

-- the endpoint answers so and stays open
abbrev pub goes : Units → Reply
goes answers = record { answers = answers; end = Open }

-- the endpoint tells the failure and has failed
abbrev pub fails : Fault → Reply
fails f = record { answers = disconnect f; end = Failed f }

-- the description that an endpoint sends for its owner: none in place of a longer one (profile)
abbrev pub description_sent : List ℕ → List ℕ
description_sent text = if nat_le (length text) DESCRIPTION_LIMIT then text else []

-- the DISCONNECT of an endpoint that its owner ends, with an empty language tag (RFC 4253 section 11.1) (the empty tag is profile)
abbrev pub parting : ℕ → List ℕ → List ℕ
parting reason description = written_message (Disconnect reason (description_sent description) [])

-- the endpoint sends it and has ended
abbrev pub disconnects : ℕ → List ℕ → Reply
disconnects reason description = record { answers = parting reason description ∷ []; end = Disconnected reason }
