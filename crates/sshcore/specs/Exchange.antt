-- What an endpoint's key exchange comes to, by what stood before: RFC 4253 sections 7 and 8.

use Rattle.std.specs.Prelude.{ℕ, List, [], find, Option, None, Some, Result, Ok, Err}
use Rattle.std.specs.Str.{bytes_eq}
use Rattle.sshwire.specs.declared.share_form.ShareForm.{ShareForm}
use Rattle.sshwire.specs.declared.share_form.ShareForm.TheVariants.{Mpint}
use Rattle.sshmsg.specs.declared.fault.MsgFault.{MsgFault}
use Rattle.sshmsg.specs.MessageData.{KexEcdhInit, KexEcdhReply, KexInit, KexInitData, KexdhInit, KexdhReply, MessageData}
use Rattle.sshmsg.specs.Messages.{message_in}
use Rattle.sshmsg.specs.Written.{written_message}
use Rattle.sshneg.specs.declared.choice.NoCommon.{NoCommon}
use Rattle.sshneg.specs.declared.choice.NoCommon.TheVariants.{Kex}
use Rattle.sshneg.specs.declared.side.Side.{Side}
use Rattle.sshneg.specs.declared.side.Side.TheVariants.{Client, Server}
use Rattle.sshneg.specs.ChoiceReadings.{choice}
use Rattle.sshneg.specs.Derivations.{ExchangeData, derived}
use Rattle.sshneg.specs.ExchangeEnd.{KexEnd, answer_by, client_of, exchange_by, exchange_hash, server_of, source_by}
use Rattle.sshneg.specs.Fields.{AlgorithmsData}
use Rattle.sshpacket.specs.KeysData.{KeysData}
use Rattle.sshpacket.specs.Stream.{Units}
use Rattle.sshpacket.specs.Suite.{ResponseData, SuiteData}
use Rattle.sshcore.specs.declared.phase_table.Phase.TheVariants as phase
use Rattle.sshcore.specs.Before.{first_kept, kexinit, peer_offer}
use Rattle.sshcore.specs.ConfigParts.{HostKeyData}
use Rattle.sshcore.specs.EndpointParts.{ConfigData}
use Rattle.sshcore.specs.Phases.{leaving}

-- the payload of the own KEXINIT
abbrev pub own_kexinit : ConfigData → List ℕ
own_kexinit config = written_message (KexInit config.offer)

-- the choice of what this role and its peer offer; a peer that offers nothing leaves no method (RFC 4253 section 7.1)
abbrev pub choice_with : SuiteData → Side → KexInitData → Option KexInitData → Result AlgorithmsData NoCommon
choice_with m role own None = Err Kex
choice_with m role own (Some peer) = choice m (client_of role own peer) (server_of role own peer)

-- no name for any algorithm: where there is no choice, the endpoint has failed
abbrev pub no_algorithms : AlgorithmsData
no_algorithms = record {
  kex = [];
  host_key = [];
  encryption_client_to_server = [];
  encryption_server_to_client = [];
  mac_client_to_server = [];
  mac_server_to_client = [];
  compression_client_to_server = [];
  compression_server_to_client = [];
}

-- the algorithms of a choice; without one, those that name nothing
abbrev pub chosen_or : Result AlgorithmsData NoCommon → AlgorithmsData
chosen_or (Ok a) = a
chosen_or (Err f) = no_algorithms

-- The form of shares in 30 and 31, which is the chosen method's (RFC 4253 section 8, RFC 5656 section 4). Where there is no
-- choice nothing depends on it.
abbrev pub shares_by : SuiteData → Result AlgorithmsData NoCommon → ShareForm
shares_by m (Ok a) = m.share_form a.kex
shares_by m (Err f) = Mpint

-- the private key of a host key, if there is one, else no bytes
abbrev pub secret_or : Option HostKeyData → List ℕ
secret_or (Some key) = key.secret
secret_or None = []

-- the private key of the first host key of this algorithm (profile); no bytes if there is none
unfoldable pub secret_of : List HostKeyData → List ℕ → List ℕ
secret_of keys algorithm = secret_or (find (λ key. bytes_eq algorithm key.algorithm) keys)

-- the share in the peer's exchange message; of any other message no bytes
abbrev pub share_read : Result MessageData MsgFault → List ℕ
share_read (Ok (KexdhInit e)) = e
share_read (Ok (KexdhReply host_key f signature)) = f
share_read (Ok (KexEcdhInit client_share)) = client_share
share_read (Ok (KexEcdhReply host_key server_share signature)) = server_share
share_read _ = []

-- the host key in a server's exchange message (RFC 4253 section 8, RFC 5656 section 4); of any other message no bytes
abbrev pub host_key_read : Result MessageData MsgFault → List ℕ
host_key_read (Ok (KexdhReply host_key f signature)) = host_key
host_key_read (Ok (KexEcdhReply host_key server_share signature)) = host_key
host_key_read _ = []

-- the server's public host key: a server's own, or the one that a client has received
abbrev pub host_key_by : SuiteData → Side → ConfigData → List ℕ → Result MessageData MsgFault → List ℕ
host_key_by m Client config algorithm message = host_key_read message
host_key_by m Server config algorithm message = m.blob algorithm (secret_of config.host_keys algorithm)

-- what this end has of the exchange, by the algorithms and the peer's version line, KEXINIT payload and exchange message
abbrev pub kex_end : SuiteData → Side → ConfigData → AlgorithmsData → List ℕ → List ℕ → Result MessageData MsgFault → KexEnd
kex_end m role config a version kexinit message = record {
  version = config.version;
  kexinit = own_kexinit config;
  random = config.random;
  peer_version = version;
  peer_kexinit = kexinit;
  peer_share = share_read message;
  host_key = host_key_by m role config a.host_key message;
}

-- the server's share and the shared secret, if there is one
abbrev pub answer_with : SuiteData → Side → ConfigData → AlgorithmsData → Result MessageData MsgFault → Option ResponseData
answer_with m role config a message = answer_by role m a.kex config.random (share_read message)

-- the answer of the exchange; an empty one where there is none, and then the endpoint fails
abbrev pub answer_or : Option ResponseData → ResponseData
answer_or (Some answer) = answer
answer_or None = record { share = []; shared = [] }

-- what is hashed (RFC 4253 section 8)
unfoldable pub exchange_with : SuiteData → Side → ConfigData → AlgorithmsData → List ℕ → List ℕ → Result MessageData MsgFault → ExchangeData
exchange_with m role config a version kexinit message =
    exchange_by m role a.kex (kex_end m role config a version kexinit message) (answer_or (answer_with m role config a message))

-- the keys with which this role sends, by the algorithms of its direction (RFC 4253 section 7.2)
abbrev pub keys_by : SuiteData → AlgorithmsData → ExchangeData → Side → KeysData
keys_by m a x Client = derived m (source_by m a.kex x) Client a.encryption_client_to_server a.mac_client_to_server
keys_by m a x Server = derived m (source_by m a.kex x) Server a.encryption_server_to_client a.mac_server_to_client

-- the choice after these payloads, of the first KEXINIT among them (RFC 4253 section 7.1)
abbrev pub choice_before : SuiteData → Side → ConfigData → Units → Result AlgorithmsData NoCommon
choice_before m role config before = choice_with m role config.offer (peer_offer before)

-- the chosen algorithms, after these payloads (RFC 4253 section 7.1)
abbrev pub algorithms_at : SuiteData → Side → ConfigData → Units → AlgorithmsData
algorithms_at m role config before = chosen_or (choice_before m role config before)

-- the form of the shares of the chosen method, after these payloads (RFC 4253 section 8, RFC 5656 section 4)
abbrev pub shares_at : SuiteData → Side → ConfigData → Units → ShareForm
shares_at m role config before = shares_by m (choice_before m role config before)

-- the first exchange message of the peer that wasn't dropped (RFC 4253 section 8)
abbrev pub exchange_message : Side → ConfigData → Units → List ℕ
exchange_message role config before = first_kept role config.offer (leaving role phase.Exchange) before

-- what the exchange hash is made of, after these payloads (RFC 4253 section 8)
abbrev pub exchange_at : SuiteData → Side → ConfigData → List ℕ → Units → ExchangeData
exchange_at m role config version before =
    exchange_with m role config (algorithms_at m role config before) version (kexinit before)
    (message_in (shares_at m role config before) (exchange_message role config before))

-- the exchange hash, which is the session identifier (RFC 4253 section 7.2)
abbrev pub session_at : SuiteData → Side → ConfigData → List ℕ → Units → List ℕ
session_at m role config version before = exchange_hash m (algorithms_at m role config before).kex (exchange_at m role config version before)

-- the keys with which this role begins to send, after these payloads (RFC 4253 section 7.2)
abbrev pub keys_at : SuiteData → Side → ConfigData → List ℕ → Units → Side → KeysData
keys_at m role config version before sender = keys_by m (algorithms_at m role config before) (exchange_at m role config version before) sender
