-- What one end of a key exchange has, and what it comes to by it: RFC 4253 sections 7 and 8.

use Rattle.std.specs.Prelude.{◌≡◌, ℕ, List, Option, None, Some, Result, Ok, Err, option_map}
use Rattle.sshwire.specs.declared.share_form.ShareForm.TheVariants.{Mpint}
use Rattle.sshmsg.specs.declared.fault.MsgFault.{MsgFault}
use Rattle.sshmsg.specs.MessageData.{KexInit, KexInitData, MessageData}
use Rattle.sshmsg.specs.Messages.{message_in}
use Rattle.sshneg.specs.declared.choice.NoCommon.{NoCommon}
use Rattle.sshneg.specs.declared.choice.NoCommon.TheVariants.{Kex}
use Rattle.sshneg.specs.declared.side.Side.{Side}
use Rattle.sshneg.specs.declared.side.Side.TheVariants.{Client, Server}
use Rattle.sshneg.specs.ChoiceReadings.{choice}
use Rattle.sshneg.specs.Derivations.{ExchangeData, KeyMaterialData, exchange_text, sealing, unsealing}
use Rattle.sshneg.specs.Fields.{AlgorithmsData}
use Rattle.sshpacket.specs.Suite.{ResponseData, SuiteData}

-- what a message offers, if it is a KEXINIT
abbrev pub offer_by : Result MessageData MsgFault → Option KexInitData
offer_by (Ok (KexInit offer)) = Some offer
offer_by _ = None

-- what a payload offers, if it is a KEXINIT (RFC 4253 section 7.1), which is read alike whatever form the shares have
abbrev pub offer_in : List ℕ → Option KexInitData
offer_in payload = offer_by (message_in Mpint payload)

-- the choice of two offers; where one is missing there is no method
abbrev pub choice_by : SuiteData → Option KexInitData → Option KexInitData → Result AlgorithmsData NoCommon
choice_by m (Some client) (Some server) = choice m client server
choice_by m _ _ = Err Kex

-- the choice of two KEXINIT payloads, the client's first (RFC 4253 section 7.1)
abbrev pub choice_in : SuiteData → List ℕ → List ℕ → Result AlgorithmsData NoCommon
choice_in m client server = choice_by m (offer_in client) (offer_in server)

-- of what this role has and what its peer has, what the client has
abbrev pub client_of : {A : Type 0} → Side → A → A → A
client_of Client own peer = own
client_of Server own peer = peer

-- of what this role has and what its peer has, what the server has
abbrev pub server_of : {A : Type 0} → Side → A → A → A
server_of Client own peer = peer
server_of Server own peer = own

-- What one end has of an exchange: its own version line without CR LF, the payload of its KEXINIT as sent and its 32 random
-- bytes; of its peer the version line, the payload and the share as received; and the server's public host key, a server's
-- own or as a client has received it.
pub record KexEnd : Type 0 where
  pub version : List ℕ
  pub kexinit : List ℕ
  pub random : List ℕ
  pub peer_version : List ℕ
  pub peer_kexinit : List ℕ
  pub peer_share : List ℕ
  pub host_key : List ℕ

-- the choice of the KEXINIT that this end has sent and the one that it has received
abbrev pub choice_at : SuiteData → Side → KexEnd → Result AlgorithmsData NoCommon
choice_at m role end = choice_in m (client_of role end.kexinit end.peer_kexinit) (server_of role end.kexinit end.peer_kexinit)

-- The server's share f and the shared secret K, by the method, the own random bytes and the peer's share (RFC 4253 section 8):
-- a client has received f and makes K of it; a server makes both of the client's share e.
abbrev pub answer_by : Side → SuiteData → List ℕ → List ℕ → List ℕ → Option ResponseData
answer_by Client m kex random peer = option_map (λ body. record { share = peer; shared = body }) (m.shared kex random peer)
answer_by Server m kex random peer = m.respond kex random peer

-- what is hashed at this end, by the method, the server's share and the shared secret (RFC 4253 section 8)
unfoldable pub exchange_by : SuiteData → Side → List ℕ → KexEnd → ResponseData → ExchangeData
exchange_by m role kex end answer = record {
  client_version = client_of role end.version end.peer_version;
  server_version = server_of role end.version end.peer_version;
  client_kexinit = client_of role end.kexinit end.peer_kexinit;
  server_kexinit = server_of role end.kexinit end.peer_kexinit;
  host_key = end.host_key;
  client_share = client_of role (m.share kex end.random) end.peer_share;
  server_share = answer.share;
  shared = answer.shared;
}

-- the exchange hash H by this method (RFC 4253 section 8); that of the first exchange is the session identifier (section 7.2)
abbrev pub exchange_hash : SuiteData → List ℕ → ExchangeData → List ℕ
exchange_hash m kex x = m.digest kex (exchange_text x)

-- what keys are made of after a first exchange, by this method (RFC 4253 section 7.2)
abbrev pub source_by : SuiteData → List ℕ → ExchangeData → KeyMaterialData
source_by m kex x = record { kex = kex; shared = x.shared; hash = exchange_hash m kex x; session = exchange_hash m kex x }

-- what this end makes its keys of by this method, if there is an answer
abbrev pub source_with : SuiteData → Side → List ℕ → KexEnd → Option KeyMaterialData
source_with m role kex end =
    option_map (λ answer. source_by m kex (exchange_by m role kex end answer)) (answer_by role m kex end.random end.peer_share)

-- what keys are made of, by the method of a choice, if there is one
abbrev pub source_chosen : SuiteData → Side → KexEnd → Result AlgorithmsData NoCommon → Option KeyMaterialData
source_chosen m role end (Ok a) = source_with m role a.kex end
source_chosen m role end (Err f) = None

-- what this end makes its keys of, if its two KEXINITs have a choice and there is an answer (RFC 4253 sections 7 and 8)
unfoldable pub source_of_end : SuiteData → Side → KexEnd → Option KeyMaterialData
source_of_end m role end = source_chosen m role end (choice_at m role end)

-- The two ends of one exchange by this method: each has received what the other has sent. The share that a server sends is
-- that of its answer to the client's.
pub record IsOneExchange (m : SuiteData) (kex : List ℕ) (client server : KexEnd) : Type 0 where
  pub client_version : server.peer_version ≡ client.version
  pub server_version : client.peer_version ≡ server.version
  pub client_kexinit : server.peer_kexinit ≡ client.kexinit
  pub server_kexinit : client.peer_kexinit ≡ server.kexinit
  pub host_key : client.host_key ≡ server.host_key
  pub client_share : server.peer_share ≡ m.share kex client.random
  pub server_share : (r : ResponseData) → m.respond kex server.random (m.share kex client.random) ≡ Some r → client.peer_share ≡ r.share

-- Of what the client and what the server makes its keys of: both are there, and they are one. What either end seals with, by
-- its own source, is what the other unseals with, by its own, to the server and to the client.
pub record HaveOneSource (m : SuiteData) (client server : Option KeyMaterialData) : Type 0 where
  pub source : KeyMaterialData
  pub of_client : client ≡ Some source
  pub of_server : server ≡ Some source
  pub to_server : (x y : KeyMaterialData) → client ≡ Some x → server ≡ Some y
      → (cipher mac : List ℕ) → sealing m x Client cipher mac ≡ unsealing m y Server cipher mac
  pub to_client : (x y : KeyMaterialData) → client ≡ Some x → server ≡ Some y
      → (cipher mac : List ℕ) → sealing m y Server cipher mac ≡ unsealing m x Client cipher mac
