-- What an endpoint does at the peer's exchange message (RFC 4253 section 8).

use Rattle.std.specs.Prelude.{◌≡◌, ℕ, true, false, List, [], ◌∷◌, None, Some, Ok}
use Rattle.sshmsg.specs.MessageData.{MessageData, ServiceRequest}
use Rattle.sshmsg.specs.Written.{written_message}
use Rattle.sshneg.specs.declared.side.Side.{Side}
use Rattle.sshneg.specs.Derivations.{ExchangeData, derived}
use Rattle.sshneg.specs.ExchangeEnd.{client_of, exchange_hash, server_of}
use Rattle.sshneg.specs.Fields.{AlgorithmsData}
use Rattle.sshneg.specs.Markers.{other}
use Rattle.sshpacket.specs.KeysData.{KeysData}
use Rattle.sshpacket.specs.Stream.{Units}
use Rattle.sshpacket.specs.Suite.{ResponseData, SuiteData}
use Rattle.sshcore.specs.declared.end.Fault.{Fault}
use Rattle.sshcore.specs.declared.end.Fault.TheVariants as fault
use Rattle.sshcore.specs.declared.phase_table.Phase.TheVariants as phase
use Rattle.sshcore.specs.declared.reply.Reply as reply
use Rattle.sshcore.specs.Brings.{IsOngoing, StandsAt}
use Rattle.sshcore.specs.Chosen.{cipher_of, mac_of}
use Rattle.sshcore.specs.EndData.{Reply, fails}
use Rattle.sshcore.specs.Exchange.{exchange_with, keys_by, own_kexinit, secret_of}
use Rattle.sshcore.specs.Comes.{SwitchesTo}
use Rattle.sshcore.specs.ReplyView.{answers_of, replied}
use Rattle.sshcore.specs.StateData.{StateData, with_exchange}
use Rattle.sshcore.specs.Work.{told_by, userauth}
use Rattle.sshcore.specs.KnownBefore.{Known}
use Rattle.sshcore.specs.EndpointParts.{ConfigData}
use Rattle.sshcore.specs.Phases.{past_exchange, past_kexinit}

-- the form of shares is that of the method, once there is one; and before the exchange nothing is sealed
pub record HasForm (m : SuiteData) (kept : StateData) : Type 0 where
  pub form : past_kexinit kept.phase ≡ true → kept.known.shares ≡ m.share_form kept.known.algorithms.kex
  pub clear : past_exchange kept.phase ≡ false → kept.sending.keys ≡ None

-- what both sides have given and come to, besides version lines and KEXINITs
pub record SharesData : Type 0 where
  pub host_key : List ℕ
  pub client_share : List ℕ
  pub server_share : List ℕ
  pub shared : List ℕ

-- what is hashed of that at an endpoint of this role
abbrev pub exchanged : Side → ConfigData → Known → SharesData → ExchangeData
exchanged role config known shares = record {
  client_version = client_of role config.version known.version;
  server_version = server_of role config.version known.version;
  client_kexinit = client_of role (own_kexinit config) known.kexinit;
  server_kexinit = server_of role (own_kexinit config) known.kexinit;
  host_key = shares.host_key;
  client_share = shares.client_share;
  server_share = shares.server_share;
  shared = shares.shared;
}

-- the keys with which this role sends, by the shared secret and the exchange hash, which in a first exchange is the session
-- identifier (RFC 4253 section 7.2)
abbrev pub kex_keys : SuiteData → AlgorithmsData → List ℕ → List ℕ → Side → KeysData
kex_keys m a shared hash sender =
    derived m (record { kex = a.kex; shared = shared; hash = hash; session = hash }) sender (cipher_of a sender) (mac_of a sender)

-- what is hashed, once this message has come
abbrev pub exchange_of_message : SuiteData → Side → ConfigData → Known → MessageData → ExchangeData
exchange_of_message m role config known message = exchange_with m role config known.algorithms known.version known.kexinit (Ok message)

-- It has failed so, and switches no keys.
pub record FailsBy (old new : StateData) (f : Fault) (made : reply.Reply) : Type 0 where
  pub reply_is : replied (answers_of made) new.end ≡ fails f
  pub no_switch : made.switch ≡ None
  pub unsent : new.sending ≡ old.sending

-- It receives the exchange message: it comes to this reply, with the keys of the exchange where they are switched; and where it goes on
-- it stands after the exchange, with the keys of what is received and the host key. Nothing is sent yet.
pub record ReceivesExchange (m : SuiteData) (role : Side) (config : ConfigData) (old new : StateData) (made : reply.Reply) (message : MessageData) (r : Reply) : Type 0 where
  pub reply_is : replied (answers_of made) new.end ≡ r
  pub switches : SwitchesTo made.switch old.known.strict (keys_by m old.known.algorithms (exchange_of_message m role config old.known message) role) new
  pub unsent : new.sending ≡ old.sending
  pub carries : IsOngoing new.end → new.carried ≡ with_exchange config (keys_by m old.known.algorithms (exchange_of_message m role config old.known message) (other role))
      (exchange_of_message m role config old.known message).host_key old.carried
  pub stands : IsOngoing new.end → StandsAt new phase.NewKeys old.guess
      (record old.known { session = exchange_hash m old.known.algorithms.kex (exchange_of_message m role config old.known message) })

-- what a client and its server have given, once the client has received the server's host key and share and made this shared
-- secret
abbrev pub client_shares : SuiteData → ConfigData → Known → List ℕ → List ℕ → List ℕ → SharesData
client_shares m config known host_key share shared = record {
  host_key = host_key;
  client_share = m.share known.algorithms.kex config.random;
  server_share = share;
  shared = shared;
}

-- what a server and its client have given, once the server has answered the client's share
abbrev pub server_shares : SuiteData → ConfigData → Known → List ℕ → ResponseData → SharesData
server_shares m config known share answer = record {
  host_key = m.blob known.algorithms.host_key (secret_of config.host_keys known.algorithms.host_key);
  client_share = share;
  server_share = answer.share;
  shared = answer.shared;
}

-- what is kept after an exchange of this host key, shared secret and hash
pub record StandsAfter (m : SuiteData) (role : Side) (config : ConfigData) (old new : StateData) (host_key shared hash : List ℕ) : Type 0 where
  pub kept : new ≡ record old {
    phase = phase.NewKeys;
    known = record old.known { session = hash };
    carried = with_exchange config (kex_keys m old.known.algorithms shared hash (other role)) host_key old.carried;
  }

-- these answers, and after NEWKEYS with the keys of the exchange those
abbrev pub switching : SuiteData → Side → StateData → List ℕ → List ℕ → Units → Units → reply.Reply
switching m role old shared hash answers more =
    record { answers = answers; switch = Some (record { keys = kex_keys m old.known.algorithms shared hash role; answers = more }) }

-- A server answers by this payload, NEWKEYS and what it tells a client that asks, and stands after the exchange.
pub record AnswersInit (m : SuiteData) (role : Side) (config : ConfigData) (old new : StateData) (host_key shared hash payload : List ℕ) (made : reply.Reply) : Type 0 where
  pub made_is : made ≡ switching m role old shared hash (payload ∷ []) (told_by config old.known)
  pub stands : StandsAfter m role config old new host_key shared hash

-- A client has accepted the server's exchange message: it answers by NEWKEYS and requests the service.
pub record AcceptsReply (m : SuiteData) (role : Side) (config : ConfigData) (old new : StateData) (host_key shared hash : List ℕ) (made : reply.Reply) : Type 0 where
  pub made_is : made ≡ switching m role old shared hash [] (written_message (ServiceRequest userauth) ∷ [])
  pub stands : StandsAfter m role config old new host_key shared hash

-- A client judges the signature over what both have given: it accepts, or fails.
pub data JudgesReply (m : SuiteData) (role : Side) (config : ConfigData) (old new : StateData) (shares : SharesData) (signature : List ℕ) (made : reply.Reply) : Type 0 where
  Accepts : m.verify old.known.algorithms.host_key shares.host_key (exchange_hash m old.known.algorithms.kex (exchanged role config old.known shares)) signature ≡ true
      → AcceptsReply m role config old new shares.host_key shares.shared (exchange_hash m old.known.algorithms.kex (exchanged role config old.known shares)) made
      → JudgesReply m role config old new shares signature made
  Refuses : m.verify old.known.algorithms.host_key shares.host_key (exchange_hash m old.known.algorithms.kex (exchanged role config old.known shares)) signature ≡ false
      → FailsBy old new fault.Signature made
      → JudgesReply m role config old new shares signature made
