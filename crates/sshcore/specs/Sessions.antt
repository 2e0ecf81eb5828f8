-- What is handed over after authentication.

use Rattle.std.specs.Prelude.{◌≡◌, if◌then◌else◌, List, ℕ, codes, Option, None, Some}
use Rattle.std.specs.List.{list_any}
use Rattle.sshneg.specs.declared.side.Side.{Side}
use Rattle.sshneg.specs.declared.side.Side.TheVariants.{Client, Server}
use Rattle.sshpacket.specs.Stream.{Units}
use Rattle.sshpacket.specs.Suite.{SuiteData}
use Rattle.sshcore.specs.declared.session.Accepted.{Accepted}
use Rattle.sshcore.specs.declared.session.Session.{Session}
use Rattle.sshcore.specs.Before.{strict_at}
use Rattle.sshcore.specs.Counting.{number_in, number_out}
use Rattle.sshcore.specs.Directions.{keys_in, keys_out, payloads_in, version_in}
use Rattle.sshcore.specs.EndData.{AgreedData, agreed_data}
use Rattle.sshcore.specs.Exchange.{exchange_at}
use Rattle.sshcore.specs.StateData.{user_key_data}
use Rattle.sshcore.specs.EndpointParts.{ConfigData, DecisionsData, Setup, UserKeyData, setup_with}
use Rattle.sshcore.specs.CompletedMethods.{Tried, is_successful_for, run_of}
use Rattle.sshcore.specs.Tries.{last_key, successful_keys_at, tried_at}

-- How this user was accepted for this service, by the requests that a server received (RFC 4252 sections 5.1, 7 and 8). One part is whether
-- a password succeeded in the unbroken run of requests for both that ends these. The other is the last of the keys, if a signed request of
-- that run was successful.
pub record AcceptedBy (tried : List Tried) (keys : List UserKeyData) (user service : List ℕ) (accepted : Accepted) : Type 0 where
  pub password : accepted.password ≡ list_any (is_successful_for (codes "password")) (run_of user service tried)
  pub key : user_key_data accepted.key ≡ (if list_any (is_successful_for (codes "publickey")) (run_of user service tried) then last_key None keys else None)

-- a server says so, and a client nothing
abbrev pub HasAccepted : SuiteData → DecisionsData → Side → ConfigData → List ℕ → Units → AgreedData → Option Accepted → Type 0
HasAccepted m d Client config version before a accepted = accepted ≡ None
HasAccepted m d Server config version before a None = ⊥
HasAccepted m d Server config version before a (Some accepted) =
    AcceptedBy (tried_at (setup_with m d Server config) version before) (successful_keys_at (setup_with m d Server config) version before) a.user a.service accepted

-- The session of an endpoint that has received these units and sent these payloads (RFC 4253 sections 6.3, 6.4, 7.2 and 8). It has what was
-- agreed, both version lines, the server's public host key of the exchange, and how the user was accepted. For each direction it has the
-- keys in use, which are the exchange's and advance, and the number of the next packet.
pub record IsSession (setup : Setup) (units sent : Units) (sizes : List ℕ) (agreed : AgreedData) (session : Session) : Type 0 where
  pub agreed_is : agreed_data session.agreed ≡ agreed
  pub own_version : session.own_version.items ≡ setup.config.version
  pub peer_version : session.peer_version.items ≡ version_in units
  pub host_key : session.host_key.items ≡ (exchange_at setup.suite setup.role setup.config (version_in units) (payloads_in units)).host_key
  pub accepted : HasAccepted setup.suite setup.decisions setup.role setup.config (version_in units) (payloads_in units) agreed session.accepted
  pub incoming_keys : keys_in setup.suite setup.role setup.config (version_in units) (payloads_in units) sizes ≡ Some session.incoming.keys
  pub incoming_number : session.incoming.sequence_number ≡ number_in setup.role setup.config (payloads_in units)
  pub outgoing_keys : keys_out setup.suite setup.role setup.config units sent ≡ Some session.outgoing.keys
  pub outgoing_number : session.outgoing.sequence_number ≡ number_out (strict_at setup.role setup.config (payloads_in units)) sent
