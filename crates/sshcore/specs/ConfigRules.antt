-- What a config has to keep, rule by rule: each is named by the refusal that tells its breach. All limits are profile.

use Rattle.std.specs.Prelude.{◌≡◌, ◌⊎◌, ℕ, ◌+◌, ◌^◌, ◌<◌, ◌≤◌, false, List, [], ◌∷◌, ◌++◌, codes, length, Contains, IfSome}
use Rattle.std.specs.List.{AllByRecursion}
use Rattle.std.specs.Str.{IsUtf8}
use Rattle.sshwire.specs.Lines.{BeginsSsh, IsVersionText}
use Rattle.sshwire.specs.Types.{AreNames, IsBytes, IsName, names_body}
use Rattle.sshneg.specs.Markers.{is_marker}
use Rattle.sshcore.specs.declared.config_fault.ConfigFault.{ConfigFault}
use Rattle.sshcore.specs.declared.config_fault.ConfigFault.TheVariants as fault
use Rattle.sshcore.specs.declared.config_parts.TheConstants.{BANNER_LIMIT, PRIVATE_KEY_LIMIT, LIST_LIMIT, NOTICE_LIMIT, NOTICE_LINE_LIMIT, PASSWORD_LIMIT, PLAN_LIMIT, TRIES_LIMIT, USER_LIMIT}
use Rattle.sshcore.specs.ConfigParts.{AttemptData, ByKey, ByNothing, ByPassword, ClientData, CredentialData, HostKeyData, ServerData, SideData, key_algorithms, version_of}

-- the number of a refusal
abbrev pub rule_number : ConfigFault → ℕ
rule_number fault.EmptyList = 1
rule_number fault.Name = 2
rule_number fault.ListTooLong = 3
rule_number fault.Line = 4
rule_number fault.User = 5
rule_number fault.Secret = 6
rule_number fault.Blob = 7
rule_number fault.Plan = 8
rule_number fault.Tries = 9
rule_number fault.Random = 10
rule_number fault.Memory = 11
rule_number fault.Required = 12

-- the lists of algorithms that a side configures, in the order of a KEXINIT (RFC 4253 section 7.1)
abbrev pub lists_of : SideData → List (List ℕ) → List (List (List ℕ))
lists_of side host_keys =
    side.kex_algorithms ∷ host_keys ∷ side.encryption_client_to_server ∷ side.encryption_server_to_client
    ∷ side.mac_client_to_server ∷ side.mac_server_to_client ∷ []

-- the lists of algorithms of a client, in the order of a KEXINIT (RFC 4253 section 7.1)
abbrev pub client_lists : ClientData → List (List (List ℕ))
client_lists client = lists_of client.side client.host_key_algorithms

-- the lists of algorithms of a server, of which the host key algorithms are those of its host keys
abbrev pub server_lists : ServerData → List (List (List ℕ))
server_lists server = lists_of server.side (key_algorithms server.host_keys)

-- all lists of names of a server: its algorithms, services, methods, required methods and the algorithms of users' keys
abbrev pub all_server_lists : ServerData → List (List (List ℕ))
all_server_lists server = server_lists server ++ server.services ∷ server.methods ∷ server.required ∷ server.signature_algorithms ∷ []

-- the list has a name (RFC 4253 section 7.1)
abbrev pub IsSome : List (List ℕ) → Type 0
IsSome names = 0 < length names

-- the text of the list is short enough
abbrev pub IsShortList : List (List ℕ) → Type 0
IsShortList names = length (names_body names) ≤ LIST_LIMIT

-- a name of a kex list that is a method: no marker
abbrev pub IsUnmarked : List ℕ → Type 0
IsUnmarked name = is_marker name ≡ false

-- the method of a request that a server can list
abbrev pub IsListed : List ℕ → Type 0
IsListed name = (name ≡ codes "password") ⊎ (name ≡ codes "publickey")

-- the algorithm of an attempt, if it has one, is a name (RFC 4251 section 6)
abbrev pub IsNamed : CredentialData → Type 0
IsNamed ByNothing = Unit {0}
IsNamed (ByPassword password) = Unit {0}
IsNamed (ByKey algorithm secret ask) = IsName algorithm

-- an attempt's password, if it has one, is short enough
abbrev pub HasShortPassword : CredentialData → Type 0
HasShortPassword ByNothing = Unit {0}
HasShortPassword (ByPassword password) = length password ≤ PASSWORD_LIMIT
HasShortPassword (ByKey algorithm secret ask) = Unit {0}

-- an attempt's private key, if it has one, is short enough
abbrev pub HasShortKey : CredentialData → Type 0
HasShortKey ByNothing = Unit {0}
HasShortKey (ByPassword password) = Unit {0}
HasShortKey (ByKey algorithm secret ask) = length secret ≤ PRIVATE_KEY_LIMIT

-- what is true of each attempt of an accepted plan: user, password and private key are within their limits, service and algorithm are names
pub record IsAttempt (a : AttemptData) : Type 0 where
  pub user : length a.user ≤ USER_LIMIT
  pub service : IsName a.service
  pub named : IsNamed a.proving
  pub password : HasShortPassword a.proving
  pub key : HasShortKey a.proving

-- a byte of a notice line
pub record IsNoticeByte (b : ℕ) : Type 0 where
  pub from_space : 32 ≤ b
  pub printable : b ≤ 126

-- a notice line without its CR LF (RFC 4253 section 4.2)
pub record IsNotice (line : List ℕ) : Type 0 where
  pub short : length line ≤ NOTICE_LINE_LIMIT
  pub bytes : AllByRecursion IsNoticeByte line
  pub no_ssh : BeginsSsh line → ⊥

-- the cookie has 16 bytes, the exchange random and the padding seed have 32 (RFC 4253 section 7.1; the 32 are profile)
pub record HasLengths (side : SideData) : Type 0 where
  pub cookie : length side.cookie ≡ 16
  pub random : length side.random ≡ 32
  pub seed : length side.seed ≡ 32

-- no name stands twice
abbrev pub AreDistinct : List (List ℕ) → Type 0
AreDistinct [] = Unit {0}
AreDistinct (name ∷ names) = (Contains names name → ⊥) × AreDistinct names

-- What a client's config has to keep, rule by rule, each under the refusal of its breach (RFC 4251 section 6, RFC 4253 sections 4.2 and
-- 7.1; the limits are profile). `Tries`, `Required` and `Memory` require nothing.
abbrev pub ClientRule : ConfigFault → ClientData → Type 0
ClientRule fault.EmptyList client = AllByRecursion IsSome (client_lists client)
ClientRule fault.Name client =
    AllByRecursion AreNames (client_lists client) × AllByRecursion IsUnmarked client.side.kex_algorithms
    × AllByRecursion (λ (a : AttemptData). IsName a.service × IsNamed a.proving) client.plan
ClientRule fault.ListTooLong client = AllByRecursion IsShortList (client_lists client)
ClientRule fault.Line client = IsVersionText (version_of client.side)
ClientRule fault.User client = AllByRecursion (λ (a : AttemptData). length a.user ≤ USER_LIMIT) client.plan
ClientRule fault.Secret client = AllByRecursion (λ (a : AttemptData). HasShortPassword a.proving) client.plan
ClientRule fault.Blob client = AllByRecursion (λ (a : AttemptData). HasShortKey a.proving) client.plan
ClientRule fault.Plan client = length client.plan ≤ PLAN_LIMIT
ClientRule fault.Tries client = Unit {0}
ClientRule fault.Random client = HasLengths client.side
ClientRule fault.Memory client = Unit {0}
ClientRule fault.Required client = Unit {0}

-- What a server's config has to keep, rule by rule, each under the refusal of its breach (RFC 4251 section 6, RFC 4253 sections 4.2 and
-- 7.1; the limits are profile). `User`, `Secret`, `Plan` and `Memory` require nothing.
abbrev pub ServerRule : ConfigFault → ServerData → Type 0
ServerRule fault.EmptyList server = AllByRecursion IsSome (server_lists server)
ServerRule fault.Name server =
    AllByRecursion AreNames (all_server_lists server) × AllByRecursion IsUnmarked server.side.kex_algorithms
    × AllByRecursion IsListed server.methods × AllByRecursion IsListed server.required
ServerRule fault.ListTooLong server = AllByRecursion IsShortList (all_server_lists server)
ServerRule fault.Line server =
    IsVersionText (version_of server.side) × (length server.notices ≤ NOTICE_LIMIT) × AllByRecursion IsNotice server.notices
ServerRule fault.User server = Unit {0}
ServerRule fault.Secret server = Unit {0}
ServerRule fault.Blob server =
    AllByRecursion (λ (key : HostKeyData). length key.secret ≤ PRIVATE_KEY_LIMIT) server.host_keys × IfSome server.banner (λ text. length text ≤ BANNER_LIMIT)
ServerRule fault.Plan server = Unit {0}
ServerRule fault.Tries server = (1 ≤ server.tries) × (server.tries ≤ TRIES_LIMIT)
ServerRule fault.Random server = HasLengths server.side
ServerRule fault.Memory server = Unit {0}
ServerRule fault.Required server = AllByRecursion (Contains server.methods) server.required × AreDistinct server.required

-- the rule of this refusal is broken, and every rule with a lesser number is kept (profile)
pub record IsLeastBroken (Rule : ConfigFault → Type 0) (code : ConfigFault) : Type 0 where
  pub broken : Rule code → ⊥
  pub least : (other : ConfigFault) → rule_number other < rule_number code → Rule other

-- cookie, exchange random and padding seed of a side are bytes
pub record HasBytes (side : SideData) : Type 0 where
  pub cookie : IsBytes side.cookie
  pub random : IsBytes side.random
  pub seed : IsBytes side.seed

-- what is true of every client's config: every rule is kept, users are UTF-8, cookie, random and seed are bytes
pub record IsClient (client : ClientData) : Type 0 where
  pub keeps : (code : ConfigFault) → ClientRule code client
  pub users : AllByRecursion (λ (a : AttemptData). IsUtf8 a.user) client.plan
  pub bytes : HasBytes client.side

-- what is true of every server's config
pub record IsServer (server : ServerData) : Type 0 where
  pub keeps : (code : ConfigFault) → ServerRule code server
  pub bytes : HasBytes server.side

-- a side's cookie and lists fit the fields of a KEXINIT (RFC 4253 section 7.1), its marker counted
pub record FitsKexInit (side : SideData) : Type 0 where
  pub cookie : length side.cookie ≡ 16
  pub kex_algorithms : length side.kex_algorithms + 1 < 2 ^ 25
  pub encryption_client_to_server : length side.encryption_client_to_server < 2 ^ 25
  pub encryption_server_to_client : length side.encryption_server_to_client < 2 ^ 25
  pub mac_client_to_server : length side.mac_client_to_server < 2 ^ 25
  pub mac_server_to_client : length side.mac_server_to_client < 2 ^ 25
