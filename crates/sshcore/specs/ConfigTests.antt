-- The rules of configs as tests of their parts. What is promised is in ConfigRules; each test says so exactly where its rule is
-- kept.

use Rattle.std.specs.Prelude.{ℕ, ◌==◌, ◌&&◌, ◌||◌, Bool, true, not, nat_eq, nat_le, nat_lt, List, [], ◌∷◌, codes, length, map, Option, None, Some, option_map, string_bytes, String, Vec}
use Rattle.std.specs.List.{find, list_all, starts_with}
use Rattle.std.specs.Str.{bytes_eq}
use Rattle.sshwire.specs.Lines.{ssh}
use Rattle.sshwire.specs.Reading.{is_version_text}
use Rattle.sshwire.specs.TypeReadings.{is_name}
use Rattle.sshwire.specs.Types.{names_body}
use Rattle.sshneg.specs.ChoiceReadings.{is_in}
use Rattle.sshneg.specs.Markers.{is_marker}
use Rattle.sshcore.specs.declared.config_fault.ConfigFault.{ConfigFault}
use Rattle.sshcore.specs.declared.config_fault.ConfigFault.TheVariants as fault
use Rattle.sshcore.specs.declared.config_parts.Attempt.{Attempt}
use Rattle.sshcore.specs.declared.config_parts.ClientParts.{ClientParts}
use Rattle.sshcore.specs.declared.config_parts.Credential.{Credential}
use Rattle.sshcore.specs.declared.config_parts.Credential.TheVariants as credential
use Rattle.sshcore.specs.declared.config_parts.HostKey.{HostKey}
use Rattle.sshcore.specs.declared.config_parts.ServerParts.{ServerParts}
use Rattle.sshcore.specs.declared.config_parts.SideParts.{SideParts}
use Rattle.sshcore.specs.declared.config_parts.TheConstants.{BANNER_LIMIT, PRIVATE_KEY_LIMIT, LIST_LIMIT, NOTICE_LIMIT, NOTICE_LINE_LIMIT, PASSWORD_LIMIT, PLAN_LIMIT, TRIES_LIMIT, USER_LIMIT}
use Rattle.sshcore.specs.ConfigParts.{version_of}
use Rattle.sshcore.specs.ConfigView.{side_data}

-- the list isn't empty
abbrev pub is_some : {X : Type 0} → List X → Bool
is_some names = nat_lt 0 (length names)

-- no list of algorithms of a side is empty; of its host keys the caller says so
abbrev pub lists_are_some : SideParts → Bool → Bool
lists_are_some side host_keys =
    is_some side.kex_algorithms.items && (host_keys && (is_some side.encryption_client_to_server.items
    && (is_some side.encryption_server_to_client.items && (is_some side.mac_client_to_server.items && is_some side.mac_server_to_client.items))))

-- each text is a name
abbrev pub are_names : {Z : Type 0} → List (String Z) → Bool
are_names names = list_all (λ name. is_name (string_bytes name)) names

-- the algorithm of each host key is a name
abbrev pub host_keys_are_named : List HostKey → Bool
host_keys_are_named keys = list_all (λ (key : HostKey). is_name (string_bytes key.algorithm)) keys

-- each list of algorithms of a side has names alone; of its host keys the caller says so
abbrev pub lists_are_names : SideParts → Bool → Bool
lists_are_names side host_keys =
    are_names side.kex_algorithms.items && (host_keys && (are_names side.encryption_client_to_server.items
    && (are_names side.encryption_server_to_client.items && (are_names side.mac_client_to_server.items && are_names side.mac_server_to_client.items))))

-- the names with commas between are within the limit
abbrev pub text_is_short : List (List ℕ) → Bool
text_is_short names = nat_le (length (names_body names)) LIST_LIMIT

-- a list of texts is within the limit
abbrev pub is_short_list : {Z : Type 0} → List (String Z) → Bool
is_short_list names = text_is_short (map string_bytes names)

-- the list of the algorithms of the host keys is within the limit
abbrev pub host_keys_are_short : List HostKey → Bool
host_keys_are_short keys = text_is_short (map (λ (key : HostKey). string_bytes key.algorithm) keys)

-- each list of algorithms of a side is within the limit; of its host keys the caller says so
abbrev pub lists_are_short : SideParts → Bool → Bool
lists_are_short side host_keys =
    is_short_list side.kex_algorithms.items && (host_keys && (is_short_list side.encryption_client_to_server.items
    && (is_short_list side.encryption_server_to_client.items && (is_short_list side.mac_client_to_server.items && is_short_list side.mac_server_to_client.items))))

-- no text is a marker
abbrev pub are_methods : {Z : Type 0} → List (String Z) → Bool
are_methods names = list_all (λ name. not (is_marker (string_bytes name))) names

-- the method is `password` or `publickey`
abbrev pub is_listed : List ℕ → Bool
is_listed name = bytes_eq name (codes "password") || bytes_eq name (codes "publickey")

-- each method is `password` or `publickey`
abbrev pub are_listed : {Z : Type 0} → List (String Z) → Bool
are_listed names = list_all (λ name. is_listed (string_bytes name)) names

-- the algorithm of a credential is a name, if it has one
abbrev pub is_named : Credential → Bool
is_named credential.None = true
is_named (credential.Password password) = true
is_named (credential.PublicKey algorithm private_key ask) = is_name (string_bytes algorithm)

-- the service of an attempt is a name, and so is its algorithm
abbrev pub is_attempt_named : Attempt → Bool
is_attempt_named a = is_name (string_bytes a.service) && is_named a.credential

-- the password of a credential is within the limit, if it has one
abbrev pub has_short_password : Credential → Bool
has_short_password credential.None = true
has_short_password (credential.Password password) = nat_le (length password.items) PASSWORD_LIMIT
has_short_password (credential.PublicKey algorithm private_key ask) = true

-- the private key of a credential is within the limit, if it has one
abbrev pub has_short_key : Credential → Bool
has_short_key credential.None = true
has_short_key (credential.Password password) = true
has_short_key (credential.PublicKey algorithm private_key ask) = nat_le (length private_key.items) PRIVATE_KEY_LIMIT

-- the version line of a side can be sent
abbrev pub is_version : SideParts → Bool
is_version side = is_version_text (version_of (side_data side))

-- a byte that a notice line may have: from 32 to 126
abbrev pub is_notice_byte : ℕ → Bool
is_notice_byte b = nat_le 32 b && nat_le b 126

-- a line that may be sent before the version line: short, printable, and not beginning with `SSH-` (RFC 4253 section 4.2)
abbrev pub is_notice : List ℕ → Bool
is_notice line = nat_le (length line) NOTICE_LINE_LIMIT && (list_all is_notice_byte line && not (starts_with nat_eq line ssh))

-- each line may be sent before the version line
abbrev pub are_notices : {Z : Type 0} → List (Vec ℕ Z) → Bool
are_notices lines = list_all (λ line. is_notice line.items) lines

-- the banner is within the limit, if there is one
abbrev pub is_short_banner : Option (List ℕ) → Bool
is_short_banner None = true
is_short_banner (Some text) = nat_le (length text) BANNER_LIMIT

-- the cookie has 16 bytes, the exchange random and the padding seed 32 each
abbrev pub has_lengths : SideParts → Bool
has_lengths side = length side.cookie.items == 16 && (length side.exchange_random.items == 32 && length side.padding_seed.items == 32)

-- the test of each rule of a client's config (`ClientRule`)
abbrev pub client_test : ClientParts → ConfigFault → Bool
client_test parts fault.EmptyList = lists_are_some parts.side (is_some parts.server_host_key_algorithms.items)
client_test parts fault.Name =
    lists_are_names parts.side (are_names parts.server_host_key_algorithms.items)
    && (are_methods parts.side.kex_algorithms.items && list_all is_attempt_named parts.plan.items)
client_test parts fault.ListTooLong = lists_are_short parts.side (is_short_list parts.server_host_key_algorithms.items)
client_test parts fault.Line = is_version parts.side
client_test parts fault.User = list_all (λ (a : Attempt). nat_le (length (string_bytes a.user)) USER_LIMIT) parts.plan.items
client_test parts fault.Secret = list_all (λ (a : Attempt). has_short_password a.credential) parts.plan.items
client_test parts fault.Blob = list_all (λ (a : Attempt). has_short_key a.credential) parts.plan.items
client_test parts fault.Plan = nat_le (length parts.plan.items) PLAN_LIMIT
client_test parts fault.Tries = true
client_test parts fault.Random = has_lengths parts.side
client_test parts fault.Memory = true
client_test parts fault.Required = true

-- each list of a server has names alone
abbrev pub server_lists_are_names : ServerParts → Bool
server_lists_are_names parts =
    lists_are_names parts.side (host_keys_are_named parts.host_keys.items) && (are_names parts.services.items && (are_names parts.methods.items && (are_names parts.required.items && are_names parts.signature_algorithms.items)))

-- no name stands twice
abbrev pub are_distinct : List (List ℕ) → Bool
are_distinct [] = true
are_distinct (name ∷ names) = not (is_in names name) && are_distinct names

-- each required method is one of the methods, and none stands twice
abbrev pub are_required : List (List ℕ) → List (List ℕ) → Bool
are_required methods required = list_all (is_in methods) required && are_distinct required

-- the test of each rule of a server's config (`ServerRule`)
abbrev pub server_test : ServerParts → ConfigFault → Bool
server_test parts fault.EmptyList = lists_are_some parts.side (is_some parts.host_keys.items)
server_test parts fault.Name =
    server_lists_are_names parts && (are_methods parts.side.kex_algorithms.items && (are_listed parts.methods.items && are_listed parts.required.items))
server_test parts fault.ListTooLong =
    lists_are_short parts.side (host_keys_are_short parts.host_keys.items)
    && (is_short_list parts.services.items && (is_short_list parts.methods.items && (is_short_list parts.required.items && is_short_list parts.signature_algorithms.items)))
server_test parts fault.Line =
    is_version parts.side
    && (nat_le (length parts.notice_lines.items) NOTICE_LIMIT && are_notices parts.notice_lines.items)
server_test parts fault.User = true
server_test parts fault.Secret = true
server_test parts fault.Blob =
    list_all (λ (key : HostKey). nat_le (length key.private_key.items) PRIVATE_KEY_LIMIT) parts.host_keys.items
    && is_short_banner (option_map (λ text. text.items) parts.banner)
server_test parts fault.Plan = true
server_test parts fault.Tries = nat_le 1 parts.tries && nat_le parts.tries TRIES_LIMIT
server_test parts fault.Random = has_lengths parts.side
server_test parts fault.Memory = true
server_test parts fault.Required = are_required (map string_bytes parts.methods.items) (map string_bytes parts.required.items)

-- the refusals that are judged, in the order of their numbers
abbrev pub judged : List ConfigFault
judged =
    fault.EmptyList ∷ fault.Name ∷ fault.ListTooLong ∷ fault.Line ∷ fault.User ∷ fault.Secret ∷ fault.Blob ∷ fault.Plan ∷ fault.Tries
    ∷ fault.Random ∷ fault.Required ∷ []

-- the first of them whose test fails
abbrev pub refusal : (ConfigFault → Bool) → Option ConfigFault
refusal test = find (λ code. not (test code)) judged
