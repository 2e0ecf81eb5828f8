-- The tests of configs decide their rules, and the first that fails is the least.

use Rattle.std.proofs.Common.{◌≡◌, ℕ, ◌≤◌, Bool, true, not, ◌&&◌, List, [], ◌∷◌, length, map, Option, None, Some, IfSome, refl, ap, arith, eqb, leb, ◌↔◌, string_bytes, String, Vec}
use Rattle.std.specs.Prelude.{Contains, codes, option_map}
use Rattle.std.specs.Bool.{Decides}
use Rattle.std.specs.List.{AllByRecursion, list_all, starts_with}
use Rattle.std.specs.Str.{bytes_eq}
use Rattle.std.proofs.lemmas.Bool.{le-leb, leb-true, lt-ltb, not-true, not_from_false}
use Rattle.std.proofs.lemmas.Bool.Decides.{Decides-and, Decides-eqb, Decides-like, Decides-ltb, Decides-not, Decides-or}
use Rattle.std.proofs.lemmas.List.{length-map}
use Rattle.std.proofs.lemmas.Slice.Eq.{bytes_eq-Decides, starts_is}
use Rattle.sshwire.specs.Lines.{BeginsSsh, IsVersionText, ssh}
use Rattle.sshwire.specs.Reading.{is_version_text}
use Rattle.sshwire.specs.TypeReadings.{is_name}
use Rattle.sshwire.specs.Types.{AreNames, IsName, names_body}
use Rattle.sshneg.specs.Markers.{is_marker}
use Rattle.sshneg.specs.ChoiceReadings.{is_in}
use Rattle.sshneg.proofs.FirstLemmas.{contains_in, in_contains}
use Rattle.sshcore.specs.declared.config_fault.ConfigFault.{ConfigFault}
use Rattle.sshcore.specs.declared.config_fault.ConfigFault.TheVariants as fault
use Rattle.sshcore.specs.declared.config_parts.Attempt as attempt_parts
use Rattle.sshcore.specs.declared.config_parts.ClientParts.{ClientParts}
use Rattle.sshcore.specs.declared.config_parts.Credential.{Credential}
use Rattle.sshcore.specs.declared.config_parts.Credential.TheVariants as credential
use Rattle.sshcore.specs.declared.config_parts.HostKey as host_key_parts
use Rattle.sshcore.specs.declared.config_parts.ServerParts.{ServerParts}
use Rattle.sshcore.specs.declared.config_parts.SideParts.{SideParts}
use Rattle.sshcore.specs.ConfigParts.{AttemptData, HostKeyData, key_algorithms}
use Rattle.sshcore.specs.ConfigRules.{AreDistinct, ClientRule, HasLengths, HasShortKey, HasShortPassword, IsListed, IsUnmarked, IsNamed, IsNotice, IsNoticeByte, IsShortList, IsSome, ServerRule, lists_of}
use Rattle.sshcore.specs.ConfigTests.{are_distinct, are_methods, are_names, are_notices, are_required, client_test, has_lengths, has_short_key, has_short_password, host_keys_are_named, host_keys_are_short, is_attempt_named, is_listed, is_named, is_notice, is_notice_byte, is_short_banner, is_some, lists_are_names, lists_are_short, lists_are_some, server_test, text_is_short}
use Rattle.sshcore.specs.ConfigView.{attempt_data, client_data, credential_data, host_key_data, server_data, side_data}

-- of a list that is seen as data
each_decided : {X Y : Type 0} (test : X → Bool) (P : Y → Type 0) (view : X → Y) → ((x : X) → Decides (test x) (P (view x)))
    → (xs : List X) → Decides (list_all test xs) (AllByRecursion P (map view xs))
each_decided test P view each [] = (λ _. tt, λ _. refl)
each_decided test P view each (x ∷ xs) = Decides-and (test x) (list_all test xs) (each x) (each_decided test P view each xs)

-- of six facts in a row
six : {A B C D E F : Type 0} (a b c d e f : Bool) → Decides a A → Decides b B → Decides c C → Decides d D → Decides e E → Decides f F
    → Decides (a && (b && (c && (d && (e && f))))) (A × (B × (C × (D × (E × (F × Unit {0}))))))
six a b c d e f p q r s t u =
    let last : Decides f (_ × Unit {0}) = Decides-like f (λ h. (h, tt)) (λ h. h.0) u in
    Decides-and a _ p (Decides-and b _ q (Decides-and c _ r (Decides-and d _ s (Decides-and e f t last))))

-- of three facts
three : {A B C : Type 0} (a b c : Bool) → Decides a A → Decides b B → Decides c C → Decides (a && (b && c)) (A × B × C)
three a b c p q r =
    Decides-like (a && (b && c)) (λ h. (h.0, h.1.0, h.1.1)) (λ h. (h.0, (h.1, h.2))) (Decides-and a (b && c) p (Decides-and b c q r))

some_decided : {X : Type 0} (view : X → List ℕ) (xs : List X) → Decides (is_some xs) (IsSome (map view xs))
some_decided view [] = Decides-ltb 0 0
some_decided view (x ∷ xs) = (λ _. omega arith, λ _. lt-ltb 0 (length (x ∷ xs)) (omega arith))

leb_decided : (a b : ℕ) → Decides (leb a b) (a ≤ b)
leb_decided a b = (leb-true a b, le-leb a b)

count_decided : {X Y : Type 0} (view : X → Y) (xs : List X) (n : ℕ) → Decides (leb (length xs) n) (length (map view xs) ≤ n)
count_decided view xs n = rw (length-map xs view) (leb_decided (length xs) n)

true_decided : Decides true (Unit {0})
true_decided = (λ _. tt, λ _. refl)

short_decided : (names : List (List ℕ)) → Decides (text_is_short names) (IsShortList names)
short_decided names = leb_decided (length (names_body names)) 1000

-- what is known of names and version lines
abbrev pub NameLaw : Type 0
NameLaw = (name : List ℕ) → (is_name name ≡ true) ↔ IsName name

abbrev pub VersionLaw : Type 0
VersionLaw = (text : List ℕ) → (is_version_text text ≡ true) ↔ IsVersionText text

method_decided : (name : List ℕ) → Decides (not (is_marker name)) (IsUnmarked name)
method_decided name = (not-true (is_marker name), not_from_false (is_marker name))

listed_decided : (name : List ℕ) → Decides (is_listed name) (IsListed name)
listed_decided name =
    Decides-or (bytes_eq name (codes "password")) (bytes_eq name (codes "publickey"))
    (bytes_eq-Decides name (codes "password")) (bytes_eq-Decides name (codes "publickey"))

lists_some_decided : (side : SideParts) (host_keys : List (List ℕ)) (b : Bool) → Decides b (IsSome host_keys)
    → Decides (lists_are_some side b) (AllByRecursion IsSome (lists_of (side_data side) host_keys))
lists_some_decided side host_keys b h =
    six _ b _ _ _ _ (some_decided string_bytes side.kex_algorithms.items) h (some_decided string_bytes side.encryption_client_to_server.items)
    (some_decided string_bytes side.encryption_server_to_client.items) (some_decided string_bytes side.mac_client_to_server.items)
    (some_decided string_bytes side.mac_server_to_client.items)

lists_short_decided : (side : SideParts) (host_keys : List (List ℕ)) (b : Bool) → Decides b (IsShortList host_keys)
    → Decides (lists_are_short side b) (AllByRecursion IsShortList (lists_of (side_data side) host_keys))
lists_short_decided side host_keys b h =
    six _ b _ _ _ _ (short_decided (map string_bytes side.kex_algorithms.items)) h (short_decided (map string_bytes side.encryption_client_to_server.items))
    (short_decided (map string_bytes side.encryption_server_to_client.items)) (short_decided (map string_bytes side.mac_client_to_server.items))
    (short_decided (map string_bytes side.mac_server_to_client.items))

names_decided : {Z : Type 0} → NameLaw → (names : List (String Z)) → Decides (are_names names) (AreNames (map string_bytes names))
names_decided law names = each_decided (λ name. is_name (string_bytes name)) IsName string_bytes (λ name. law (string_bytes name)) names

lists_named_decided : NameLaw → (side : SideParts) (host_keys : List (List ℕ)) (b : Bool) → Decides b (AreNames host_keys)
    → Decides (lists_are_names side b) (AllByRecursion AreNames (lists_of (side_data side) host_keys))
lists_named_decided law side host_keys b h =
    six _ b _ _ _ _ (names_decided law side.kex_algorithms.items) h (names_decided law side.encryption_client_to_server.items)
    (names_decided law side.encryption_server_to_client.items) (names_decided law side.mac_client_to_server.items)
    (names_decided law side.mac_server_to_client.items)

named_decided : NameLaw → (c : Credential) → Decides (is_named c) (IsNamed (credential_data c))
named_decided law credential.None = true_decided
named_decided law (credential.Password password) = true_decided
named_decided law (credential.PublicKey algorithm private_key ask) = law (string_bytes algorithm)

password_decided : (c : Credential) → Decides (has_short_password c) (HasShortPassword (credential_data c))
password_decided credential.None = true_decided
password_decided (credential.Password password) = leb_decided (length password.items) 1024
password_decided (credential.PublicKey algorithm private_key ask) = true_decided

key_decided : (c : Credential) → Decides (has_short_key c) (HasShortKey (credential_data c))
key_decided credential.None = true_decided
key_decided (credential.Password password) = true_decided
key_decided (credential.PublicKey algorithm private_key ask) = leb_decided (length private_key.items) 8192

lengths_decided : (side : SideParts) → Decides (has_lengths side) (HasLengths (side_data side))
lengths_decided side =
    Decides-like (has_lengths side) (λ h. record { cookie = h.0; random = h.1; seed = h.2 }) (λ h. (h.cookie, h.random, h.seed))
    (three _ _ _ (Decides-eqb (length side.cookie.items) 16) (Decides-eqb (length side.exchange_random.items) 32) (Decides-eqb (length side.padding_seed.items) 32))

methods_decided : {Z : Type 0} (names : List (String Z)) → Decides (are_methods names) (AllByRecursion IsUnmarked (map string_bytes names))
methods_decided names = each_decided (λ name. not (is_marker (string_bytes name))) IsUnmarked string_bytes (λ name. method_decided (string_bytes name)) names

pub client_decided : NameLaw → VersionLaw → (parts : ClientParts) (code : ConfigFault) → Decides (client_test parts code) (ClientRule code (client_data parts))
client_decided names versions parts fault.EmptyList =
    lists_some_decided parts.side (map string_bytes parts.server_host_key_algorithms.items) _ (some_decided string_bytes parts.server_host_key_algorithms.items)
client_decided names versions parts fault.Name =
    three _ _ _ (lists_named_decided names parts.side (map string_bytes parts.server_host_key_algorithms.items) _ (names_decided names parts.server_host_key_algorithms.items))
    (methods_decided parts.side.kex_algorithms.items)
    (each_decided is_attempt_named (λ (a : AttemptData). IsName a.service × IsNamed a.proving) attempt_data
    (λ a. Decides-and _ _ (names (string_bytes a.service)) (named_decided names a.credential)) parts.plan.items)
client_decided names versions parts fault.ListTooLong =
    lists_short_decided parts.side (map string_bytes parts.server_host_key_algorithms.items) _ (short_decided (map string_bytes parts.server_host_key_algorithms.items))
client_decided names versions parts fault.Line = versions _
client_decided names versions parts fault.User =
    each_decided (λ (a : attempt_parts.Attempt). leb (length (string_bytes a.user)) 255) (λ (a : AttemptData). length a.user ≤ 255) attempt_data
    (λ a. leb_decided (length (string_bytes a.user)) 255) parts.plan.items
client_decided names versions parts fault.Secret =
    each_decided (λ (a : attempt_parts.Attempt). has_short_password a.credential) (λ (a : AttemptData). HasShortPassword a.proving) attempt_data
    (λ a. password_decided a.credential) parts.plan.items
client_decided names versions parts fault.Blob =
    each_decided (λ (a : attempt_parts.Attempt). has_short_key a.credential) (λ (a : AttemptData). HasShortKey a.proving) attempt_data
    (λ a. key_decided a.credential) parts.plan.items
client_decided names versions parts fault.Plan =
    count_decided attempt_data parts.plan.items 64
client_decided names versions parts fault.Tries = true_decided
client_decided names versions parts fault.Random = lengths_decided parts.side
client_decided names versions parts fault.Memory = true_decided
client_decided names versions parts fault.Required = true_decided

pub host_keys_mapped : (keys : List host_key_parts.HostKey) → key_algorithms (map host_key_data keys) ≡ map (λ (k : host_key_parts.HostKey). string_bytes k.algorithm) keys
host_keys_mapped [] = refl
host_keys_mapped (key ∷ keys) = ap (λ names. string_bytes key.algorithm ∷ names) (host_keys_mapped keys)

host_keys_named_decided : NameLaw → (keys : List host_key_parts.HostKey) → Decides (host_keys_are_named keys) (AreNames (key_algorithms (map host_key_data keys)))
host_keys_named_decided law keys =
    rw (host_keys_mapped keys) (each_decided (λ (k : host_key_parts.HostKey). is_name (string_bytes k.algorithm)) IsName
    (λ (k : host_key_parts.HostKey). string_bytes k.algorithm) (λ k. law (string_bytes k.algorithm)) keys)

host_keys_some_decided : (keys : List host_key_parts.HostKey) → Decides (is_some keys) (IsSome (key_algorithms (map host_key_data keys)))
host_keys_some_decided keys = rw (host_keys_mapped keys) (some_decided (λ (k : host_key_parts.HostKey). string_bytes k.algorithm) keys)

host_keys_short_decided : (keys : List host_key_parts.HostKey) → Decides (host_keys_are_short keys) (IsShortList (key_algorithms (map host_key_data keys)))
host_keys_short_decided keys = rw (host_keys_mapped keys) (short_decided (map (λ (k : host_key_parts.HostKey). string_bytes k.algorithm) keys))

-- of ten facts in a row, where the first six are one test
four_more : {A B C D E F G H I J : Type 0} (a b c d e : Bool) → Decides a (A × (B × (C × (D × (E × (F × Unit {0})))))) → Decides b G → Decides c H → Decides d I → Decides e J
    → Decides (a && (b && (c && (d && e)))) (A × (B × (C × (D × (E × (F × (G × (H × (I × (J × Unit {0}))))))))))
four_more a b c d e p q r t u =
    Decides-like (a && (b && (c && (d && e)))) (λ h. (h.0.0, (h.0.1.0, (h.0.1.1.0, (h.0.1.1.1.0, (h.0.1.1.1.1.0, (h.0.1.1.1.1.1.0, (h.1, (h.2.0, (h.2.1.0, (h.2.1.1, tt)))))))))))
    (λ h. ((h.0, (h.1.0, (h.1.1.0, (h.1.1.1.0, (h.1.1.1.1.0, (h.1.1.1.1.1.0, tt)))))), h.1.1.1.1.1.1.0, (h.1.1.1.1.1.1.1.0, (h.1.1.1.1.1.1.1.1.0, h.1.1.1.1.1.1.1.1.1.0))))
    (three a b (c && (d && e)) p q (Decides-and c (d && e) r (Decides-and d e t u)))

four : {A B C D : Type 0} (a b c d : Bool) → Decides a A → Decides b B → Decides c C → Decides d D → Decides (a && (b && (c && d))) (A × B × C × D)
four a b c d p q r t =
    Decides-like (a && (b && (c && d))) (λ h. (h.0, h.1.0, h.1.1.0, h.1.1.1)) (λ h. (h.0, (h.1, (h.2, h.3))))
    (Decides-and a (b && (c && d)) p (Decides-and b (c && d) q (Decides-and c d r t)))

contains_decided : (names : List (List ℕ)) (name : List ℕ) → Decides (is_in names name) (Contains names name)
contains_decided names name = (contains_in names name, in_contains names name)

distinct_decided : (names : List (List ℕ)) → Decides (are_distinct names) (AreDistinct names)
distinct_decided [] = true_decided
distinct_decided (name ∷ names) = Decides-and _ _ (Decides-not (is_in names name) (contains_decided names name)) (distinct_decided names)

all_in_decided : (methods required : List (List ℕ)) → Decides (list_all (is_in methods) required) (AllByRecursion (Contains methods) required)
all_in_decided methods [] = true_decided
all_in_decided methods (name ∷ required) = Decides-and (is_in methods name) _ (contains_decided methods name) (all_in_decided methods required)

required_decided : (methods required : List (List ℕ)) → Decides (are_required methods required) (AllByRecursion (Contains methods) required × AreDistinct required)
required_decided methods required = Decides-and _ _ (all_in_decided methods required) (distinct_decided required)

notice_byte_decided : (b : ℕ) → Decides (is_notice_byte b) (IsNoticeByte b)
notice_byte_decided b =
    Decides-like _ (λ h. record { from_space = h.0; printable = h.1 }) (λ h. (h.from_space, h.printable))
    (Decides-and _ _ (leb_decided 32 b) (leb_decided b 126))

bytes_decided : (line : List ℕ) → Decides (list_all is_notice_byte line) (AllByRecursion IsNoticeByte line)
bytes_decided [] = (λ _. tt, λ _. refl)
bytes_decided (b ∷ line) = Decides-and (is_notice_byte b) (list_all is_notice_byte line) (notice_byte_decided b) (bytes_decided line)

ssh_decided : (line : List ℕ) → Decides (starts_with eqb line ssh) (BeginsSsh line)
ssh_decided line =
    let is = starts_is Decides-eqb line ssh (starts_with eqb line ssh) refl in
    (λ t. (_, is.0 t), λ h. is.1 h.0 h.1)

notice_decided : (line : List ℕ) → Decides (is_notice line) (IsNotice line)
notice_decided line =
    Decides-like _ (λ h. record { short = h.0; bytes = h.1; no_ssh = h.2 }) (λ h. (h.short, h.bytes, h.no_ssh))
    (three _ _ _ (leb_decided (length line) 253) (bytes_decided line) (Decides-not _ (ssh_decided line)))

banner_decided : (banner : Option (List ℕ)) → Decides (is_short_banner banner) (IfSome banner (λ text. length text ≤ 8192))
banner_decided None = true_decided
banner_decided (Some text) = leb_decided (length text) 8192

notices_decided : {Z : Type 0} (lines : List (Vec ℕ Z)) → Decides (are_notices lines) (AllByRecursion IsNotice (map (λ line. line.items) lines))
notices_decided lines = each_decided (λ line. is_notice line.items) IsNotice (λ line. line.items) (λ line. notice_decided line.items) lines

pub server_decided : NameLaw → VersionLaw → (parts : ServerParts) (code : ConfigFault) → Decides (server_test parts code) (ServerRule code (server_data parts))
server_decided names versions parts fault.EmptyList =
    lists_some_decided parts.side (key_algorithms (map host_key_data parts.host_keys.items)) _ (host_keys_some_decided parts.host_keys.items)
server_decided names versions parts fault.Name =
    four _ _ _ _ (four_more _ _ _ _ _ (lists_named_decided names parts.side (key_algorithms (map host_key_data parts.host_keys.items)) _
    (host_keys_named_decided names parts.host_keys.items)) (names_decided names parts.services.items) (names_decided names parts.methods.items)
    (names_decided names parts.required.items) (names_decided names parts.signature_algorithms.items))
    (methods_decided parts.side.kex_algorithms.items)
    (each_decided (λ name. is_listed (string_bytes name)) IsListed string_bytes (λ name. listed_decided (string_bytes name)) parts.methods.items)
    (each_decided (λ name. is_listed (string_bytes name)) IsListed string_bytes (λ name. listed_decided (string_bytes name)) parts.required.items)
server_decided names versions parts fault.ListTooLong =
    four_more _ _ _ _ _ (lists_short_decided parts.side (key_algorithms (map host_key_data parts.host_keys.items)) _ (host_keys_short_decided parts.host_keys.items))
    (short_decided (map string_bytes parts.services.items)) (short_decided (map string_bytes parts.methods.items)) (short_decided (map string_bytes parts.required.items))
    (short_decided (map string_bytes parts.signature_algorithms.items))
server_decided names versions parts fault.Line =
    three _ _ _ (versions _) (count_decided (λ line. line.items) parts.notice_lines.items 20) (notices_decided parts.notice_lines.items)
server_decided names versions parts fault.User = true_decided
server_decided names versions parts fault.Secret = true_decided
server_decided names versions parts fault.Blob =
    Decides-and _ _ (each_decided (λ (k : host_key_parts.HostKey). leb (length k.private_key.items) 8192) (λ (k : HostKeyData). length k.secret ≤ 8192) host_key_data
    (λ k. leb_decided (length k.private_key.items) 8192) parts.host_keys.items)
    (banner_decided (option_map (λ text. text.items) parts.banner))
server_decided names versions parts fault.Plan = true_decided
server_decided names versions parts fault.Tries = Decides-and _ _ (leb_decided 1 parts.tries) (leb_decided parts.tries 20)
server_decided names versions parts fault.Random = lengths_decided parts.side
server_decided names versions parts fault.Memory = true_decided
server_decided names versions parts fault.Required = required_decided (map string_bytes parts.methods.items) (map string_bytes parts.required.items)
