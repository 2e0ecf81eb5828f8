-- What is true of the configs of accepted configs.

use Rattle.std.proofs.Common.{◌≡◌, Bor, ℕ, ◌+◌, ◌<◌, ◌≤◌, Bool, true, false, List, [], ◌∷◌, ◌++◌, ◌||◌, if◌then◌else◌, find, get_or, inl, inr, length, map, Some, None, Option, IfSome, option_map, string_bytes, refl, sym, ap, subst, ◌∙◌, arith, length-append}
use Rattle.std.specs.List.{AllByRecursion}
use Rattle.std.specs.Str.{bytes_eq}
use Rattle.std.proofs.lemmas.Bool.{cases_Bool}
use Rattle.std.proofs.lemmas.Slice.Eq.{bytes_eq-Decides}
use Rattle.sshwire.specs.Lines.{IsVersionText, version_line}
use Rattle.sshwire.specs.Types.{AreNames, IsName, names_body}
use Rattle.sshneg.specs.ChoiceReadings.{is_in}
use Rattle.sshneg.specs.declared.side.Side.{Side}
use Rattle.sshneg.specs.declared.side.Side.TheVariants.{Client, Server}
use Rattle.sshneg.specs.Markers.{first_name, methods}
use Rattle.sshcore.specs.declared.config_fault.ConfigFault.TheVariants as fault
use Rattle.sshcore.specs.declared.config_parts.Attempt as attempt_parts
use Rattle.sshcore.specs.declared.config_parts.ClientParts.{ClientParts}
use Rattle.sshcore.specs.declared.config_parts.HostKey as key_parts
use Rattle.sshcore.specs.declared.config_parts.ServerParts.{ServerParts}
use Rattle.sshcore.specs.declared.config_parts.SideParts.{SideParts}
use Rattle.sshcore.specs.ConfigParts.{AttemptData, ClientData, HostKeyData, ServerData, SideData, own_marker}
use Rattle.sshcore.specs.ConfigRules.{HasShortKey, HasShortPassword, IsAttempt, IsClient, IsNamed, IsServer, IsShortList, IsUnmarked, all_server_lists}
use Rattle.sshcore.specs.ConfigView.{attempt_data, client_data, host_key_data, server_data, side_data}
use Rattle.sshcore.specs.Exchange.{secret_of}
use Rattle.sshcore.specs.EndpointParts.{config_of_client, config_of_server}
use Rattle.sshcore.specs.Work.{name_or}

-- CR LF ends the text of a version line
line_short : (text : List ℕ) → IsVersionText text → length (version_line text) ≤ 255
line_short text is =
    let short : length text ≤ 253 = is.short in
    let long : length (version_line text) ≡ length text + 2 = length-append text (13 ∷ 10 ∷ []) in
    omega arith

pub client_line : (client : ClientData) → IsClient client → length (version_line (config_of_client client).version) ≤ 255
client_line client is = line_short (config_of_client client).version (is.keeps fault.Line)

pub server_line : (server : ServerData) → IsServer server → length (version_line (config_of_server server).version) ≤ 255
server_line server is = line_short (config_of_server server).version (is.keeps fault.Line).0

-- a side's own marker is no method
marked : (role : Side) (strict : Bool) (names : List (List ℕ)) → AllByRecursion IsUnmarked names → methods (names ++ own_marker role strict) ≡ names
marked Client true [] _ = refl
marked Server true [] _ = refl
marked role false [] _ = refl
marked role strict (name ∷ names) (un, more) = rw (un, marked role strict names more) refl

client_methods : (client : ClientData) → IsClient client → client.side.kex_algorithms ≡ methods (config_of_client client).offer.kex_algorithms
client_methods client is = sym (marked Client client.side.strict client.side.kex_algorithms (is.keeps fault.Name).1)

server_methods : (server : ServerData) → IsServer server → server.side.kex_algorithms ≡ methods (config_of_server server).offer.kex_algorithms
server_methods server is = sym (marked Server server.side.strict server.side.kex_algorithms (is.keeps fault.Name).1)

-- methods are some names
client_some : (client : ClientData) → IsClient client → 0 < length client.side.kex_algorithms
client_some client is = (is.keeps fault.EmptyList).0

server_some : (server : ServerData) → IsServer server → 0 < length server.side.kex_algorithms
server_some server is = (is.keeps fault.EmptyList).0

client_names : (client : ClientData) → IsClient client → AreNames client.side.kex_algorithms
client_names client is = (is.keeps fault.Name).0.0

server_names : (server : ServerData) → IsServer server → AreNames server.side.kex_algorithms
server_names server is = (is.keeps fault.Name).0.0

-- the same of the parts that are seen as this data
mapped_some : {X : Type 0} (view : X → List ℕ) (xs : List X) → 0 < length (map view xs) → 0 < length xs
mapped_some view [] some = some
mapped_some view (x ∷ xs) some = omega arith

side_some : (side : SideParts) (held : SideData) → side_data side ≡ held → 0 < length held.kex_algorithms → 0 < length side.kex_algorithms.items
side_some side held same some = mapped_some string_bytes side.kex_algorithms.items (subst (λ (d : SideData). 0 < length d.kex_algorithms) (sym same) some)

side_methods : (side : SideParts) (held : SideData) (names : List (List ℕ)) → side_data side ≡ held → held.kex_algorithms ≡ names
    → map string_bytes side.kex_algorithms.items ≡ names
side_methods side held names same e = ap (λ (d : SideData). d.kex_algorithms) same ∙ e

side_names : (side : SideParts) (held : SideData) → side_data side ≡ held → AreNames held.kex_algorithms → AreNames (map string_bytes side.kex_algorithms.items)
side_names side held same names = subst (λ (d : SideData). AreNames d.kex_algorithms) (sym same) names

module _ (parts : ClientParts) (client : ClientData) (same : client_data parts ≡ client) (is : IsClient client) where
  pub client_parts_methods : map string_bytes parts.side.kex_algorithms.items ≡ methods (config_of_client client).offer.kex_algorithms
  client_parts_methods = side_methods parts.side client.side _ (ap (λ (c : ClientData). c.side) same) (client_methods client is)

  pub client_parts_some : 0 < length parts.side.kex_algorithms.items
  client_parts_some = side_some parts.side client.side (ap (λ (c : ClientData). c.side) same) (client_some client is)

  pub client_parts_names : AreNames (map string_bytes parts.side.kex_algorithms.items)
  client_parts_names = side_names parts.side client.side (ap (λ (c : ClientData). c.side) same) (client_names client is)

module _ (parts : ServerParts) (server : ServerData) (same : server_data parts ≡ server) (is : IsServer server) where
  pub server_parts_methods : map string_bytes parts.side.kex_algorithms.items ≡ methods (config_of_server server).offer.kex_algorithms
  server_parts_methods = side_methods parts.side server.side _ (ap (λ (s : ServerData). s.side) same) (server_methods server is)

  pub server_parts_some : 0 < length parts.side.kex_algorithms.items
  server_parts_some = side_some parts.side server.side (ap (λ (s : ServerData). s.side) same) (server_some server is)

  pub server_parts_names : AreNames (map string_bytes parts.side.kex_algorithms.items)
  server_parts_names = side_names parts.side server.side (ap (λ (s : ServerData). s.side) same) (server_names server is)

-- the first of some names
pub first_of_some : {X : Type 0} (view : X → List ℕ) (xs : List X) (x : X) (own : List (List ℕ)) → map view xs ≡ own → 0 < length xs → x ≡ get_or xs 0 x
    → view x ≡ name_or (first_name own)
first_of_some view [] x own same some at = absurd (omega (arith, some))
first_of_some view (y ∷ ys) x own same some at = rw (← same, at) refl

pub first_is_name : {X : Type 0} (view : X → List ℕ) (xs : List X) (x : X) → 0 < length xs → x ≡ get_or xs 0 x → AreNames (map view xs) → IsName (view x)
first_is_name view [] x some at names = absurd (omega (arith, some))
first_is_name view (y ∷ ys) x some at (name, more) = rw at name

-- a banner is short
shown_short : (shown : Option (Bor (List ℕ))) → IfSome (option_map (λ (text : Bor (List ℕ)). text.now) shown) (λ text. length text ≤ 8192)
    → IfSome shown (λ text. length text.now ≤ 8192)
shown_short None h = tt
shown_short (Some text) h = h

pub banner_short : (parts : ServerParts) (server : ServerData) (shown : Option (Bor (List ℕ))) → server_data parts ≡ server → IsServer server
    → option_map (λ (text : Bor (List ℕ)). text.now) shown ≡ option_map (λ text. text.items) parts.banner → IfSome shown (λ text. length text.now ≤ 8192)
banner_short parts server shown same is e =
    shown_short shown (subst (λ (b : Option (List ℕ)). IfSome b (λ text. length text ≤ 8192)) (sym (e ∙ ap (λ (s : ServerData). s.banner) same)) (is.keeps fault.Blob).1)

-- the first host key of an algorithm
find_mapped : (keys : List key_parts.HostKey) (algorithm : List ℕ) → find (λ (key : HostKeyData). bytes_eq algorithm key.algorithm) (map host_key_data keys)
    ≡ option_map host_key_data (find (λ (key : key_parts.HostKey). bytes_eq algorithm (string_bytes key.algorithm)) keys)
find_mapped [] algorithm = refl
find_mapped (key ∷ keys) algorithm = elim (cases_Bool (bytes_eq algorithm (string_bytes key.algorithm))) [
  | inl here ↦ rw here refl
  | inr off ↦ rw off (find_mapped keys algorithm)
]

pub secret_found : (keys : List key_parts.HostKey) (algorithm : List ℕ) (found : Option (Bor key_parts.HostKey)) (key : Bor key_parts.HostKey)
    → option_map (λ (k : Bor key_parts.HostKey). k.now) found ≡ find (λ (k : key_parts.HostKey). bytes_eq algorithm (string_bytes k.algorithm)) keys → found ≡ Some key
    → key.now.private_key.items ≡ secret_of (map host_key_data keys) algorithm
unfolding secret_of
secret_found keys algorithm found key e is =
    let here : find (λ (k : key_parts.HostKey). bytes_eq algorithm (string_bytes k.algorithm)) keys ≡ Some key.now = sym e ∙ ap (λ o. option_map (λ (k : Bor key_parts.HostKey). k.now) o) is in
    rw (find_mapped keys algorithm, here) refl

pub secret_missed : (keys : List key_parts.HostKey) (algorithm : List ℕ) (found : Option (Bor key_parts.HostKey))
    → option_map (λ (k : Bor key_parts.HostKey). k.now) found ≡ find (λ (k : key_parts.HostKey). bytes_eq algorithm (string_bytes k.algorithm)) keys → found ≡ None
    → ◌≡◌ {A = List ℕ} [] (secret_of (map host_key_data keys) algorithm)
unfolding secret_of
secret_missed keys algorithm found e is =
    let here : find (λ (k : key_parts.HostKey). bytes_eq algorithm (string_bytes k.algorithm)) keys ≡ None = sym e ∙ ap (λ o. option_map (λ (k : Bor key_parts.HostKey). k.now) o) is in
    rw (find_mapped keys algorithm, here) refl

-- a client has no host key
pub no_secret : (client : ClientData) (algorithm : List ℕ) → ◌≡◌ {A = List ℕ} [] (secret_of (config_of_client client).host_keys algorithm)
unfolding secret_of
no_secret client algorithm = refl

-- a private key is short
secret_short : (keys : List HostKeyData) (algorithm : List ℕ) → AllByRecursion (λ (key : HostKeyData). length key.secret ≤ 8192) keys → length (secret_of keys algorithm) ≤ 8192
unfolding secret_of
secret_short [] algorithm all = omega arith
secret_short (key ∷ keys) algorithm (short, more) = elim (cases_Bool (bytes_eq algorithm key.algorithm)) [
  | inl here ↦ rw here short
  | inr off ↦ rw off (secret_short keys algorithm more)
]

pub server_secret : (parts : ServerParts) (server : ServerData) (keys : List key_parts.HostKey) (algorithm secret : List ℕ) → server_data parts ≡ server → IsServer server
    → keys ≡ parts.host_keys.items → secret ≡ secret_of (map host_key_data keys) algorithm → length secret ≤ 8192
server_secret parts server keys algorithm secret same is at e =
    let held : map host_key_data keys ≡ server.host_keys = ap (map host_key_data) at ∙ ap (λ (s : ServerData). s.host_keys) same in
    rw (e, held) (secret_short server.host_keys algorithm (is.keeps fault.Blob).0)

-- the first of some names that these bytes are
find_named : {X : Type 0} (view : X → List ℕ) (xs : List X) (name : List ℕ) → option_map view (find (λ (x : X). bytes_eq name (view x)) xs)
    ≡ (if is_in (map view xs) name then Some name else None)
find_named view [] name = refl
find_named view (x ∷ xs) name = elim (cases_Bool (bytes_eq name (view x))) [
  | inl here ↦ let same : name ≡ view x = (bytes_eq-Decides name (view x)).0 here in rw here (ap (λ (l : List ℕ). Some l) (sym same))
  | inr off ↦ rw off (find_named view xs name)
]

pub name_found : {X : Type 0} (view : X → List ℕ) (xs : List X) (name : List ℕ) (found : Option (Bor X)) (own : Bor X)
    → option_map (λ (x : Bor X). x.now) found ≡ find (λ (x : X). bytes_eq name (view x)) xs → found ≡ Some own
    → Some (view own.now) ≡ (if is_in (map view xs) name then Some name else None)
name_found {X} view xs name found own e is =
    let here : find (λ (x : X). bytes_eq name (view x)) xs ≡ Some own.now = sym e ∙ ap (λ o. option_map (λ (x : Bor X). x.now) o) is in
    ap (λ o. option_map view o) (sym here) ∙ find_named view xs name

pub name_missed : {X : Type 0} (view : X → List ℕ) (xs : List X) (name : List ℕ) (found : Option (Bor X))
    → option_map (λ (x : Bor X). x.now) found ≡ find (λ (x : X). bytes_eq name (view x)) xs → found ≡ None
    → ◌≡◌ {A = Option (List ℕ)} None (if is_in (map view xs) name then Some name else None)
name_missed {X} view xs name found e is =
    let here : find (λ (x : X). bytes_eq name (view x)) xs ≡ None = sym e ∙ ap (λ o. option_map (λ (x : Bor X). x.now) o) is in
    ap (λ o. option_map view o) (sym here) ∙ find_named view xs name

-- bytes that are one of some names are a name
in_names : (names : List (List ℕ)) (name : List ℕ) → AreNames names → is_in names name ≡ true → IsName name
in_names [] name all is = absurd cc
in_names (own ∷ names) name (first, more) is = elim (cases_Bool (bytes_eq name own)) [
  | inl here ↦ subst IsName (sym ((bytes_eq-Decides name own).0 here)) first
  | inr off ↦ in_names names name more (sym (ap (λ (b : Bool). b || is_in names name) off) ∙ is)
]

named_short : (b : Bool) (found : Option (Bor (List ℕ))) (name : List ℕ) → (b ≡ true → IsName name)
    → option_map (λ (own : Bor (List ℕ)). own.now) found ≡ (if b then Some name else None) → IfSome found (λ own. length own.now ≤ 64)
named_short b None name is e = tt
named_short true (Some own) name is e =
    let same : own.now ≡ name = ap (λ (o : Option (List ℕ)). elim o [ None ↦ name | Some x ↦ x ]) e in rw same (is refl).short
named_short false (Some own) name is e = absurd cc

-- the two lists that a server has besides those of algorithms
last_lists : (P : List (List ℕ) → Type 0) (server : ServerData) → AllByRecursion P (all_server_lists server) → P server.services × P server.methods
last_lists P server (_, (_, (_, (_, (_, (_, (services, (methods, _)))))))) = (services, methods)

-- a service that a server has is short
pub service_short : (parts : ServerParts) (server : ServerData) (names : List (List ℕ)) (name : List ℕ) (found : Option (Bor (List ℕ))) → server_data parts ≡ server → IsServer server
    → names ≡ map string_bytes parts.services.items → option_map (λ (own : Bor (List ℕ)). own.now) found ≡ (if is_in names name then Some name else None)
    → IfSome found (λ own. length own.now ≤ 64)
service_short parts server names name found same is at e =
    let held : names ≡ server.services = at ∙ ap (λ (s : ServerData). s.services) same in
    named_short (is_in names name) found name (in_names names name (subst AreNames (sym held) (last_lists AreNames server (is.keeps fault.Name).0).0)) e

-- the methods of a server are short, and names
pub methods_named : (server : ServerData) → IsServer server → AreNames server.methods
methods_named server is = (last_lists AreNames server (is.keeps fault.Name).0).1

pub methods_short : (server : ServerData) → IsServer server → length (names_body server.methods) ≤ 1000
methods_short server is = (last_lists IsShortList server (is.keeps fault.ListTooLong)).1

-- what a server tells of users' keys is short
pub signatures_short : (server : ServerData) → IsServer server → length (names_body server.signature_algorithms) ≤ 1000
signatures_short server is = by (is.keeps fault.ListTooLong)
  where
    by : AllByRecursion IsShortList (all_server_lists server) → IsShortList server.signature_algorithms
    by (_, (_, (_, (_, (_, (_, (_, (_, (_, (signatures, _)))))))))) = signatures

-- and no server grants more tries than this
pub tries_short : (parts : ServerParts) (server : ServerData) → server_data parts ≡ server → IsServer server → parts.tries ≤ 20
tries_short parts server same is = subst (λ (n : ℕ). n ≤ 20) (sym (ap (λ (s : ServerData). s.tries) same)) (is.keeps fault.Tries).1

-- each attempt of an accepted plan
attempts_accepted : (plan : List AttemptData) → AllByRecursion (λ (a : AttemptData). length a.user ≤ 255) plan
    → AllByRecursion (λ (a : AttemptData). IsName a.service × IsNamed a.proving) plan → AllByRecursion (λ (a : AttemptData). HasShortPassword a.proving) plan
    → AllByRecursion (λ (a : AttemptData). HasShortKey a.proving) plan → AllByRecursion IsAttempt plan
attempts_accepted [] users names passwords keys = tt
attempts_accepted (a ∷ plan) (user, users) (name, names) (password, passwords) (key, keys) =
    (record { user = user; service = name.0; named = name.1; password = password; key = key }, attempts_accepted plan users names passwords keys)

pub client_attempts : (parts : ClientParts) (client : ClientData) (plan : List attempt_parts.Attempt) → client_data parts ≡ client → IsClient client
    → plan ≡ parts.plan.items → AllByRecursion IsAttempt (map attempt_data plan)
client_attempts parts client plan same is at =
    let held : map attempt_data plan ≡ client.plan = ap (map attempt_data) at ∙ ap (λ (c : ClientData). c.plan) same in
    rw held (attempts_accepted client.plan (is.keeps fault.User) (is.keeps fault.Name).2 (is.keeps fault.Secret) (is.keeps fault.Blob))
