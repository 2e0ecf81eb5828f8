-- The KEXINIT of accepted configs is well-formed and fits a payload.

use Rattle.std.proofs.Common.{◌≡◌, ℕ, zero, suc, ◌+◌, ◌<◌, ◌≤◌, Bool, true, false, List, [], ◌∷◌, ◌++◌, length, refl, arith, lit<}
use Rattle.std.specs.Prelude.{codes, Contains, slice_index_or}
use Rattle.std.specs.List.{AllByRecursion, sum_by}
use Rattle.std.proofs.lemmas.List.Sums.{sum_by-append, sum_by-cons}
use Rattle.std.proofs.lemmas.Bool.{both_ways}
use Rattle.std.proofs.lemmas.List.{length-map}
use Rattle.sshwire.specs.Types.{AreNames, IsName, names_body}
use Rattle.sshmsg.specs.MessageData.{KexInit, MessageData}
use Rattle.sshmsg.specs.Lengths.{payload_length}
use Rattle.sshmsg.specs.Written.{IsNameList, IsOffer, written_message}
use Rattle.sshneg.specs.declared.side.Side.{Side}
use Rattle.sshneg.specs.declared.side.Side.TheVariants.{Client, Server}
use Rattle.sshneg.specs.Markers.{is_marker, strict_marker}
use Rattle.sshcore.specs.declared.config_fault.ConfigFault.TheVariants as fault
use Rattle.sshcore.specs.ConfigParts.{ClientData, HostKeyData, ServerData, SideData, key_algorithms, client_offer, own_marker, server_offer, side_offer}
use Rattle.sshcore.specs.ConfigRules.{FitsKexInit, HasLengths, IsClient, IsUnmarked, IsServer, IsShortList, all_server_lists, lists_of}
use Rattle.sshcore.proofs.ConfigJudged.{NameLaw}
use Rattle.sshcore.proofs.ConfigLemmas.{BodyLaw}

-- a list has at most one name more than its text has bytes
needs : (names : List (List ℕ)) → length names ≤ sum_by (λ (n : List ℕ). length n + 1) names
needs [] = omega arith
needs (name ∷ names) =
    let rest : length names ≤ sum_by (λ (n : List ℕ). length n + 1) names = needs names in
    let all : sum_by (λ (n : List ℕ). length n + 1) (name ∷ names) ≡ (length name + 1) + sum_by (λ (n : List ℕ). length n + 1) names
    = sum_by-cons (λ (n : List ℕ). length n + 1) name names in
    omega arith

-- what a list's names need, by its text
room_within : BodyLaw → (names : List (List ℕ)) → IsShortList names → sum_by (λ (n : List ℕ). length n + 1) names ≤ 1001
room_within body [] short = omega arith
room_within body (name ∷ names) short =
    let text : length (names_body (name ∷ names)) + 1 ≡ sum_by (λ (n : List ℕ). length n + 1) (name ∷ names) = body name names in
    omega (arith, short)

text_within : BodyLaw → (names : List (List ℕ)) (n : ℕ) → sum_by (λ (n : List ℕ). length n + 1) names ≤ n → length (names_body names) ≤ n
text_within body [] n h = omega arith
text_within body (name ∷ names) n h =
    let text : length (names_body (name ∷ names)) + 1 ≡ sum_by (λ (n : List ℕ). length n + 1) (name ∷ names) = body name names in
    omega (arith, h)

pub few_names : BodyLaw → (names : List (List ℕ)) → IsShortList names → length names ≤ 1001
few_names body names short =
    let some : length names ≤ sum_by (λ (n : List ℕ). length n + 1) names = needs names in
    let within : sum_by (λ (n : List ℕ). length n + 1) names ≤ 1001 = room_within body names short in
    omega arith

marker_needs : (role : Side) (flag : Bool) → sum_by (λ (n : List ℕ). length n + 1) (own_marker role flag) ≤ 29
marker_needs Client true = omega arith
marker_needs Server true = omega arith
marker_needs Client false = omega arith
marker_needs Server false = omega arith

marked_short : BodyLaw → (role : Side) (flag : Bool) (kex : List (List ℕ)) → IsShortList kex → length (names_body (kex ++ own_marker role flag)) ≤ 1030
marked_short body role flag kex short =
    let within : sum_by (λ (n : List ℕ). length n + 1) kex ≤ 1001 = room_within body kex short in
    let marker : sum_by (λ (n : List ℕ). length n + 1) (own_marker role flag) ≤ 29 = marker_needs role flag in
    let all : sum_by (λ (n : List ℕ). length n + 1) (kex ++ own_marker role flag) ≡ sum_by (λ (n : List ℕ). length n + 1) kex + sum_by (λ (n : List ℕ). length n + 1) (own_marker role flag)
    = sum_by-append (λ (n : List ℕ). length n + 1) kex (own_marker role flag) in
    text_within body (kex ++ own_marker role flag) 1030 (omega arith)

all_append : {X : Type 0} (P : X → Type 0) (xs ys : List X) → AllByRecursion P xs → AllByRecursion P ys → AllByRecursion P (xs ++ ys)
all_append P [] ys h k = k
all_append P (x ∷ xs) ys h k = (h.0, all_append P xs ys h.1 k)

marker_named : NameLaw → (role : Side) (flag : Bool) → AreNames (own_marker role flag)
marker_named law Client true = ((law (strict_marker Client)).0 refl, tt)
marker_named law Server true = ((law (strict_marker Server)).0 refl, tt)
marker_named law Client false = tt
marker_named law Server false = tt

short_list : (names : List (List ℕ)) → AreNames names → IsShortList names → IsNameList names
short_list names each short = record { each = each; short = omega (arith, short) }

none_list : NameLaw → IsNameList (codes "none" ∷ [])
none_list law = record { each = ((law (codes "none")).0 refl, tt); short = lit< tt }

empty_list : IsNameList []
empty_list = record { each = tt; short = lit< tt }

offer_formed : BodyLaw → NameLaw → (role : Side) (side : SideData) (host_keys : List (List ℕ)) (guess : Bool)
    → AllByRecursion AreNames (lists_of side host_keys) → AllByRecursion IsShortList (lists_of side host_keys) → HasLengths side
    → IsOffer (side_offer role side host_keys guess)
offer_formed body law role side host_keys guess each short lengths = record {
  cookie = lengths.cookie;
  kex_algorithms = record {
    each = all_append IsName side.kex_algorithms (own_marker role side.strict) each.0 (marker_named law role side.strict);
    short = let text : length (names_body (side.kex_algorithms ++ own_marker role side.strict)) ≤ 1030 = marked_short body role side.strict side.kex_algorithms short.0 in omega arith;
  };
  server_host_key_algorithms = short_list host_keys each.1.0 short.1.0;
  encryption_client_to_server = short_list side.encryption_client_to_server each.1.1.0 short.1.1.0;
  encryption_server_to_client = short_list side.encryption_server_to_client each.1.1.1.0 short.1.1.1.0;
  mac_client_to_server = short_list side.mac_client_to_server each.1.1.1.1.0 short.1.1.1.1.0;
  mac_server_to_client = short_list side.mac_server_to_client each.1.1.1.1.1.0 short.1.1.1.1.1.0;
  compression_client_to_server = none_list law;
  compression_server_to_client = none_list law;
  languages_client_to_server = empty_list;
  languages_server_to_client = empty_list;
}

abbrev pub LengthLaw : Type 0
LengthLaw = (m : MessageData) → length (written_message m) ≡ payload_length m

offer_fits : BodyLaw → LengthLaw → (role : Side) (side : SideData) (host_keys : List (List ℕ)) (guess : Bool)
    → AllByRecursion IsShortList (lists_of side host_keys) → HasLengths side
    → length (written_message (KexInit (side_offer role side host_keys guess))) ≤ 32768
offer_fits body law role side host_keys guess short lengths =
    let text : length (names_body (side.kex_algorithms ++ own_marker role side.strict)) ≤ 1030 = marked_short body role side.strict side.kex_algorithms short.0 in
    let cookie : length side.cookie ≡ 16 = lengths.cookie in
    let all : length (written_message (KexInit (side_offer role side host_keys guess))) ≡ payload_length (KexInit (side_offer role side host_keys guess))
    = law (KexInit (side_offer role side host_keys guess)) in
    omega (arith, short.1.0, short.1.1.0, short.1.1.1.0, short.1.1.1.1.0, short.1.1.1.1.1.0)

fits_kexinit : BodyLaw → (side : SideData) (host_keys : List (List ℕ)) → AllByRecursion IsShortList (lists_of side host_keys) → HasLengths side → FitsKexInit side
fits_kexinit body side host_keys short lengths = record {
  cookie = lengths.cookie;
  kex_algorithms = let few : length side.kex_algorithms ≤ 1001 = few_names body side.kex_algorithms short.0 in omega arith;
  encryption_client_to_server = let few : length side.encryption_client_to_server ≤ 1001 = few_names body side.encryption_client_to_server short.1.1.0 in omega arith;
  encryption_server_to_client = let few : length side.encryption_server_to_client ≤ 1001 = few_names body side.encryption_server_to_client short.1.1.1.0 in omega arith;
  mac_client_to_server = let few : length side.mac_client_to_server ≤ 1001 = few_names body side.mac_client_to_server short.1.1.1.1.0 in omega arith;
  mac_server_to_client = let few : length side.mac_server_to_client ≤ 1001 = few_names body side.mac_server_to_client short.1.1.1.1.1.0 in omega arith;
}

-- no marker stands in the list that is configured
method_at : (kex : List (List ℕ)) → AllByRecursion IsUnmarked kex → (k : ℕ) (name : List ℕ) → k < length kex → slice_index_or kex k name ≡ name
    → is_marker name ≡ false
method_at [] methods k name l e = absurd (omega (arith, l))
method_at (x ∷ kex) methods zero name l e = rw (← e) methods.0
method_at (x ∷ kex) methods (suc k) name l e = method_at kex methods.1 k name (omega (arith, l)) e

marker_is : (role : Side) → is_marker (strict_marker role) ≡ true
marker_is Client = refl
marker_is Server = refl

unmarked : (kex : List (List ℕ)) → AllByRecursion IsUnmarked kex → (role : Side) → Contains kex (strict_marker role) → ⊥
unmarked kex methods role found =
    both_ways (is_marker (strict_marker role)) (method_at kex methods found.0 (strict_marker role) found.1 found.2) (marker_is role)

-- the first six of eight lists
first_lists : (P : List (List ℕ) → Type 0) (server : ServerData) → AllByRecursion P (all_server_lists server)
    → AllByRecursion P (lists_of server.side (key_algorithms server.host_keys))
first_lists P server h = (h.0, (h.1.0, (h.1.1.0, (h.1.1.1.0, (h.1.1.1.1.0, (h.1.1.1.1.1.0, tt))))))

pub client_formed : BodyLaw → NameLaw → (client : ClientData) → IsClient client → IsOffer (client_offer client)
client_formed body law client is =
    offer_formed body law Client client.side client.host_key_algorithms client.guess (is.keeps fault.Name).0 (is.keeps fault.ListTooLong) (is.keeps fault.Random)

pub server_formed : BodyLaw → NameLaw → (server : ServerData) → IsServer server → IsOffer (server_offer server)
server_formed body law server is =
    offer_formed body law Server server.side (key_algorithms server.host_keys) false (first_lists AreNames server (is.keeps fault.Name).0)
    (first_lists IsShortList server (is.keeps fault.ListTooLong)) (is.keeps fault.Random)

pub client_fits : BodyLaw → LengthLaw → (client : ClientData) → IsClient client → length (written_message (KexInit (client_offer client))) ≤ 32768
client_fits body law client is =
    offer_fits body law Client client.side client.host_key_algorithms client.guess (is.keeps fault.ListTooLong) (is.keeps fault.Random)

pub server_fits : BodyLaw → LengthLaw → (server : ServerData) → IsServer server → length (written_message (KexInit (server_offer server))) ≤ 32768
server_fits body law server is =
    offer_fits body law Server server.side (key_algorithms server.host_keys) false (first_lists IsShortList server (is.keeps fault.ListTooLong)) (is.keeps fault.Random)

pub client_unmarked : (client : ClientData) → IsClient client → (role : Side) → Contains client.side.kex_algorithms (strict_marker role) → ⊥
client_unmarked client is = unmarked client.side.kex_algorithms (is.keeps fault.Name).1

pub server_unmarked : (server : ServerData) → IsServer server → (role : Side) → Contains server.side.kex_algorithms (strict_marker role) → ⊥
server_unmarked server is = unmarked server.side.kex_algorithms (is.keeps fault.Name).1

pub client_few : BodyLaw → (client : ClientData) → IsClient client → FitsKexInit client.side × (length client.host_key_algorithms ≤ 1001)
client_few body client is = (
  fits_kexinit body client.side client.host_key_algorithms (is.keeps fault.ListTooLong) (is.keeps fault.Random),
  few_names body client.host_key_algorithms (is.keeps fault.ListTooLong).1.0,
)

pub server_few : BodyLaw → (server : ServerData) → IsServer server → FitsKexInit server.side × (length server.host_keys ≤ 1001)
server_few body server is =
    let short = first_lists IsShortList server (is.keeps fault.ListTooLong) in
    let few : length (key_algorithms server.host_keys) ≤ 1001 = few_names body (key_algorithms server.host_keys) short.1.0 in (
      fits_kexinit body server.side (key_algorithms server.host_keys) short (is.keeps fault.Random),
      rw (length-map server.host_keys (λ (k : HostKeyData). k.algorithm)) at few,
    )
