-- Whether a suite fits a config, list by list and item by item.

use Rattle.std.proofs.Common.{◌≡◌, ℕ, zero, suc, ◌<◌, ◌≤◌, Bool, true, false, not, List, [], ◌∷◌, ◌++◌, cond, get_or, length, map, None, Some, Option, option_map, string_bytes, refl, sym, ap, subst, ◌∙◌, arith}
use Rattle.std.specs.List.{AllByRecursion}
use Rattle.std.specs.Option.{option_or}
use Rattle.std.proofs.lemmas.Bool.{false≢true}
use Rattle.std.proofs.lemmas.List.Folds.{find-append}
use Rattle.sshwire.specs.Types.{AreNames, IsName}
use Rattle.sshpacket.specs.Inventory.{InventoryData}
use Rattle.sshpacket.specs.Suite.{SuiteData}
use Rattle.sshcore.specs.declared.config_fault.ConfigFault.TheVariants as fault
use Rattle.sshcore.specs.declared.config_parts.Attempt as attempt_parts
use Rattle.sshcore.specs.declared.config_parts.ClientParts.{ClientParts}
use Rattle.sshcore.specs.declared.config_parts.HostKey as key_parts
use Rattle.sshcore.specs.declared.config_parts.ServerParts.{ServerParts}
use Rattle.sshcore.specs.declared.config_parts.TheConstants.{PRIVATE_KEY_LIMIT}
use Rattle.sshcore.specs.declared.config_suite_fault.AlgorithmList.TheVariants as algorithms
use Rattle.sshcore.specs.ConfigParts.{ClientData, HostKeyData, ServerData, SideData, key_algorithms}
use Rattle.sshcore.specs.ConfigRules.{IsClient, IsServer}
use Rattle.sshcore.specs.ConfigView.{attempt_data, client_data, host_key_data, server_data, side_data}
use Rattle.sshcore.specs.SuiteFit.{DemandData, IsFit, SuiteFaultData, first_unmet, host_keys_asked, meets, named_in, names_asked, plan_asked, suite_refusal, told_of}

-- the item at a position, of a list of which all items have a property
pub item_of : {X Y : Type 0} (P : Y → Type 0) (view : X → Y) (xs : List X) (i : ℕ) (d : X) → i < length xs → AllByRecursion P (map view xs) → P (view (get_or xs i d))
item_of P view [] i d h all = absurd (omega arith)
item_of P view (x ∷ xs) zero d h all = all.0
item_of P view (x ∷ xs) (suc i) d h all = item_of P view xs i d (omega (arith, h)) all.1

pub item_is : {X Y : Type 0} (P : Y → Type 0) (view : X → Y) (xs : List X) (i : ℕ) (x : X) → i < length xs → x ≡ get_or xs i x → AllByRecursion P (map view xs) → P (view x)
item_is P view xs i x h is all = subst (λ y. P (view y)) (sym is) (item_of P view xs i x h all)

-- the same of the algorithms of host keys
algorithms_named : (keys : List key_parts.HostKey) → AreNames (key_algorithms (map host_key_data keys))
    → AllByRecursion (λ (key : HostKeyData). IsName key.algorithm) (map host_key_data keys)
algorithms_named [] all = tt
algorithms_named (key ∷ keys) all = (all.0, algorithms_named keys all.1)

pub key_named : (keys : List key_parts.HostKey) (i : ℕ) (d : key_parts.HostKey) → i < length keys → AreNames (key_algorithms (map host_key_data keys))
    → IsName (string_bytes (get_or keys i d).algorithm)
key_named keys i d h all = item_of (λ (key : HostKeyData). IsName key.algorithm) host_key_data keys i d h (algorithms_named keys all)

pub key_is_named : (keys : List key_parts.HostKey) (i : ℕ) (x : key_parts.HostKey) → i < length keys → x ≡ get_or keys i x → AreNames (key_algorithms (map host_key_data keys))
    → IsName (string_bytes x.algorithm)
key_is_named keys i x h is all = subst (λ (key : key_parts.HostKey). IsName (string_bytes key.algorithm)) (sym is) (key_named keys i x h all)

-- a demand that is met, before others
met_first : (b : Bool) (d : DemandData) (later : Option DemandData) → b ≡ true → cond (not b) (Some d) later ≡ later
met_first true d later e = refl
met_first false d later e = absurd (false≢true e)

pub met : (m : SuiteData) (i : InventoryData) (d : DemandData) (later : List DemandData) → meets m i d ≡ true → suite_refusal m i (d ∷ later) ≡ suite_refusal m i later
met m i d later e = ap (option_map told_of) (met_first (meets m i d) d (first_unmet m i later) e)

-- demands after others
or_told : (a b : Option DemandData) → option_map told_of (option_or a b) ≡ option_or (option_map told_of a) (option_map told_of b)
or_told None b = refl
or_told (Some d) b = refl

pub in_turn : (m : SuiteData) (i : InventoryData) (ds later : List DemandData) → suite_refusal m i (ds ++ later) ≡ option_or (suite_refusal m i ds) (suite_refusal m i later)
in_turn m i ds later =
    ap (option_map told_of) (find-append (λ d. not (meets m i d)) ds later) ∙ or_told (first_unmet m i ds) (first_unmet m i later)

pub refused_first : (m : SuiteData) (i : InventoryData) (ds later : List DemandData) (f : SuiteFaultData) → Some f ≡ suite_refusal m i ds → Some f ≡ suite_refusal m i (ds ++ later)
refused_first m i ds later f e = sym (in_turn m i ds later ∙ ap (λ (o : Option SuiteFaultData). option_or o (suite_refusal m i later)) (sym e))

pub refused_later : (m : SuiteData) (i : InventoryData) (ds later : List DemandData) → None ≡ suite_refusal m i ds → suite_refusal m i later ≡ suite_refusal m i (ds ++ later)
refused_later m i ds later e = sym (in_turn m i ds later ∙ ap (λ (o : Option SuiteFaultData). option_or o (suite_refusal m i later)) (sym e))

-- the six lists of names
pub names_in_turn : (m : SuiteData) (i : InventoryData) (side : SideData) (host_keys : List (List ℕ)) → suite_refusal m i (names_asked side host_keys)
    ≡ option_or (suite_refusal m i (named_in algorithms.Kex side.kex_algorithms))
    (option_or (suite_refusal m i (named_in algorithms.HostKey host_keys))
    (option_or (suite_refusal m i (named_in algorithms.EncryptionClientToServer side.encryption_client_to_server))
    (option_or (suite_refusal m i (named_in algorithms.EncryptionServerToClient side.encryption_server_to_client))
    (option_or (suite_refusal m i (named_in algorithms.MacClientToServer side.mac_client_to_server))
    (suite_refusal m i (named_in algorithms.MacServerToClient side.mac_server_to_client))))))
names_in_turn m i side host_keys =
    let kex = named_in algorithms.Kex side.kex_algorithms in
    let keys = named_in algorithms.HostKey host_keys in
    let to_server = named_in algorithms.EncryptionClientToServer side.encryption_client_to_server in
    let to_client = named_in algorithms.EncryptionServerToClient side.encryption_server_to_client in
    let mac_to_server = named_in algorithms.MacClientToServer side.mac_client_to_server in
    let mac_to_client = named_in algorithms.MacServerToClient side.mac_server_to_client in
    in_turn m i kex (keys ++ (to_server ++ (to_client ++ (mac_to_server ++ mac_to_client))))
    ∙ ap (option_or (suite_refusal m i kex)) (in_turn m i keys (to_server ++ (to_client ++ (mac_to_server ++ mac_to_client)))
    ∙ ap (option_or (suite_refusal m i keys)) (in_turn m i to_server (to_client ++ (mac_to_server ++ mac_to_client))
    ∙ ap (option_or (suite_refusal m i to_server)) (in_turn m i to_client (mac_to_server ++ mac_to_client)
    ∙ ap (option_or (suite_refusal m i to_client)) (in_turn m i mac_to_server mac_to_client))))

-- a suite that isn't refused fits, and one that is doesn't
none_told : (o : Option DemandData) → None ≡ option_map told_of o → o ≡ None
none_told None e = refl
none_told (Some d) e = absurd (none_some (told_of d) e)
  where
    none_some : (f : SuiteFaultData) → ◌≡◌ {A = Option SuiteFaultData} None (Some f) → ⊥
    none_some f e = cc

both_met : (b : Bool) (d : DemandData) (later : Option DemandData) → cond (not b) (Some d) later ≡ None → (b ≡ true) × (later ≡ None)
both_met true d later e = (refl, e)
both_met false d later e = absurd (some_none d e)
  where
    some_none : (d : DemandData) → ◌≡◌ {A = Option DemandData} (Some d) None → ⊥
    some_none d e = cc

met_all : (m : SuiteData) (i : InventoryData) (ds : List DemandData) → first_unmet m i ds ≡ None → IsFit m i ds
met_all m i [] e = tt
met_all m i (d ∷ ds) e = let first = both_met (meets m i d) d (first_unmet m i ds) e in (first.0, met_all m i ds first.1)

pub fits : (m : SuiteData) (i : InventoryData) (ds : List DemandData) → None ≡ suite_refusal m i ds → IsFit m i ds
fits m i ds e = met_all m i ds (none_told (first_unmet m i ds) e)

all_met : (m : SuiteData) (i : InventoryData) (ds : List DemandData) → IsFit m i ds → suite_refusal m i ds ≡ None
all_met m i [] fit = refl
all_met m i (d ∷ ds) fit = met m i d ds fit.0 ∙ all_met m i ds fit.1

pub fits_not : (m : SuiteData) (i : InventoryData) (ds : List DemandData) (f : SuiteFaultData) → Some f ≡ suite_refusal m i ds → IsFit m i ds → ⊥
fits_not m i ds f e fit = some_none f (e ∙ all_met m i ds fit)
  where
    some_none : (f : SuiteFaultData) → ◌≡◌ {A = Option SuiteFaultData} (Some f) None → ⊥
    some_none f e = cc

-- accepted parts: their names are names
pub client_named : (parts : ClientParts) (client : ClientData) → client_data parts ≡ client → IsClient client
    → AreNames (map string_bytes parts.side.kex_algorithms.items) × AreNames (map string_bytes parts.server_host_key_algorithms.items)
    × AreNames (map string_bytes parts.side.encryption_client_to_server.items) × AreNames (map string_bytes parts.side.encryption_server_to_client.items)
    × AreNames (map string_bytes parts.side.mac_client_to_server.items) × AreNames (map string_bytes parts.side.mac_server_to_client.items)
client_named parts client same is =
    let own : IsClient (client_data parts) = subst (λ (c : ClientData). IsClient c) (sym same) is in
    let all = (own.keeps fault.Name).0 in (all.0, all.1.0, all.1.1.0, all.1.1.1.0, all.1.1.1.1.0, all.1.1.1.1.1.0)

pub server_named : (parts : ServerParts) (server : ServerData) → server_data parts ≡ server → IsServer server
    → AreNames (map string_bytes parts.side.kex_algorithms.items) × AreNames (key_algorithms (map host_key_data parts.host_keys.items))
    × AreNames (map string_bytes parts.side.encryption_client_to_server.items) × AreNames (map string_bytes parts.side.encryption_server_to_client.items)
    × AreNames (map string_bytes parts.side.mac_client_to_server.items) × AreNames (map string_bytes parts.side.mac_server_to_client.items)
server_named parts server same is =
    let own : IsServer (server_data parts) = subst (λ (s : ServerData). IsServer s) (sym same) is in
    let all = (own.keeps fault.Name).0 in (all.0, all.1.0, all.1.1.0, all.1.1.1.0, all.1.1.1.1.0, all.1.1.1.1.1.0)

pub keys_short : (parts : ServerParts) (server : ServerData) → server_data parts ≡ server → IsServer server
    → AllByRecursion (λ (key : HostKeyData). length key.secret ≤ PRIVATE_KEY_LIMIT) (map host_key_data parts.host_keys.items)
keys_short parts server same is =
    let own : IsServer (server_data parts) = subst (λ (s : ServerData). IsServer s) (sym same) is in (own.keeps fault.Blob).0

-- what is refused of a side, where the host key algorithms are these: the first name of its lists that the suite doesn't have
side_judged : (m : SuiteData) (i : InventoryData) (side : SideData) (host_keys : List (List ℕ)) (own found : Option SuiteFaultData)
    → own ≡ suite_refusal m i (named_in algorithms.HostKey host_keys)
    → found ≡ option_or (suite_refusal m i (named_in algorithms.Kex side.kex_algorithms))
    (option_or own
    (option_or (suite_refusal m i (named_in algorithms.EncryptionClientToServer side.encryption_client_to_server))
    (option_or (suite_refusal m i (named_in algorithms.EncryptionServerToClient side.encryption_server_to_client))
    (option_or (suite_refusal m i (named_in algorithms.MacClientToServer side.mac_client_to_server))
    (suite_refusal m i (named_in algorithms.MacServerToClient side.mac_server_to_client))))))
    → found ≡ suite_refusal m i (names_asked side host_keys)
side_judged m i side host_keys own found own-is found-is =
    found-is
    ∙ (ap (λ (o : Option SuiteFaultData). option_or (suite_refusal m i (named_in algorithms.Kex side.kex_algorithms))
    (option_or o
    (option_or (suite_refusal m i (named_in algorithms.EncryptionClientToServer side.encryption_client_to_server))
    (option_or (suite_refusal m i (named_in algorithms.EncryptionServerToClient side.encryption_server_to_client))
    (option_or (suite_refusal m i (named_in algorithms.MacClientToServer side.mac_client_to_server))
    (suite_refusal m i (named_in algorithms.MacServerToClient side.mac_server_to_client))))))) own-is
    ∙ sym (names_in_turn m i side host_keys))

pub client_judged : (m : SuiteData) (i : InventoryData) (parts : ClientParts) (client : ClientData) (own found : Option SuiteFaultData) → client_data parts ≡ client
    → own ≡ suite_refusal m i (named_in algorithms.HostKey (map string_bytes parts.server_host_key_algorithms.items))
    → found ≡ option_or (suite_refusal m i (named_in algorithms.Kex (map string_bytes parts.side.kex_algorithms.items)))
    (option_or own
    (option_or (suite_refusal m i (named_in algorithms.EncryptionClientToServer (map string_bytes parts.side.encryption_client_to_server.items)))
    (option_or (suite_refusal m i (named_in algorithms.EncryptionServerToClient (map string_bytes parts.side.encryption_server_to_client.items)))
    (option_or (suite_refusal m i (named_in algorithms.MacClientToServer (map string_bytes parts.side.mac_client_to_server.items)))
    (suite_refusal m i (named_in algorithms.MacServerToClient (map string_bytes parts.side.mac_server_to_client.items)))))))
    → found ≡ suite_refusal m i (names_asked client.side client.host_key_algorithms)
client_judged m i parts client own found same own-is found-is =
    side_judged m i (side_data parts.side) (map string_bytes parts.server_host_key_algorithms.items) own found own-is found-is
    ∙ ap (λ (c : ClientData). suite_refusal m i (names_asked c.side c.host_key_algorithms)) same

pub server_judged : (m : SuiteData) (i : InventoryData) (parts : ServerParts) (server : ServerData) (own found : Option SuiteFaultData) → server_data parts ≡ server
    → own ≡ suite_refusal m i (named_in algorithms.HostKey (key_algorithms (map host_key_data parts.host_keys.items)))
    → found ≡ option_or (suite_refusal m i (named_in algorithms.Kex (map string_bytes parts.side.kex_algorithms.items)))
    (option_or own
    (option_or (suite_refusal m i (named_in algorithms.EncryptionClientToServer (map string_bytes parts.side.encryption_client_to_server.items)))
    (option_or (suite_refusal m i (named_in algorithms.EncryptionServerToClient (map string_bytes parts.side.encryption_server_to_client.items)))
    (option_or (suite_refusal m i (named_in algorithms.MacClientToServer (map string_bytes parts.side.mac_client_to_server.items)))
    (suite_refusal m i (named_in algorithms.MacServerToClient (map string_bytes parts.side.mac_server_to_client.items)))))))
    → found ≡ suite_refusal m i (names_asked server.side (key_algorithms server.host_keys))
server_judged m i parts server own found same own-is found-is =
    side_judged m i (side_data parts.side) (key_algorithms (map host_key_data parts.host_keys.items)) own found own-is found-is
    ∙ ap (λ (s : ServerData). suite_refusal m i (names_asked s.side (key_algorithms s.host_keys))) same

pub client_keys_judged : (m : SuiteData) (i : InventoryData) (parts : ClientParts) (client : ClientData) (plan : List attempt_parts.Attempt) (found : Option SuiteFaultData)
    → client_data parts ≡ client → plan ≡ parts.plan.items → found ≡ suite_refusal m i (plan_asked 0 (map attempt_data plan)) → found ≡ suite_refusal m i (plan_asked 0 client.plan)
client_keys_judged m i parts client plan found same at e =
    e ∙ (ap (λ xs. suite_refusal m i (plan_asked 0 (map attempt_data xs))) at ∙ ap (λ (c : ClientData). suite_refusal m i (plan_asked 0 c.plan)) same)

pub server_keys_judged : (m : SuiteData) (i : InventoryData) (parts : ServerParts) (server : ServerData) (keys : List key_parts.HostKey) (found : Option SuiteFaultData)
    → server_data parts ≡ server → keys ≡ parts.host_keys.items → found ≡ suite_refusal m i (host_keys_asked 0 (map host_key_data keys))
    → found ≡ suite_refusal m i (host_keys_asked 0 server.host_keys)
server_keys_judged m i parts server keys found same at e =
    e ∙ (ap (λ xs. suite_refusal m i (host_keys_asked 0 (map host_key_data xs))) at ∙ ap (λ (s : ServerData). suite_refusal m i (host_keys_asked 0 s.host_keys)) same)
