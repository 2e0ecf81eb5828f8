-- The method, searched for among all names of the client's list, with what the common host key algorithms are capable of
-- seen once.

use Rattle.std.proofs.Common.{◌≡◌, ℕ, Bool, true, false, not, ◌&&◌, List, find, inl, inr, refl, sym, ◌∙◌}
use Rattle.std.specs.List.{list_any}
use Rattle.std.proofs.lemmas.Bool.{cases_Bool}
use Rattle.sshmsg.specs.MessageData.{KexInitData}
use Rattle.sshpacket.specs.declared.suite.Capability.{Capability}
use Rattle.sshpacket.specs.declared.suite.Need.{Need}
use Rattle.sshpacket.specs.declared.suite.Need.TheVariants.{Signature, Encryption}
use Rattle.sshpacket.specs.Suite.{SuiteData}
use Rattle.sshneg.specs.Choice.{serves}
use Rattle.sshneg.specs.ChoiceReadings.{is_in, is_served, kex_choice, same_first}
use Rattle.sshneg.specs.Markers.{first_name, is_marker, methods}
use Rattle.sshneg.proofs.ChoiceLemmas.{find_alike, find_methods, first_method, listed_method, method_listed}
use Rattle.sshneg.proofs.FirstLemmas.{contains_in, in_contains}

-- these are the capabilities of the host key algorithms of both sides together
abbrev pub AreTogether : SuiteData → List (List ℕ) → List (List ℕ) → Capability → Type 0
AreTogether m client server common = (need : Need) → serves need common ≡ list_any (λ n. is_in server n && serves need (m.can n)) client

pub together : (m : SuiteData) (client server : List (List ℕ)) (common : Capability)
    → common.signature ≡ list_any (λ n. is_in server n && (m.can n).signature) client
    → common.encryption ≡ list_any (λ n. is_in server n && (m.can n).encryption) client
    → AreTogether m client server common
together m client server common sign encrypt Signature = sign
together m client server common sign encrypt Encryption = encrypt

-- a method stands on a list exactly where it is one of its methods
in_methods : (names : List (List ℕ)) (n : List ℕ) → is_marker n ≡ false → is_in (methods names) n ≡ is_in names n
in_methods names n f = elim (cases_Bool (is_in names n)) [
  | inl t ↦ in_contains (methods names) n (listed_method names n (contains_in names n t) f) ∙ sym t
  | inr g ↦ elim (cases_Bool (is_in (methods names) n)) [
    | inl t ↦
        let bad : is_in names n ≡ true = in_contains names n (method_listed names n (contains_in (methods names) n t)).0 in cc
    | inr h ↦ h ∙ sym g
  ]
]

usable_by : (m : SuiteData) (client server : KexInitData) (common : Capability) → AreTogether m client.server_host_key_algorithms server.server_host_key_algorithms common
    → (n : List ℕ) (b : Bool) → is_marker n ≡ b
    → (not (is_marker n) && (is_in (methods server.kex_algorithms) n && is_served m client server n))
    ≡ (not (is_marker n) && (is_in server.kex_algorithms n && serves (m.need n) common))
usable_by m client server common together n true t = rw t refl
usable_by m client server common together n false f = rw (f, in_methods server.kex_algorithms n f, together (m.need n)) refl

pub kex_searched : (m : SuiteData) (client server : KexInitData) (common : Capability)
    → AreTogether m client.server_host_key_algorithms server.server_host_key_algorithms common → same_first client server ≡ false
    → kex_choice m client server
    ≡ find (λ n. not (is_marker n) && (is_in server.kex_algorithms n && serves (m.need n) common)) client.kex_algorithms
kex_searched m client server common together f =
    let other : kex_choice m client server
    ≡ find (λ n. is_in (methods server.kex_algorithms) n && is_served m client server n) (methods client.kex_algorithms) = rw f refl in
    other ∙ (find_methods (λ n. is_in (methods server.kex_algorithms) n && is_served m client server n) client.kex_algorithms
    ∙ find_alike _ _ (λ n. usable_by m client server common together n (is_marker n) refl) client.kex_algorithms)

pub kex_first : (m : SuiteData) (client server : KexInitData) → same_first client server ≡ true
    → kex_choice m client server ≡ find (λ n. not (is_marker n)) client.kex_algorithms
kex_first m client server t =
    let same : kex_choice m client server ≡ first_name (methods client.kex_algorithms) = rw t refl in
    same ∙ first_method client.kex_algorithms
