-- What is chosen for a field, by the standard's words and as a function.

use Rattle.std.proofs.Common.{◌≡◌, ℕ, inl, inr, Bool, true, false, not, ◌&&◌, if◌then◌else◌, List, [], ◌∷◌, find, Option, None, Some, refl, sym, ap, ◌∙◌}
use Rattle.std.specs.List.{Contains, list_any}
use Rattle.std.proofs.lemmas.Bool.{and_from, and_parts, cases_Bool, or_cases, or_left, or_right}
use Rattle.std.proofs.lemmas.Slice.Eq.{bytes_eq-Decides}
use Rattle.sshmsg.specs.MessageData.{KexInitData}
use Rattle.sshpacket.specs.Suite.{SuiteData}
use Rattle.sshneg.specs.Choice.{AreFirstMethods, IsFirst, IsHostKeyFor, IsKex, IsOnBoth, IsUsable, SameFirst, FirstUsable, serves}
use Rattle.sshneg.specs.ChoiceReadings.{first_common, host_key_choice, is_in, is_served, kex_choice, same_first}
use Rattle.sshneg.specs.Markers.{first_name, is_marker, methods, same_name}
use Rattle.sshneg.proofs.FirstLemmas.{Tests, contains_after, contains_cases, contains_here, contains_in, contains_none, first_contained, first_found, found_first, in_both, in_contains, none_found}

-- a name is a method or a marker
method_here : (x : List ℕ) (xs : List (List ℕ)) → is_marker x ≡ false → methods (x ∷ xs) ≡ x ∷ methods xs
method_here x xs f = rw f refl

marker_here : (x : List ℕ) (xs : List (List ℕ)) → is_marker x ≡ true → methods (x ∷ xs) ≡ methods xs
marker_here x xs t = rw t refl

pub method_listed : (names : List (List ℕ)) (n : List ℕ) → Contains (methods names) n → Contains names n × (is_marker n ≡ false)
method_listed [] n c = contains_none n c
method_listed (x ∷ xs) n c = elim (cases_Bool (is_marker x)) [
  | inl t ↦ let d : Contains (methods xs) n = rw (marker_here x xs t) at c in let rest = method_listed xs n d in (contains_after x xs n rest.0, rest.1)
  | inr f ↦
      let here : Contains (x ∷ methods xs) n = rw (method_here x xs f) at c in
      elim (contains_cases x (methods xs) n here) [
        | inl same ↦ (rw (← same) (contains_here x xs), rw (← same) f)
        | inr d ↦ let rest = method_listed xs n d in (contains_after x xs n rest.0, rest.1)
      ]
]

pub listed_method : (names : List (List ℕ)) (n : List ℕ) → Contains names n → is_marker n ≡ false → Contains (methods names) n
listed_method [] n c f = contains_none n c
listed_method (x ∷ xs) n c f = elim (cases_Bool (is_marker x)) [
  | inl t ↦ rw (marker_here x xs t) (elim (contains_cases x xs n c) [
    | inl same ↦ let bad : is_marker n ≡ true = rw (← same) t in cc
    | inr d ↦ listed_method xs n d f
  ])
  | inr g ↦ rw (method_here x xs g) (elim (contains_cases x xs n c) [
    | inl same ↦ rw (← same) (contains_here x (methods xs))
    | inr d ↦ contains_after x (methods xs) n (listed_method xs n d f)
  ])
]

find_more : (test : List ℕ → Bool) (x : List ℕ) (xs : List (List ℕ)) (rest : Option (List ℕ)) → find test xs ≡ rest
    → find test (x ∷ xs) ≡ (if test x then Some x else rest)
find_more test x xs rest e = elim (cases_Bool (test x)) [
  | inl t ↦ rw t refl
  | inr f ↦ rw f e
]

-- to search the methods is to search all names for one that is no marker
pub find_methods : (test : List ℕ → Bool) (names : List (List ℕ)) → find test (methods names) ≡ find (λ n. not (is_marker n) && test n) names
find_methods test [] = refl
find_methods test (x ∷ xs) = elim (cases_Bool (is_marker x)) [
  | inl t ↦ rw t (find_methods test xs)
  | inr f ↦ rw f (find_more test x (methods xs) (find (λ n. not (is_marker n) && test n) xs) (find_methods test xs))
]

pub first_method : (names : List (List ℕ)) → first_name (methods names) ≡ find (λ n. not (is_marker n)) names
first_method [] = refl
first_method (x ∷ xs) = elim (cases_Bool (is_marker x)) [
  | inl t ↦ rw t (first_method xs)
  | inr f ↦ rw f refl
]

-- tests that agree find the same
pub find_alike : (test other : List ℕ → Bool) → ((n : List ℕ) → test n ≡ other n) → (names : List (List ℕ)) → find test names ≡ find other names
find_alike test other same [] = refl
find_alike test other same (x ∷ xs) = rw (same x) (rw (find_alike test other same xs) refl)

-- one that passes is found, or an earlier one
finds_one : (test : List ℕ → Bool) (names : List (List ℕ)) (n : List ℕ) → Contains names n → test n ≡ true → (found : Option (List ℕ))
    → find test names ≡ found → (k : List ℕ) × (find test names ≡ Some k)
finds_one test names n c t None e = let f : test n ≡ false = none_found test names e n c in cc
finds_one test names n c t (Some k) e = (k, e)

pub common_found : (client server : List (List ℕ)) → ((n : List ℕ) × IsOnBoth client server n) → (n : List ℕ) × (first_common client server ≡ Some n)
common_found client server (n, both) =
    finds_one (λ k. is_in server k) client n both.of_client (in_contains server n both.of_server) (first_common client server) refl

pub common_sound : (client server : List (List ℕ)) (n : List ℕ) → first_common client server ≡ Some n → IsFirst (Contains server) client n
common_sound client server n e = found_first (λ k. is_in server k) (Contains server) (in_both server) client n e

pub common_complete : (client server : List (List ℕ)) (n : List ℕ) → IsFirst (Contains server) client n → first_common client server ≡ Some n
common_complete client server n first = first_found (λ k. is_in server k) (Contains server) (in_both server) client n first

pub common_both : (client server : List (List ℕ)) (n : List ℕ) → IsFirst (Contains server) client n → IsOnBoth client server n
common_both client server n first = record {
  of_client = first_contained (Contains server) client n first;
  of_server = first.is_allowed;
}

-- some name of a list passes
any_some : (test : List ℕ → Bool) (names : List (List ℕ)) → list_any test names ≡ true → (n : List ℕ) × Contains names n × (test n ≡ true)
any_some test [] e = cc
any_some test (x ∷ xs) e = elim (or_cases (test x) (list_any test xs) e) [
  | inl t ↦ (x, contains_here x xs, t)
  | inr t ↦ let rest = any_some test xs t in (rest.0, contains_after x xs rest.0 rest.1, rest.2)
]

some_any : (test : List ℕ → Bool) (names : List (List ℕ)) (n : List ℕ) → Contains names n → test n ≡ true → list_any test names ≡ true
some_any test [] n c t = contains_none n c
some_any test (x ∷ xs) n c t = elim (contains_cases x xs n c) [
  | inl same ↦ let here : test x ≡ true = rw same t in or_left _ _ here
  | inr d ↦ or_right _ _ (some_any test xs n d t)
]

-- some host key algorithm of both sides has what the method needs
pub able_tested : (m : SuiteData) (server : KexInitData) (kex : List ℕ)
    → Tests (λ n. is_in server.server_host_key_algorithms n && serves (m.need kex) (m.can n)) (IsHostKeyFor m server kex)
able_tested m server kex n = (
  λ e.
      let both = and_parts _ _ e in
      record { of_server = contains_in server.server_host_key_algorithms n both.0; able = both.1 },
  λ is. and_from _ _ (in_contains server.server_host_key_algorithms n is.of_server) is.able,
)

served_by : (m : SuiteData) (client server : KexInitData) (kex : List ℕ) → is_served m client server kex ≡ true
    → (n : List ℕ) × Contains client.server_host_key_algorithms n × IsHostKeyFor m server kex n
served_by m client server kex e =
    let some = any_some (λ n. is_in server.server_host_key_algorithms n && serves (m.need kex) (m.can n)) client.server_host_key_algorithms e in
    (some.0, some.1, (able_tested m server kex some.0).0 some.2)

by_served : (m : SuiteData) (client server : KexInitData) (kex n : List ℕ) → Contains client.server_host_key_algorithms n → IsHostKeyFor m server kex n
    → is_served m client server kex ≡ true
by_served m client server kex n c is =
    some_any (λ k. is_in server.server_host_key_algorithms k && serves (m.need kex) (m.can k)) client.server_host_key_algorithms n c
    ((able_tested m server kex n).1 is)

-- the test of methods
pub usable_tested : (m : SuiteData) (client server : KexInitData)
    → Tests (λ n. is_in (methods server.kex_algorithms) n && is_served m client server n) (IsUsable m client server)
usable_tested m client server n = (
  λ e.
      let both = and_parts _ _ e in
      let served = served_by m client server n both.1 in
      record {
        of_server = contains_in (methods server.kex_algorithms) n both.0;
        host_key = served.0;
        of_client = served.1;
        is_host_key = served.2;
      },
  λ usable.
      and_from _ _ (in_contains (methods server.kex_algorithms) n usable.of_server)
      (by_served m client server n usable.host_key usable.of_client usable.is_host_key),
)

-- the first methods of both sides are equal exactly where they are one name
same_by : (a b : Option (List ℕ)) → same_name a b ≡ true → (n : List ℕ) × (a ≡ Some n) × (b ≡ Some n)
same_by (Some x) (Some y) e = let is : x ≡ y = (bytes_eq-Decides x y).0 e in (x, refl, ap (λ (n : List ℕ). Some n) (sym is))
same_by (Some x) None e = cc
same_by None b e = cc

by_same : (a b : Option (List ℕ)) (n : List ℕ) → a ≡ Some n → b ≡ Some n → same_name a b ≡ true
by_same a b n ea eb = rw ea (rw eb ((bytes_eq-Decides n n).1 refl))

pub some_same : (a b : List ℕ) → Some a ≡ Some b → a ≡ b
some_same a b e = cc

pub first_contains : (names : List (List ℕ)) (n : List ℕ) → first_name names ≡ Some n → Contains names n
first_contains [] n e = cc
first_contains (x ∷ xs) n e = let same : x ≡ n = some_same x n e in rw (← same) (contains_here x xs)

pub first_same : (client server : KexInitData) → same_first client server ≡ true → (n : List ℕ) × AreFirstMethods client server n
first_same client server e =
    let both = same_by (first_name (methods client.kex_algorithms)) (first_name (methods server.kex_algorithms)) e in
    (both.0, record { of_client = both.1; of_server = both.2 })

pub same_firsts : (client server : KexInitData) (n : List ℕ) → AreFirstMethods client server n → same_first client server ≡ true
same_firsts client server n are =
    by_same (first_name (methods client.kex_algorithms)) (first_name (methods server.kex_algorithms)) n are.of_client are.of_server

-- the key exchange method
pub kex_sound : (m : SuiteData) (client server : KexInitData) (n : List ℕ) → kex_choice m client server ≡ Some n → IsKex m client server n
kex_sound m client server n e = elim (cases_Bool (same_first client server)) [
  | inl t ↦
      let first : first_name (methods client.kex_algorithms) ≡ Some n = rw t at e in
      let are = first_same client server t in
      let same : are.0 ≡ n = some_same are.0 n (sym are.1.of_client ∙ first) in
      SameFirst (rw (← same) are.1)
  | inr f ↦
      let found : find (λ k. is_in (methods server.kex_algorithms) k && is_served m client server k) (methods client.kex_algorithms) ≡ Some n = rw f at e in
      FirstUsable
      (λ k are. let t : same_first client server ≡ true = same_firsts client server k are in cc)
      (found_first (λ k. is_in (methods server.kex_algorithms) k && is_served m client server k) (IsUsable m client server)
      (usable_tested m client server) (methods client.kex_algorithms) n found)
]

pub kex_complete : (m : SuiteData) (client server : KexInitData) (n : List ℕ) → IsKex m client server n → kex_choice m client server ≡ Some n
kex_complete m client server n (SameFirst are) = rw (same_firsts client server n are) are.of_client
kex_complete m client server n (FirstUsable none first) = elim (cases_Bool (same_first client server)) [
  | inl t ↦ let are = first_same client server t in absurd (none are.0 are.1)
  | inr f ↦ rw f (
      first_found (λ k. is_in (methods server.kex_algorithms) k && is_served m client server k) (IsUsable m client server)
      (usable_tested m client server) (methods client.kex_algorithms) n first
      )
]

-- the method is among the client's methods and the server's
pub kex_both : (m : SuiteData) (client server : KexInitData) (n : List ℕ) → IsKex m client server n
    → IsOnBoth (methods client.kex_algorithms) (methods server.kex_algorithms) n
kex_both m client server n (SameFirst are) = record {
  of_client = first_contains (methods client.kex_algorithms) n are.of_client;
  of_server = first_contains (methods server.kex_algorithms) n are.of_server;
}
kex_both m client server n (FirstUsable none first) = record {
  of_client = first_contained (IsUsable m client server) (methods client.kex_algorithms) n first;
  of_server = first.is_allowed.of_server;
}

-- the host key algorithm
pub host_key_sound : (m : SuiteData) (client server : KexInitData) (kex n : List ℕ) → host_key_choice m client server kex ≡ Some n
    → IsFirst (IsHostKeyFor m server kex) client.server_host_key_algorithms n
host_key_sound m client server kex n e =
    found_first (λ k. is_in server.server_host_key_algorithms k && serves (m.need kex) (m.can k)) (IsHostKeyFor m server kex)
    (able_tested m server kex) client.server_host_key_algorithms n e

pub host_key_complete : (m : SuiteData) (client server : KexInitData) (kex n : List ℕ)
    → IsFirst (IsHostKeyFor m server kex) client.server_host_key_algorithms n → host_key_choice m client server kex ≡ Some n
host_key_complete m client server kex n first =
    first_found (λ k. is_in server.server_host_key_algorithms k && serves (m.need kex) (m.can k)) (IsHostKeyFor m server kex)
    (able_tested m server kex) client.server_host_key_algorithms n first

pub host_key_found : (m : SuiteData) (client server : KexInitData) (kex n : List ℕ) → Contains client.server_host_key_algorithms n
    → IsHostKeyFor m server kex n → (k : List ℕ) × (host_key_choice m client server kex ≡ Some k)
host_key_found m client server kex n c is =
    finds_one (λ k. is_in server.server_host_key_algorithms k && serves (m.need kex) (m.can k)) client.server_host_key_algorithms n c
    ((able_tested m server kex n).1 is) (host_key_choice m client server kex) refl
