-- The positions of a choice.

use Rattle.std.proofs.Common.{◌≡◌, ℕ, zero, suc, ◌<◌, inl, inr, Bool, true, not, ◌&&◌, List, [], ◌∷◌, length, find, Some, Result, Ok, Err, refl, sym, ap, ◌∙◌, arith, ◌↔◌}
use Rattle.std.specs.List.{Contains, slice_get}
use Rattle.std.proofs.lemmas.Bool.{and_from}
use Rattle.std.proofs.lemmas.List.Elements.{Contains-append_right}
use Rattle.sshwire.specs.Types.{AreNames, IsName}
use Rattle.sshmsg.specs.MessageData.{KexInitData}
use Rattle.sshpacket.specs.Suite.{SuiteData}
use Rattle.sshneg.specs.declared.choice.Chosen.{Chosen}
use Rattle.sshneg.specs.declared.choice.NoCommon.{NoCommon}
use Rattle.sshneg.specs.declared.choice.NoCommon.TheVariants as field
use Rattle.sshneg.specs.Choice.{ArePositions, FirstUsable, IsChoice, IsFirst, IsHostKeyFor, IsKex, IsPosition, IsUsable, SameFirst, ChoiceAnswer, serves}
use Rattle.sshneg.specs.ChoiceLaw.{AreEarliest, IsAllowed, StandsAt}
use Rattle.sshneg.specs.ChoiceReadings.{answer, answered, choice, is_in, is_served, kex_choice, position_in, positions}
use Rattle.sshneg.specs.Fields.{AlgorithmsData, list_of, name_of, position_of}
use Rattle.sshneg.specs.Markers.{is_marker, methods}
use Rattle.sshneg.proofs.ChoiceFacts.{listed, without_complete}
use Rattle.sshneg.proofs.ChoiceLaws.{by_field, choice_complete, choice_sound, without_sound}
use Rattle.sshneg.proofs.ChoiceLemmas.{able_tested, common_complete, find_methods, first_method, host_key_complete, kex_both, kex_sound, method_listed, usable_tested}
use Rattle.sshneg.proofs.FirstLemmas.{before_place, contains_cases, contains_here, contains_none, first_found, found_first, has_position, in_contains, one_position, position_gets}

-- the names stand in the client's lists as sent
pub sent : (m : SuiteData) (client server : KexInitData) (a : AlgorithmsData) → IsChoice m client server a → (f : NoCommon) → Contains (list_of f client) (name_of f a)
sent m client server a is =
    let each = listed m client server a is in
    by_field (λ f. Contains (list_of f client) (name_of f a))
    (method_listed client.kex_algorithms a.kex (each field.Kex).of_client).0
    (each field.HostKey).of_client
    (each field.EncryptionClientToServer).of_client
    (each field.EncryptionServerToClient).of_client
    (each field.MacClientToServer).of_client
    (each field.MacServerToClient).of_client
    (each field.CompressionClientToServer).of_client
    (each field.CompressionServerToClient).of_client

name_among : (names : List (List ℕ)) (n : List ℕ) → AreNames names → Contains names n → IsName n
name_among [] n are c = contains_none n c
name_among (x ∷ xs) n are c = elim (contains_cases x xs n c) [
  | inl same ↦ rw (← same) are.0
  | inr d ↦ name_among xs n are.1 d
]

pub well : (m : SuiteData) (client server : KexInitData) (a : AlgorithmsData) → IsChoice m client server a
    → (f : NoCommon) → AreNames (list_of f client) → IsName (name_of f a)
well m client server a is f are = name_among (list_of f client) (name_of f a) are (sent m client server a is f)

-- what is found is the earliest that passes
earliest_found : (test : List ℕ → Bool) (names : List (List ℕ)) (n : List ℕ) → find test names ≡ Some n → (p : ℕ) → IsPosition names n p
    → (i : ℕ) (k : List ℕ) → i < p → slice_get names i ≡ Some k → test k ≡ true → ⊥
earliest_found test names n e p at i k less gets t =
    let first = found_first test (λ x. test x ≡ true) (λ x. (λ y. y, λ y. y)) names n e in
    let here : p ≡ position_in names n = one_position names n p at in
    let less₁ : i < position_in names n = rw (← here) less in
    first.none_before k (before_place names n i k less₁ gets first.before first.after first.parts) t

kex_earliest : (m : SuiteData) (client server : KexInitData) (n : List ℕ) (p : ℕ) → IsKex m client server n → IsPosition client.kex_algorithms n p
    → (i : ℕ) (k : List ℕ) → i < p → slice_get client.kex_algorithms i ≡ Some k → IsUsable m client server k → ⊥
kex_earliest m client server n p (SameFirst are) at i k less gets usable =
    let unmarked : not (is_marker k) ≡ true = rw ((method_listed server.kex_algorithms k usable.of_server).1) refl in
    earliest_found (λ x. not (is_marker x)) client.kex_algorithms n (sym (first_method client.kex_algorithms) ∙ are.of_client) p at i k less gets unmarked
kex_earliest m client server n p (FirstUsable none first) at i k less gets usable =
    let unmarked : not (is_marker k) ≡ true = rw ((method_listed server.kex_algorithms k usable.of_server).1) refl in
    let test : List ℕ → Bool = λ x. is_in (methods server.kex_algorithms) x && is_served m client server x in
    let found = first_found test (IsUsable m client server) (usable_tested m client server) (methods client.kex_algorithms) n first in
    earliest_found (λ x. not (is_marker x) && test x) client.kex_algorithms n (sym (find_methods test client.kex_algorithms) ∙ found) p at i k less gets
    (and_from _ _ unmarked ((usable_tested m client server k).1 usable))

host_key_earliest : (m : SuiteData) (client server : KexInitData) (kex n : List ℕ) (p : ℕ)
    → IsFirst (IsHostKeyFor m server kex) client.server_host_key_algorithms n → IsPosition client.server_host_key_algorithms n p
    → (i : ℕ) (k : List ℕ) → i < p → slice_get client.server_host_key_algorithms i ≡ Some k → IsHostKeyFor m server kex k → ⊥
host_key_earliest m client server kex n p first at i k less gets is =
    earliest_found (λ x. is_in server.server_host_key_algorithms x && serves (m.need kex) (m.can x)) client.server_host_key_algorithms n
    (host_key_complete m client server kex n first) p at i k less gets ((able_tested m server kex k).1 is)

common_earliest : (client server : List (List ℕ)) (n : List ℕ) (p : ℕ) → IsFirst (Contains server) client n → IsPosition client n p
    → (i : ℕ) (k : List ℕ) → i < p → slice_get client i ≡ Some k → Contains server k → ⊥
common_earliest client server n p first at i k less gets is =
    earliest_found (λ x. is_in server x) client n (common_complete client server n first) p at i k less gets (in_contains server k is)

pub earliest : (m : SuiteData) (client server : KexInitData) (a : AlgorithmsData) (chosen : Chosen) → IsChoice m client server a → ArePositions client a chosen
    → AreEarliest m client server a chosen
earliest m client server a chosen is at = by_field
    (λ f. (i : ℕ) (name : List ℕ) → i < position_of f chosen → slice_get (list_of f client) i ≡ Some name → IsAllowed m client server a.kex f name → ⊥)
    (kex_earliest m client server a.kex chosen.kex (is field.Kex) (at field.Kex))
    (host_key_earliest m client server a.kex a.host_key chosen.host_key (is field.HostKey) (at field.HostKey))
    (common_earliest _ _ _ _ (is field.EncryptionClientToServer) (at field.EncryptionClientToServer))
    (common_earliest _ _ _ _ (is field.EncryptionServerToClient) (at field.EncryptionServerToClient))
    (common_earliest _ _ _ _ (is field.MacClientToServer) (at field.MacClientToServer))
    (common_earliest _ _ _ _ (is field.MacServerToClient) (at field.MacServerToClient))
    (common_earliest _ _ _ _ (is field.CompressionClientToServer) (at field.CompressionClientToServer))
    (common_earliest _ _ _ _ (is field.CompressionServerToClient) (at field.CompressionServerToClient))

-- a name stands at its position
got_within : (names : List (List ℕ)) (i : ℕ) (n : List ℕ) → slice_get names i ≡ Some n → i < length names
got_within [] i n e = cc
got_within (x ∷ xs) zero n e = omega arith
got_within (x ∷ xs) (suc i) n e = let rec : i < length xs = got_within xs i n e in omega arith

position_stands : (names : List (List ℕ)) (n : List ℕ) (p : ℕ) → IsPosition names n p → StandsAt names n p
position_stands names n p at =
    let c : Contains names n = rw at.parts (Contains-append_right at.before (n ∷ at.after) n (contains_here n at.after)) in
    let here : p ≡ position_in names n = one_position names n p at in
    let gets : slice_get names p ≡ Some n = rw here (position_gets names n c) in
    record { within = got_within names p n gets; gets = gets }

pub stands : (client : KexInitData) (a : AlgorithmsData) (chosen : Chosen) → ArePositions client a chosen
    → (f : NoCommon) → StandsAt (list_of f client) (name_of f a) (position_of f chosen)
stands client a chosen at f = position_stands (list_of f client) (name_of f a) (position_of f chosen) (at f)

-- the method that is found stands at its position
pub kex_stands : (m : SuiteData) (client server : KexInitData) (n : List ℕ) (k : ℕ) → kex_choice m client server ≡ Some n
    → k ≡ position_in client.kex_algorithms n → StandsAt client.kex_algorithms n k
kex_stands m client server n k e at =
    let both = kex_both m client server n (kex_sound m client server n e) in
    let c : Contains client.kex_algorithms n = (method_listed client.kex_algorithms n both.of_client).0 in
    rw at (position_stands client.kex_algorithms n (position_in client.kex_algorithms n) (has_position client.kex_algorithms n c))

-- positions are those of the first places
pub are_positions : (m : SuiteData) (client server : KexInitData) (a : AlgorithmsData) → IsChoice m client server a → ArePositions client a (positions client a)
are_positions m client server a is =
    let c = sent m client server a is in
    by_field (λ f. IsPosition (list_of f client) (name_of f a) (position_of f (positions client a)))
    (has_position _ _ (c field.Kex))
    (has_position _ _ (c field.HostKey))
    (has_position _ _ (c field.EncryptionClientToServer))
    (has_position _ _ (c field.EncryptionServerToClient))
    (has_position _ _ (c field.MacClientToServer))
    (has_position _ _ (c field.MacServerToClient))
    (has_position _ _ (c field.CompressionClientToServer))
    (has_position _ _ (c field.CompressionServerToClient))

pub are_those : (client : KexInitData) (a : AlgorithmsData) (chosen : Chosen) → ArePositions client a chosen → chosen ≡ positions client a
are_those client a chosen at = rw (
  ← one_position _ _ _ (at field.Kex),
  ← one_position _ _ _ (at field.HostKey),
  ← one_position _ _ _ (at field.EncryptionClientToServer),
  ← one_position _ _ _ (at field.EncryptionServerToClient),
  ← one_position _ _ _ (at field.MacClientToServer),
  ← one_position _ _ _ (at field.MacServerToClient),
  ← one_position _ _ _ (at field.CompressionClientToServer),
  ← one_position _ _ _ (at field.CompressionServerToClient),
) refl

pub placed : (m : SuiteData) (client server : KexInitData) (a : AlgorithmsData) (chosen : Chosen) → IsChoice m client server a
    → ArePositions client a chosen ↔ (chosen ≡ positions client a)
placed m client server a chosen is = (are_those client a chosen, λ e. rw e (are_positions m client server a is))

-- an answer tells the truth exactly where it is the function's
pub tells : (m : SuiteData) (client server : KexInitData) (r : Result Chosen NoCommon) → ChoiceAnswer m client server r → r ≡ answer m client server
unfolding answer
tells m client server (Ok chosen) (a, is, at) =
    ap (λ (c : Chosen). Ok c) (are_those client a chosen at) ∙ sym (ap (λ (x : Result AlgorithmsData NoCommon). answered client x) (choice_complete m client server a is))
tells m client server (Err f) first = sym (ap (λ (x : Result AlgorithmsData NoCommon). answered client x) (without_complete m client server f first))

told_by : (m : SuiteData) (client server : KexInitData) (r : Result AlgorithmsData NoCommon) → choice m client server ≡ r → ChoiceAnswer m client server (answered client r)
told_by m client server (Ok a) e =
    let is = choice_sound m client server a e in (a, is, are_positions m client server a is)
told_by m client server (Err f) e = without_sound m client server f e

pub told : (m : SuiteData) (client server : KexInitData) → ChoiceAnswer m client server (answer m client server)
unfolding answer
told m client server = told_by m client server (choice m client server) refl

pub told_when : (m : SuiteData) (client server : KexInitData) (r : Result Chosen NoCommon) → r ≡ answer m client server → ChoiceAnswer m client server r
told_when m client server r e = rw e (told m client server)

same_chosen : (x y : Chosen) → ◌≡◌ {A = Result Chosen NoCommon} (Ok x) (Ok y) → x ≡ y
same_chosen x y e = cc

same_field : (f g : NoCommon) → ◌≡◌ {A = Result Chosen NoCommon} (Err f) (Err g) → f ≡ g
same_field f g e = cc

-- the answer has the positions of the names that are chosen, or the field
answered_ok : (client : KexInitData) (r : Result AlgorithmsData NoCommon) (chosen : Chosen) → answered client r ≡ Ok chosen
    → (a : AlgorithmsData) × (r ≡ Ok a) × (chosen ≡ positions client a)
answered_ok client (Ok a) chosen e = let same : positions client a ≡ chosen = same_chosen _ _ e in (a, refl, sym same)
answered_ok client (Err f) chosen e = cc

answered_err : (client : KexInitData) (r : Result AlgorithmsData NoCommon) (f : NoCommon) → answered client r ≡ Err f → r ≡ Err f
answered_err client (Ok a) f e = cc
answered_err client (Err g) f e = let same : g ≡ f = same_field _ _ e in ap (λ (h : NoCommon). Err h) same

pub answers : (m : SuiteData) (client server : KexInitData) (chosen : Chosen)
    → (answer m client server ≡ Ok chosen) ↔ ((a : AlgorithmsData) × (choice m client server ≡ Ok a) × (chosen ≡ positions client a))
unfolding answer
answers m client server chosen = (
  answered_ok client (choice m client server) chosen,
  λ some. rw (some.1, some.2) refl,
)

pub refuses : (m : SuiteData) (client server : KexInitData) (f : NoCommon) → (answer m client server ≡ Err f) ↔ (choice m client server ≡ Err f)
unfolding answer
refuses m client server f = (answered_err client (choice m client server) f, λ e. rw e refl)
