-- The order of the server's names doesn't matter, and markers are no methods.

use Rattle.std.proofs.Common.{◌≡◌, ℕ, inl, inr, true, false, List, [], ◌∷◌, ◌++◌, Result, Ok, Err, refl, sym, ap, ◌∙◌, ◌↔◌}
use Rattle.std.specs.List.{Contains}
use Rattle.std.proofs.lemmas.Bool.{cases_Bool}
use Rattle.sshmsg.specs.MessageData.{KexInitData}
use Rattle.sshpacket.specs.Suite.{SuiteData}
use Rattle.sshneg.specs.declared.choice.NoCommon.{NoCommon}
use Rattle.sshneg.specs.declared.choice.NoCommon.TheVariants as field
use Rattle.sshneg.specs.declared.side.Side.{Side}
use Rattle.sshneg.specs.declared.side.Side.TheVariants.{Client, Server}
use Rattle.sshneg.specs.Choice.{AreFirstMethods, FirstUsable, HasChoice, IsAlgorithm, IsChoice, IsFirst, IsFirstWithout, IsHostKeyFor, IsKex, IsOnBoth, IsUsable, SameFirst}
use Rattle.sshneg.specs.ChoiceLaw.{OfferAlike, OfferSame}
use Rattle.sshneg.specs.ChoiceReadings.{choice, choice_of_directions}
use Rattle.sshneg.specs.Fields.{AlgorithmsData, name_of}
use Rattle.sshneg.specs.Markers.{is_marker, methods, strict_marker}
use Rattle.sshneg.proofs.ChoiceFacts.{without_complete}
use Rattle.sshneg.proofs.ChoiceLaws.{by_field, choice_complete, choice_sound, without_sound}
use Rattle.sshneg.proofs.FirstLemmas.{contains_after, contains_here}

other_way : (server other : KexInitData) → OfferAlike server other → OfferAlike other server
other_way server other alike = record {
  first = sym alike.first;
  same = λ f n. ((alike.same f n).1, (alike.same f n).0);
}

-- the first that is allowed is so by every rule that allows the same
first_alike : (allowed other : List ℕ → Type 0) → ((n : List ℕ) → allowed n → other n) → ((n : List ℕ) → other n → allowed n)
    → (names : List (List ℕ)) (n : List ℕ) → IsFirst allowed names n → IsFirst other names n
first_alike allowed other there back names n first = record {
  before = first.before;
  after = first.after;
  parts = first.parts;
  is_allowed = there n first.is_allowed;
  none_before = λ k c a. first.none_before k c (back k a);
}

host_key_alike : (m : SuiteData) (server other : KexInitData) → OfferAlike server other → (kex n : List ℕ) → IsHostKeyFor m server kex n → IsHostKeyFor m other kex n
host_key_alike m server other alike kex n is = record { of_server = (alike.same field.HostKey n).0 is.of_server; able = is.able }

usable_alike : (m : SuiteData) (client server other : KexInitData) → OfferAlike server other → (n : List ℕ) → IsUsable m client server n → IsUsable m client other n
usable_alike m client server other alike n is = record {
  of_server = (alike.same field.Kex n).0 is.of_server;
  host_key = is.host_key;
  of_client = is.of_client;
  is_host_key = host_key_alike m server other alike n is.host_key is.is_host_key;
}

firsts_alike : (client server other : KexInitData) → OfferAlike server other → (n : List ℕ) → AreFirstMethods client server n → AreFirstMethods client other n
firsts_alike client server other alike n are = record { of_client = are.of_client; of_server = sym alike.first ∙ are.of_server }

kex_alike : (m : SuiteData) (client server other : KexInitData) → OfferAlike server other → (n : List ℕ) → IsKex m client server n → IsKex m client other n
kex_alike m client server other alike n (SameFirst are) = SameFirst (firsts_alike client server other alike n are)
kex_alike m client server other alike n (FirstUsable none first) =
    let back = other_way server other alike in
    FirstUsable
    (λ k are. none k (firsts_alike client other server back k are))
    (first_alike (IsUsable m client server) (IsUsable m client other) (usable_alike m client server other alike)
    (usable_alike m client other server back) (methods client.kex_algorithms) n first)

common_alike : (client own other : List (List ℕ)) → ((n : List ℕ) → Contains own n ↔ Contains other n) → (n : List ℕ)
    → IsFirst (Contains own) client n → IsFirst (Contains other) client n
common_alike client own other same n first = first_alike (Contains own) (Contains other) (λ k. (same k).0) (λ k. (same k).1) client n first

choice_alike : (m : SuiteData) (client server other : KexInitData) → OfferAlike server other → (a : AlgorithmsData) → IsChoice m client server a → IsChoice m client other a
choice_alike m client server other alike a is = by_field (λ f. IsAlgorithm m client other a.kex f (name_of f a))
    (kex_alike m client server other alike a.kex (is field.Kex))
    (first_alike (IsHostKeyFor m server a.kex) (IsHostKeyFor m other a.kex) (host_key_alike m server other alike a.kex)
    (host_key_alike m other server (other_way server other alike) a.kex) client.server_host_key_algorithms a.host_key (is field.HostKey))
    (common_alike _ _ _ (alike.same field.EncryptionClientToServer) _ (is field.EncryptionClientToServer))
    (common_alike _ _ _ (alike.same field.EncryptionServerToClient) _ (is field.EncryptionServerToClient))
    (common_alike _ _ _ (alike.same field.MacClientToServer) _ (is field.MacClientToServer))
    (common_alike _ _ _ (alike.same field.MacServerToClient) _ (is field.MacServerToClient))
    (common_alike _ _ _ (alike.same field.CompressionClientToServer) _ (is field.CompressionClientToServer))
    (common_alike _ _ _ (alike.same field.CompressionServerToClient) _ (is field.CompressionServerToClient))

both_alike : (client own other : List (List ℕ)) → ((n : List ℕ) → Contains own n ↔ Contains other n)
    → ((n : List ℕ) × IsOnBoth client own n) → (n : List ℕ) × IsOnBoth client other n
both_alike client own other same (n, both) = (n, record { of_client = both.of_client; of_server = (same n).0 both.of_server })

has_alike : (m : SuiteData) (client server other : KexInitData) → OfferAlike server other → (f : NoCommon) → HasChoice m client server f → HasChoice m client other f
has_alike m client server other alike = by_field (λ f. HasChoice m client server f → HasChoice m client other f)
    (λ has. (has.0, kex_alike m client server other alike has.0 has.1))
    (λ has. record {
      kex = has.kex;
      is_kex = kex_alike m client server other alike has.kex has.is_kex;
      host_key = has.host_key;
      of_client = has.of_client;
      is_host_key = host_key_alike m server other alike has.kex has.host_key has.is_host_key;
    })
    (both_alike _ _ _ (alike.same field.EncryptionClientToServer))
    (both_alike _ _ _ (alike.same field.EncryptionServerToClient))
    (both_alike _ _ _ (alike.same field.MacClientToServer))
    (both_alike _ _ _ (alike.same field.MacServerToClient))
    (both_alike _ _ _ (alike.same field.CompressionClientToServer))
    (both_alike _ _ _ (alike.same field.CompressionServerToClient))

without_alike : (m : SuiteData) (client server other : KexInitData) → OfferAlike server other → (f : NoCommon) → IsFirstWithout m client server f
    → IsFirstWithout m client other f
without_alike m client server other alike f first = record {
  before = λ g less. has_alike m client server other alike g (first.before g less);
  without = λ has. first.without (has_alike m client other server (other_way server other alike) f has);
}

order_by : (m : SuiteData) (client server other : KexInitData) → OfferAlike server other → (r : Result AlgorithmsData NoCommon) → choice m client server ≡ r
    → choice m client other ≡ r
order_by m client server other alike (Ok a) e = choice_complete m client other a (choice_alike m client server other alike a (choice_sound m client server a e))
order_by m client server other alike (Err f) e = without_complete m client other f (without_alike m client server other alike f (without_sound m client server f e))

pub order : (m : SuiteData) (client server other : KexInitData) → OfferAlike server other → choice m client server ≡ choice m client other
order m client server other alike = sym (order_by m client server other alike (choice m client server) refl)

-- what the client offers matters by its algorithms alone
pub offered : (m : SuiteData) (client other server : KexInitData) → OfferSame client other → choice m client server ≡ choice m other server
unfolding choice choice_of_directions
offered m client other server same = rw (
  same field.Kex,
  same field.HostKey,
  same field.EncryptionClientToServer,
  same field.EncryptionServerToClient,
  same field.MacClientToServer,
  same field.MacServerToClient,
  same field.CompressionClientToServer,
  same field.CompressionServerToClient,
) refl

-- markers
pub marker : (role : Side) → is_marker (strict_marker role) ≡ true
marker Client = refl
marker Server = refl

pub added : (name : List ℕ) (before after : List (List ℕ)) → is_marker name ≡ true → methods (before ++ name ∷ after) ≡ methods (before ++ after)
added name [] after t = rw t refl
added name (x ∷ xs) after t = elim (cases_Bool (is_marker x)) [
  | inl m ↦ rw m (added name xs after t)
  | inr f ↦ rw f (ap (λ (names : List (List ℕ)). x ∷ names) (added name xs after t))
]

pub unmarked : (names : List (List ℕ)) → ((name : List ℕ) → Contains names name → is_marker name ≡ false) → methods names ≡ names
unmarked [] none = refl
unmarked (x ∷ xs) none =
    let here : is_marker x ≡ false = none x (contains_here x xs) in
    rw here (ap (λ (names : List (List ℕ)). x ∷ names) (unmarked xs (λ n c. none n (contains_after x xs n c))))
