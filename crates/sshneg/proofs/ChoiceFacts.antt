-- What follows of a choice.

use Rattle.std.proofs.Common.{Some, ◌≡◌, ℕ, ◌≤◌, ◌⊎◌, inl, inr, true, false, List, Result, Ok, Err, refl, ap, ◌∙◌, arith, ltb, ◌↔◌}
use Rattle.std.proofs.lemmas.Bool.{cases_Bool, ltb-false, ltb-true}
use Rattle.sshmsg.specs.MessageData.{KexInitData}
use Rattle.sshpacket.specs.Suite.{SuiteData}
use Rattle.sshneg.specs.declared.choice.NoCommon.{NoCommon}
use Rattle.sshneg.specs.declared.choice.NoCommon.TheVariants as field
use Rattle.sshneg.specs.Choice.{AreFirstMethods, HasChoice, IsChoice, IsFirst, IsFirstWithout, IsHostKeyFor, IsOnBoth, SameFirst, serves}
use Rattle.sshneg.specs.ChoiceLaw.{AreListed}
use Rattle.sshneg.specs.ChoiceReadings.{choice}
use Rattle.sshneg.specs.Fields.{AlgorithmsData, algorithms_of, name_of, order_of}
use Rattle.sshneg.specs.Markers.{IsRightGuess, first_name, is_marker, methods}
use Rattle.sshneg.proofs.ChoiceLaws.{by_field, choice_sound, one_kex, one_order, without_sound}
use Rattle.sshneg.proofs.ChoiceLemmas.{common_both, kex_both, method_listed}
use Rattle.sshneg.proofs.FirstLemmas.{first_contained}

host_key_each : (m : SuiteData) (client server : KexInitData) (kex n : List ℕ) → IsFirst (IsHostKeyFor m server kex) client.server_host_key_algorithms n
    → IsOnBoth client.server_host_key_algorithms server.server_host_key_algorithms n
host_key_each m client server kex n first = record {
  of_client = first_contained (IsHostKeyFor m server kex) client.server_host_key_algorithms n first;
  of_server = first.is_allowed.of_server;
}

pub listed : (m : SuiteData) (client server : KexInitData) (a : AlgorithmsData) → IsChoice m client server a → AreListed client server a
listed m client server a is = by_field (λ f. IsOnBoth (algorithms_of f client) (algorithms_of f server) (name_of f a))
    (kex_both m client server a.kex (is field.Kex))
    (host_key_each m client server a.kex a.host_key (is field.HostKey))
    (common_both _ _ _ (is field.EncryptionClientToServer))
    (common_both _ _ _ (is field.EncryptionServerToClient))
    (common_both _ _ _ (is field.MacClientToServer))
    (common_both _ _ _ (is field.MacServerToClient))
    (common_both _ _ _ (is field.CompressionClientToServer))
    (common_both _ _ _ (is field.CompressionServerToClient))

pub method : (m : SuiteData) (client server : KexInitData) (a : AlgorithmsData) → IsChoice m client server a → is_marker a.kex ≡ false
method m client server a is = (method_listed client.kex_algorithms a.kex (kex_both m client server a.kex (is field.Kex)).of_client).1

pub able : (m : SuiteData) (client server : KexInitData) (a : AlgorithmsData) → IsChoice m client server a → serves (m.need a.kex) (m.can a.host_key) ≡ true
able m client server a is = (is field.HostKey).is_allowed.able

-- each field of a choice has one
pub fields : (m : SuiteData) (client server : KexInitData) (a : AlgorithmsData) → IsChoice m client server a → (f : NoCommon) → HasChoice m client server f
fields m client server a is = by_field (HasChoice m client server)
    (a.kex, is field.Kex)
    record {
      kex = a.kex;
      is_kex = is field.Kex;
      host_key = a.host_key;
      of_client = first_contained (IsHostKeyFor m server a.kex) client.server_host_key_algorithms a.host_key (is field.HostKey);
      is_host_key = (is field.HostKey).is_allowed;
    }
    (a.encryption_client_to_server, common_both _ _ _ (is field.EncryptionClientToServer))
    (a.encryption_server_to_client, common_both _ _ _ (is field.EncryptionServerToClient))
    (a.mac_client_to_server, common_both _ _ _ (is field.MacClientToServer))
    (a.mac_server_to_client, common_both _ _ _ (is field.MacServerToClient))
    (a.compression_client_to_server, common_both _ _ _ (is field.CompressionClientToServer))
    (a.compression_server_to_client, common_both _ _ _ (is field.CompressionServerToClient))

-- the function answers names or a field
answers : (m : SuiteData) (client server : KexInitData) (r : Result AlgorithmsData NoCommon) → choice m client server ≡ r
    → ((a : AlgorithmsData) × (choice m client server ≡ Ok a)) ⊎ ((f : NoCommon) × (choice m client server ≡ Err f))
answers m client server (Ok a) e = inl (a, e)
answers m client server (Err f) e = inr (f, e)

-- the first field without a choice is one
one_without : (m : SuiteData) (client server : KexInitData) (f g : NoCommon) → IsFirstWithout m client server f → IsFirstWithout m client server g → f ≡ g
one_without m client server f g a b = elim (cases_Bool (ltb (order_of f) (order_of g))) [
  | inl t ↦ absurd (a.without (b.before f (ltb-true _ _ t)))
  | inr low ↦ elim (cases_Bool (ltb (order_of g) (order_of f))) [
    | inl t ↦ absurd (b.without (a.before g (ltb-true _ _ t)))
    | inr high ↦
        let h₁ : order_of g ≤ order_of f = ltb-false _ _ low in
        let h₂ : order_of f ≤ order_of g = ltb-false _ _ high in
        one_order f g (omega (arith, h₁, h₂))
  ]
]

pub without_complete : (m : SuiteData) (client server : KexInitData) (f : NoCommon) → IsFirstWithout m client server f → choice m client server ≡ Err f
without_complete m client server f first = elim (answers m client server (choice m client server) refl) [
  | inl (a, e) ↦ absurd (first.without (fields m client server a (choice_sound m client server a e) f))
  | inr (g, e) ↦ e ∙ ap (λ (h : NoCommon). Err h) (one_without m client server g f (without_sound m client server g e) first)
]

pub exists : (m : SuiteData) (client server : KexInitData) → ((f : NoCommon) → HasChoice m client server f) ↔ ((a : AlgorithmsData) × IsChoice m client server a)
exists m client server = (
  λ has. elim (answers m client server (choice m client server) refl) [
    | inl (a, e) ↦ (a, choice_sound m client server a e)
    | inr (g, e) ↦ absurd ((without_sound m client server g e).without (has g))
  ],
  λ some. fields m client server some.0 some.1,
)

pub same_first : (m : SuiteData) (client server : KexInitData) (a : AlgorithmsData) (kex : List ℕ) → AreFirstMethods client server kex
    → IsChoice m client server a → a.kex ≡ kex
same_first m client server a kex are is = one_kex m client server a.kex kex (is field.Kex) (SameFirst are)

pub guessed : (m : SuiteData) (client server : KexInitData) (a : AlgorithmsData) → IsRightGuess client server → IsChoice m client server a
    → first_name (methods client.kex_algorithms) ≡ Some a.kex
guessed m client server a right is =
    let same : a.kex ≡ right.kex = same_first m client server a right.kex record { of_client = right.client_kex; of_server = right.server_kex } is in
    rw same right.client_kex
