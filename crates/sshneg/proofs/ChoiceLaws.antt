-- The choice in all fields: what is found is a choice, and a choice is found.

use Rattle.std.proofs.Common.{◌≡◌, ℕ, zero, suc, ◌<◌, ◌≤◌, ◌⊎◌, inl, inr, List, Option, None, Some, Result, Ok, Err, refl, sym, ap, ◌∙◌, arith, ltb}
use Rattle.std.proofs.lemmas.Bool.{cases_Bool, ltb-false, ltb-true}
use Rattle.sshmsg.specs.MessageData.{KexInitData}
use Rattle.sshpacket.specs.Suite.{SuiteData}
use Rattle.sshneg.specs.declared.choice.NoCommon.{NoCommon}
use Rattle.sshneg.specs.declared.choice.NoCommon.TheVariants as field
use Rattle.sshneg.specs.Choice.{HasChoice, IsChoice, IsFirstWithout, IsHostKeyFor, IsKex, IsOnBoth}
use Rattle.sshneg.specs.ChoiceReadings.{choice, choice_of_directions, first_common, host_key_choice, kex_choice, with_name}
use Rattle.sshneg.specs.Fields.{AlgorithmsData, order_of}
use Rattle.sshneg.proofs.ChoiceLemmas.{common_both, common_complete, common_found, common_sound, host_key_complete, host_key_found, host_key_sound, kex_complete, kex_sound, some_same}
use Rattle.sshneg.proofs.FirstLemmas.{first_contained}

-- what holds of each field holds of all
pub by_field : (P : NoCommon → Type 0) → P field.Kex → P field.HostKey → P field.EncryptionClientToServer → P field.EncryptionServerToClient
    → P field.MacClientToServer → P field.MacServerToClient → P field.CompressionClientToServer → P field.CompressionServerToClient
    → (f : NoCommon) → P f
by_field P p₀ p₁ p₂ p₃ p₄ p₅ p₆ p₇ field.Kex = p₀
by_field P p₀ p₁ p₂ p₃ p₄ p₅ p₆ p₇ field.HostKey = p₁
by_field P p₀ p₁ p₂ p₃ p₄ p₅ p₆ p₇ field.EncryptionClientToServer = p₂
by_field P p₀ p₁ p₂ p₃ p₄ p₅ p₆ p₇ field.EncryptionServerToClient = p₃
by_field P p₀ p₁ p₂ p₃ p₄ p₅ p₆ p₇ field.MacClientToServer = p₄
by_field P p₀ p₁ p₂ p₃ p₄ p₅ p₆ p₇ field.MacServerToClient = p₅
by_field P p₀ p₁ p₂ p₃ p₄ p₅ p₆ p₇ field.CompressionClientToServer = p₆
by_field P p₀ p₁ p₂ p₃ p₄ p₅ p₆ p₇ field.CompressionServerToClient = p₇

-- a name was found in each field
with_ok : (f : NoCommon) (o : Option (List ℕ)) (next : List ℕ → Result AlgorithmsData NoCommon) (a : AlgorithmsData) → with_name f o next ≡ Ok a
    → (n : List ℕ) × (o ≡ Some n) × (next n ≡ Ok a)
with_ok f (Some n) next a e = (n, refl, e)
with_ok f None next a e = cc

ok_same : (x a : AlgorithmsData) → ◌≡◌ {A = Result AlgorithmsData NoCommon} (Ok x) (Ok a) → x ≡ a
ok_same x a e = cc

pub choice_sound : (m : SuiteData) (client server : KexInitData) (a : AlgorithmsData) → choice m client server ≡ Ok a → IsChoice m client server a
unfolding choice choice_of_directions
choice_sound m client server a e =
    let s₀ = with_ok field.Kex (kex_choice m client server) _ a e in
    let s₁ = with_ok field.HostKey (host_key_choice m client server s₀.0) _ a s₀.2 in
    let s₂ = with_ok field.EncryptionClientToServer (first_common client.encryption_client_to_server server.encryption_client_to_server) _ a s₁.2 in
    let s₃ = with_ok field.EncryptionServerToClient (first_common client.encryption_server_to_client server.encryption_server_to_client) _ a s₂.2 in
    let s₄ = with_ok field.MacClientToServer (first_common client.mac_client_to_server server.mac_client_to_server) _ a s₃.2 in
    let s₅ = with_ok field.MacServerToClient (first_common client.mac_server_to_client server.mac_server_to_client) _ a s₄.2 in
    let s₆ = with_ok field.CompressionClientToServer (first_common client.compression_client_to_server server.compression_client_to_server) _ a s₅.2 in
    let s₇ = with_ok field.CompressionServerToClient (first_common client.compression_server_to_client server.compression_server_to_client) _ a s₆.2 in
    rw (← ok_same _ a s₇.2) (by_field _
    (kex_sound m client server s₀.0 s₀.1)
    (host_key_sound m client server s₀.0 s₁.0 s₁.1)
    (common_sound client.encryption_client_to_server server.encryption_client_to_server s₂.0 s₂.1)
    (common_sound client.encryption_server_to_client server.encryption_server_to_client s₃.0 s₃.1)
    (common_sound client.mac_client_to_server server.mac_client_to_server s₄.0 s₄.1)
    (common_sound client.mac_server_to_client server.mac_server_to_client s₅.0 s₅.1)
    (common_sound client.compression_client_to_server server.compression_client_to_server s₆.0 s₆.1)
    (common_sound client.compression_server_to_client server.compression_server_to_client s₇.0 s₇.1))

pub choice_complete : (m : SuiteData) (client server : KexInitData) (a : AlgorithmsData) → IsChoice m client server a → choice m client server ≡ Ok a
unfolding choice choice_of_directions
choice_complete m client server a is = rw (
  kex_complete m client server a.kex (is field.Kex),
  host_key_complete m client server a.kex a.host_key (is field.HostKey),
  common_complete client.encryption_client_to_server server.encryption_client_to_server a.encryption_client_to_server (is field.EncryptionClientToServer),
  common_complete client.encryption_server_to_client server.encryption_server_to_client a.encryption_server_to_client (is field.EncryptionServerToClient),
  common_complete client.mac_client_to_server server.mac_client_to_server a.mac_client_to_server (is field.MacClientToServer),
  common_complete client.mac_server_to_client server.mac_server_to_client a.mac_server_to_client (is field.MacServerToClient),
  common_complete client.compression_client_to_server server.compression_client_to_server a.compression_client_to_server (is field.CompressionClientToServer),
  common_complete client.compression_server_to_client server.compression_server_to_client a.compression_server_to_client (is field.CompressionServerToClient),
) refl

err_same : (f g : NoCommon) → ◌≡◌ {A = Result AlgorithmsData NoCommon} (Err f) (Err g) → f ≡ g
err_same f g e = cc

-- a field is known by its place
field_at : ℕ → NoCommon
field_at zero = field.Kex
field_at (suc zero) = field.HostKey
field_at (suc (suc zero)) = field.EncryptionClientToServer
field_at (suc (suc (suc zero))) = field.EncryptionServerToClient
field_at (suc (suc (suc (suc zero)))) = field.MacClientToServer
field_at (suc (suc (suc (suc (suc zero))))) = field.MacServerToClient
field_at (suc (suc (suc (suc (suc (suc zero)))))) = field.CompressionClientToServer
field_at (suc (suc (suc (suc (suc (suc (suc n))))))) = field.CompressionServerToClient

at_order : (f : NoCommon) → field_at (order_of f) ≡ f
unfolding field_at
at_order f = by_field (λ g. field_at (order_of g) ≡ g) refl refl refl refl refl refl refl refl f

pub one_order : (f g : NoCommon) → order_of f ≡ order_of g → f ≡ g
one_order f g e = sym (at_order f) ∙ (ap (λ (n : ℕ). field_at n) e ∙ at_order g)

one_more : (m : SuiteData) (client server : KexInitData) (g : NoCommon) → ((f : NoCommon) → order_of f < order_of g → HasChoice m client server f)
    → HasChoice m client server g → (f : NoCommon) → order_of f < suc (order_of g) → HasChoice m client server f
one_more m client server g before here f less = elim (cases_Bool (ltb (order_of f) (order_of g))) [
  | inl t ↦ before f (ltb-true _ _ t)
  | inr b ↦
      let low : order_of g ≤ order_of f = ltb-false _ _ b in
      let same : order_of f ≡ order_of g = omega (arith, low, less) in
      rw (one_order f g same) here
]

-- no field before this one is without a choice, or it is the first without one
with_err : (m : SuiteData) (client server : KexInitData) (g : NoCommon) (o : Option (List ℕ)) (next : List ℕ → Result AlgorithmsData NoCommon) (r : NoCommon)
    → ((f : NoCommon) → order_of f < order_of g → HasChoice m client server f)
    → ((n : List ℕ) → o ≡ Some n → HasChoice m client server g)
    → (o ≡ None → HasChoice m client server g → ⊥)
    → with_name g o next ≡ Err r
    → IsFirstWithout m client server r
    ⊎ ((n : List ℕ) × (o ≡ Some n) × (next n ≡ Err r) × ((f : NoCommon) → order_of f < suc (order_of g) → HasChoice m client server f))
with_err m client server g None next r before has hasnt e =
    let same : g ≡ r = err_same g r e in inl (rw (← same) record { before = before; without = hasnt refl })
with_err m client server g (Some n) next r before has hasnt e =
    inr (n, refl, e, λ f less. one_more m client server g before (has n refl) f less)

-- one method at most
pub one_kex : (m : SuiteData) (client server : KexInitData) (kex other : List ℕ) → IsKex m client server kex → IsKex m client server other → kex ≡ other
one_kex m client server kex other a b = some_same kex other (sym (kex_complete m client server kex a) ∙ kex_complete m client server other b)

none_some : (o : Option (List ℕ)) (n : List ℕ) → o ≡ None → o ≡ Some n → ⊥
none_some o n e f = let bad : None ≡ Some n = sym e ∙ f in cc

-- what each field has
kex_has : (m : SuiteData) (client server : KexInitData) (n : List ℕ) → kex_choice m client server ≡ Some n → HasChoice m client server field.Kex
kex_has m client server n e = (n, kex_sound m client server n e)

kex_hasnt : (m : SuiteData) (client server : KexInitData) → kex_choice m client server ≡ None → HasChoice m client server field.Kex → ⊥
kex_hasnt m client server e has = none_some _ has.0 e (kex_complete m client server has.0 has.1)

host_key_has : (m : SuiteData) (client server : KexInitData) (kex n : List ℕ) → IsKex m client server kex → host_key_choice m client server kex ≡ Some n
    → HasChoice m client server field.HostKey
host_key_has m client server kex n is e =
    let first = host_key_sound m client server kex n e in
    record {
      kex = kex;
      is_kex = is;
      host_key = n;
      of_client = first_contained (IsHostKeyFor m server kex) client.server_host_key_algorithms n first;
      is_host_key = first.is_allowed;
    }

host_key_hasnt : (m : SuiteData) (client server : KexInitData) (kex : List ℕ) → IsKex m client server kex → host_key_choice m client server kex ≡ None
    → HasChoice m client server field.HostKey → ⊥
host_key_hasnt m client server kex is e has =
    let same : has.kex ≡ kex = one_kex m client server has.kex kex has.is_kex is in
    let here : IsHostKeyFor m server kex has.host_key = rw (← same) has.is_host_key in
    let found = host_key_found m client server kex has.host_key has.of_client here in
    none_some _ found.0 e found.1

common_has : (client server : List (List ℕ)) (n : List ℕ) → first_common client server ≡ Some n → (k : List ℕ) × IsOnBoth client server k
common_has client server n e = (n, common_both client server n (common_sound client server n e))

common_hasnt : (client server : List (List ℕ)) → first_common client server ≡ None → ((k : List ℕ) × IsOnBoth client server k) → ⊥
common_hasnt client server e has = let found = common_found client server has in none_some _ found.0 e found.1

-- one of the six fields whose lists are searched for a common name
common_err : (m : SuiteData) (client server : KexInitData) (g : NoCommon) (own other : List (List ℕ)) (next : List ℕ → Result AlgorithmsData NoCommon) (r : NoCommon)
    → HasChoice m client server g ≡ ((k : List ℕ) × IsOnBoth own other k)
    → ((f : NoCommon) → order_of f < order_of g → HasChoice m client server f)
    → with_name g (first_common own other) next ≡ Err r
    → IsFirstWithout m client server r
    ⊎ ((n : List ℕ) × (next n ≡ Err r) × ((f : NoCommon) → order_of f < suc (order_of g) → HasChoice m client server f))
common_err m client server g own other next r is before e =
    elim (with_err m client server g (first_common own other) next r before
    (λ n found. rw is (common_has own other n found)) (λ none has. common_hasnt own other none (rw (← is) has)) e) [
      | inl done ↦ inl done
      | inr (n, found, rest, more) ↦ inr (n, rest, more)
    ]

pub without_sound : (m : SuiteData) (client server : KexInitData) (r : NoCommon) → choice m client server ≡ Err r → IsFirstWithout m client server r
unfolding choice choice_of_directions
without_sound m client server r e =
    elim (with_err m client server field.Kex (kex_choice m client server) _ r (λ f less. absurd (omega (arith, less)))
    (kex_has m client server) (kex_hasnt m client server) e) [
      | inl done ↦ done
      | inr (kex, is_kex, e₁, b₁) ↦
          let method = kex_sound m client server kex is_kex in
          elim (with_err m client server field.HostKey (host_key_choice m client server kex) _ r b₁
          (λ n. host_key_has m client server kex n method) (host_key_hasnt m client server kex method) e₁) [
            | inl done ↦ done
            | inr (n₁, is₁, e₂, b₂) ↦ elim (common_err m client server field.EncryptionClientToServer client.encryption_client_to_server server.encryption_client_to_server _ r refl b₂ e₂) [
              | inl done ↦ done
              | inr (n₂, e₃, b₃) ↦ elim (common_err m client server field.EncryptionServerToClient client.encryption_server_to_client server.encryption_server_to_client _ r refl b₃ e₃) [
                | inl done ↦ done
                | inr (n₃, e₄, b₄) ↦ elim (common_err m client server field.MacClientToServer client.mac_client_to_server server.mac_client_to_server _ r refl b₄ e₄) [
                  | inl done ↦ done
                  | inr (n₄, e₅, b₅) ↦ elim (common_err m client server field.MacServerToClient client.mac_server_to_client server.mac_server_to_client _ r refl b₅ e₅) [
                    | inl done ↦ done
                    | inr (n₅, e₆, b₆) ↦ elim (common_err m client server field.CompressionClientToServer client.compression_client_to_server server.compression_client_to_server _ r refl b₆ e₆) [
                      | inl done ↦ done
                      | inr (n₆, e₇, b₇) ↦ elim (common_err m client server field.CompressionServerToClient client.compression_server_to_client server.compression_server_to_client _ r refl b₇ e₇) [
                        | inl done ↦ done
                        | inr (n₇, bad, b₈) ↦ cc
                      ]
                    ]
                  ]
                ]
              ]
            ]
          ]
    ]

pub choice_steps : (m : SuiteData) (client server : KexInitData) (n h : List ℕ) → kex_choice m client server ≡ Some n → host_key_choice m client server n ≡ Some h
    → choice m client server ≡ choice_of_directions client server n h
unfolding choice
choice_steps m client server n h e f = rw (e, f) refl
