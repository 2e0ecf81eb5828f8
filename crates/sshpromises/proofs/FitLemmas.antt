-- What is asked of compatible configs follows from lists and keys that the suite fits.

use Rattle.std.proofs.Common.{◌≡◌, ◌↔◌, ◌<◌, ◌+◌, ⊎_elim, ℕ, zero, suc, Bool, true, false, List, [], ◌∷◌, ◌++◌, Ok, get_or, inl, inr, length, sym, subst, arith}
use Rattle.std.specs.List.{AllByRecursion}
use Rattle.std.specs.Prelude.{Contains}
use Rattle.std.specs.Str.{bytes_eq}
use Rattle.std.proofs.lemmas.Bool.{cases_Bool}
use Rattle.std.proofs.lemmas.List.Elements.{Contains-append_cases}
use Rattle.std.proofs.lemmas.Slice.Eq.{bytes_eq-Decides}
use Prim.{tt}
use Rattle.sshneg.specs.declared.side.Side.TheVariants as side
use Rattle.sshneg.specs.declared.side.Side.{Side}
use Rattle.sshneg.specs.declared.choice.NoCommon.TheVariants as field
use Rattle.sshmsg.specs.MessageData.{KexInitData}
use Rattle.sshneg.specs.Choice.{IsChoice}
use Rattle.sshneg.specs.ChoiceLaw.{AreListed}
use Rattle.sshneg.specs.ChoiceReadings.{choice}
use Rattle.sshneg.specs.Fields.{AlgorithmsData}
use Rattle.sshneg.specs.Markers.{is_marker, methods, strict_marker}
use Rattle.sshpacket.specs.Inventory.{InventoryData}
use Rattle.sshpacket.specs.Suite.{SuiteData}
use Rattle.sshcore.specs.ConfigParts.{AttemptData, ByKey, ByNothing, ByPassword, ClientData, CredentialData, HostKeyData, ServerData, client_offer, key_algorithms, own_marker, server_offer}
use Rattle.sshcore.specs.Exchange.{secret_of}
use Rattle.sshcore.specs.SuiteFit.{DemandData, IsFit, client_asked, client_names, host_keys_asked, key_asked, meets, plan_asked, server_asked, server_names}
use Rattle.sshworld.specs.Held.{IsHeld}

-- what is true of all of a list is true of each of it
all_at : (P : List ℕ → Type 0) (xs : List (List ℕ)) (x : List ℕ) → AllByRecursion P xs → (k : ℕ) → k < length xs → get_or xs k x ≡ x → P x
all_at P [] x all k within is = absurd (omega arith)
all_at P (y ∷ ys) x (p, ps) zero within is = subst P is p
all_at P (y ∷ ys) x (p, ps) (suc k) within is = all_at P ys x ps k (omega arith) is

all_in : (P : List ℕ → Type 0) (xs : List (List ℕ)) (x : List ℕ) → AllByRecursion P xs → Contains xs x → P x
all_in P xs x all h = all_at P xs x all h.0 h.1 h.2

all_after : {X : Type 0} (P : X → Type 0) (xs ys : List X) → AllByRecursion P (xs ++ ys) → AllByRecursion P ys
all_after P [] ys all = all
all_after P (x ∷ xs) ys (p, all) = all_after P xs ys all

-- a marker of one's own is a marker
own_marked : (marks : (role : Side) → is_marker (strict_marker role) ≡ true) (role : Side) (strict : Bool) (name : List ℕ) → Contains (own_marker role strict) name → is_marker name ≡ true
own_marked marks role true name h = all_in (λ (n : List ℕ). is_marker n ≡ true) (strict_marker role ∷ []) name (marks role, tt) h
own_marked marks role false name h = all_in (λ (n : List ℕ). is_marker n ≡ true) [] name tt h

module _ (m : SuiteData) (i : InventoryData) where
  keys_held : (position : ℕ) (keys : List HostKeyData) → AllByRecursion (λ (demand : DemandData). meets m i demand ≡ true) (host_keys_asked position keys)
      → AllByRecursion (λ (key : HostKeyData). m.holds key.algorithm key.secret ≡ true) keys
  keys_held position [] all = tt
  keys_held position (key ∷ keys) (held, all) = (held, keys_held (position + 1) keys all)

  -- the first host key of an algorithm is held
  secret_held_at : (keys : List HostKeyData) (algorithm : List ℕ) → AllByRecursion (λ (key : HostKeyData). m.holds key.algorithm key.secret ≡ true) keys → (k : ℕ) → k < length (key_algorithms keys)
      → get_or (key_algorithms keys) k algorithm ≡ algorithm → m.holds algorithm (secret_of keys algorithm) ≡ true
  unfolding secret_of
  secret_held_at [] algorithm all k within is = absurd (omega arith)
  secret_held_at (key ∷ keys) algorithm (held, all) zero within is =
      let here : bytes_eq algorithm key.algorithm ≡ true = (bytes_eq-Decides algorithm key.algorithm).1 (sym is) in
      rw here (subst (λ (a : List ℕ). m.holds a key.secret ≡ true) is held)
  secret_held_at (key ∷ keys) algorithm (held, all) (suc k) within is = elim (cases_Bool (bytes_eq algorithm key.algorithm)) [
    | inl here ↦
        let same : algorithm ≡ key.algorithm = (bytes_eq-Decides algorithm key.algorithm).0 here in
        rw here (subst (λ (a : List ℕ). m.holds a key.secret ≡ true) (sym same) held)
    | inr off ↦ rw off (secret_held_at keys algorithm all k (omega arith) is)
  ]

  one_held : (position : ℕ) (c : CredentialData) (later : List DemandData) → AllByRecursion (λ (demand : DemandData). meets m i demand ≡ true) (key_asked position c ++ later) → IsHeld m c
  one_held position ByNothing later all = tt
  one_held position (ByPassword password) later all = tt
  one_held position (ByKey algorithm secret ask) later all = all.0

  attempts_held : (position : ℕ) (plan : List AttemptData) → AllByRecursion (λ (demand : DemandData). meets m i demand ≡ true) (plan_asked position plan)
      → AllByRecursion (λ (attempt : AttemptData). IsHeld m attempt.proving) plan
  attempts_held position [] all = tt
  attempts_held position (attempt ∷ plan) all = (
    one_held position attempt.proving (plan_asked (position + 1) plan) all,
    attempts_held (position + 1) plan (all_after (λ (demand : DemandData). meets m i demand ≡ true) (key_asked position attempt.proving) (plan_asked (position + 1) plan) all),
  )

  -- the keys of a client's plan are held, if the suite fits its config
  pub plan_held : (client : ClientData) → IsFit m i (client_asked client) → AllByRecursion (λ (attempt : AttemptData). IsHeld m attempt.proving) client.plan
  plan_held client fit = attempts_held 0 client.plan (all_after (λ (demand : DemandData). meets m i demand ≡ true) (client_names client) (plan_asked 0 client.plan) fit)

  module _ (names : (client server : KexInitData) (a : AlgorithmsData) → (choice m client server ≡ Ok a) ↔ IsChoice m client server a)
      (listed : (client server : KexInitData) (a : AlgorithmsData) → IsChoice m client server a → AreListed client server a) (client : ClientData) (server : ServerData) (a : AlgorithmsData)
      (is : choice m (client_offer client) (server_offer server) ≡ Ok a) where
    both_listed : AreListed (client_offer client) (server_offer server) a
    both_listed = listed (client_offer client) (server_offer server) a ((names (client_offer client) (server_offer server) a).0 is)

    -- the host key of a choice is held, if the suite fits the server's config
    pub host_key_held : IsFit m i (server_asked server) → m.holds a.host_key (secret_of server.host_keys a.host_key) ≡ true
    host_key_held fit =
        let h = (both_listed field.HostKey).of_server in
        secret_held_at server.host_keys a.host_key (keys_held 0 server.host_keys (all_after (λ (demand : DemandData). meets m i demand ≡ true) (server_names server) (host_keys_asked 0 server.host_keys) fit)) h.0 h.1 h.2

    -- the method of a choice stands on the client's list
    pub method_in : (P : List ℕ → Type 0) → ((list : List (List ℕ)) (name : List ℕ) → Contains (methods list) name ↔ (Contains list name × (is_marker name ≡ false)))
        → ((role : Side) → is_marker (strict_marker role) ≡ true) → AllByRecursion P client.side.kex_algorithms → P a.kex
    method_in P method marks all =
        let h = (method (client.side.kex_algorithms ++ own_marker side.Client client.side.strict) a.kex).0 (both_listed field.Kex).of_client in
        ⊎_elim (λ (own : Contains client.side.kex_algorithms a.kex). all_in P client.side.kex_algorithms a.kex all own)
        (λ (marker : Contains (own_marker side.Client client.side.strict) a.kex).
        let bad : is_marker a.kex ≡ true = own_marked marks side.Client client.side.strict a.kex marker in absurd (cc (bad, h.1)))
        (Contains-append_cases client.side.kex_algorithms (own_marker side.Client client.side.strict) a.kex h.0)
