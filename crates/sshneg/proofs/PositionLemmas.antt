-- The position at which a search ends is the first place of the name that it finds.

use Rattle.std.proofs.Common.{◌≡◌, ℕ, zero, suc, ◌+◌, ◌<◌, ◌≤◌, inl, inr, Bool, true, false, ◌||◌, List, [], ◌∷◌, ◌++◌, length, take, find, Option, None, Some, Result, Ok, Err, option_map, refl, sym, ap, ◌∙◌, arith, ltb}
use Rattle.std.specs.Borrow.{Bor}
use Rattle.std.specs.List.{list_any, position, position_or_len, slice_get, slice_index_or}
use Rattle.std.specs.Str.{bytes_eq}
use Rattle.std.proofs.lemmas.Bool.{cases_Bool, le-ltb, lt-ltb, ltb-false, ltb-true}
use Rattle.std.proofs.lemmas.List.{take_all, take_more}
use Rattle.std.proofs.lemmas.List.Folds.{list_any-append}
use Rattle.std.proofs.lemmas.Option.{get_or_from_slice_get, slice_get_within}
use Rattle.std.proofs.lemmas.Slice.Eq.{bytes_eq-Decides}
use Rattle.std.specs.Option.{ok_or}
use Rattle.sshmsg.specs.MessageData.{KexInitData}
use Rattle.sshneg.specs.declared.choice.Chosen.{Chosen}
use Rattle.sshneg.specs.declared.choice.NoCommon.{NoCommon}
use Rattle.sshneg.specs.Fields.{AlgorithmsData}
use Rattle.sshneg.specs.ChoiceReadings.{position_in, positioned, positions}
use Rattle.sshneg.proofs.FirstLemmas.{found_passes, other_name}

position_here : {X : Type 0} (p : X → Bool) (x : X) (xs : List X) → p x ≡ true → position p (x ∷ xs) ≡ Some 0
position_here p x xs t = let some : ltb 0 (length (x ∷ xs)) ≡ true = lt-ltb 0 (length (x ∷ xs)) (omega arith) in rw (t, some) refl

position_next : {X : Type 0} (p : X → Bool) (x : X) (xs : List X) → p x ≡ false → position p (x ∷ xs) ≡ option_map (λ k. 1 + k) (position p xs)
position_next p x xs f = elim (cases_Bool (ltb (position_or_len p xs) (length xs))) [
  | inl t ↦
      let less : position_or_len p xs < length xs = ltb-true _ _ t in
      let more : ltb (1 + position_or_len p xs) (length (x ∷ xs)) ≡ true = lt-ltb _ _ (omega (arith, less)) in
      rw (f, more, t) refl
  | inr g ↦
      let low : length xs ≤ position_or_len p xs = ltb-false _ _ g in
      let more : ltb (1 + position_or_len p xs) (length (x ∷ xs)) ≡ false = le-ltb _ _ (omega (arith, low)) in
      rw (f, more, g) refl
]

module _ (test : List ℕ → Bool) where
  found_by : (x : List ℕ) (xs : List (List ℕ)) → test x ≡ false → (found : Option (List ℕ)) → find test xs ≡ found
      → position test xs ≡ option_map (λ n. position_in xs n) found → position test (x ∷ xs) ≡ option_map (λ n. position_in (x ∷ xs) n) found
  found_by x xs f None e rec = position_next test x xs f ∙ ap (λ (o : Option ℕ). option_map (λ k. 1 + k) o) rec
  found_by x xs f (Some n) e rec =
      let t : test n ≡ true = found_passes test xs n e in
      let differs : bytes_eq n x ≡ false = other_name test n x t f in
      let next : position_in (x ∷ xs) n ≡ suc (position_in xs n) = rw differs refl in
      let one : 1 + position_in xs n ≡ position_in (x ∷ xs) n = omega (arith, next) in
      position_next test x xs f ∙ (ap (λ (o : Option ℕ). option_map (λ k. 1 + k) o) rec ∙ ap (λ (k : ℕ). Some k) one)

  pub position_found : (xs : List (List ℕ)) → position test xs ≡ option_map (λ n. position_in xs n) (find test xs)
  position_found [] = refl
  position_found (x ∷ xs) = elim (cases_Bool (test x)) [
    | inl t ↦
        let here : position test (x ∷ xs) ≡ Some 0 = position_here test x xs t in
        let same : bytes_eq x x ≡ true = (bytes_eq-Decides x x).1 refl in
        let found : option_map (λ n. position_in (x ∷ xs) n) (find test (x ∷ xs)) ≡ Some 0 = rw (t, same) refl in
        here ∙ sym found
    | inr f ↦
        let next : find test (x ∷ xs) ≡ find test xs = rw f refl in
        rw next (found_by x xs f (find test xs) refl (position_found xs))
  ]

-- the names up to one that is got
take_got : (xs : List (List ℕ)) (i : ℕ) (x : List ℕ) → slice_get xs i ≡ Some x → take (i + 1) xs ≡ take i xs ++ x ∷ []
take_got xs i x e = take_more xs i x (slice_get_within xs i x e) ∙ ap (λ (y : List ℕ). take i xs ++ y ∷ []) (get_or_from_slice_get xs i x x e)

pub or_false : (b : Bool) → (b || false) ≡ b
or_false true = refl
or_false false = refl

-- a search that goes through the places ends at the first that passes
none_passes : {X : Type 0} (p : X → Bool) (x : X) (xs : List X) → list_any p (x ∷ xs) ≡ false → (p x ≡ false) × (list_any p xs ≡ false)
none_passes p x xs e = elim (cases_Bool (p x)) [
  | inl t ↦ let bad : true ≡ false = rw t at e in cc
  | inr f ↦ let rest : list_any p xs ≡ false = rw f at e in (f, rest)
]

pub position_at : {X : Type 0} (p : X → Bool) (xs : List X) (i : ℕ) (d : X) → list_any p (take i xs) ≡ false → i < length xs
    → p (slice_index_or xs i d) ≡ true → Some i ≡ position p xs
position_at p [] i d none less t = absurd (omega (arith, less))
position_at p (x ∷ xs) zero d none less t = sym (position_here p x xs t)
position_at p (x ∷ xs) (suc i) d none less t =
    let both = none_passes p x (take i xs) none in
    let rec : Some i ≡ position p xs = position_at p xs i d both.1 (omega (arith, less)) t in
    let one : 1 + i ≡ suc i = omega arith in
    sym (position_next p x xs both.0 ∙ (ap (λ (o : Option ℕ). option_map (λ k. 1 + k) o) (sym rec) ∙ ap (λ (k : ℕ). Some k) one))

pub position_none : {X : Type 0} (p : X → Bool) (xs : List X) → list_any p xs ≡ false → None ≡ position p xs
position_none p [] none = refl
position_none p (x ∷ xs) none =
    let both = none_passes p x xs none in
    let rec : None ≡ position p xs = position_none p xs both.1 in
    sym (position_next p x xs both.0 ∙ ap (λ (o : Option ℕ). option_map (λ k. 1 + k) o) (sym rec))

pub position_nowhere : {X : Type 0} (p : X → Bool) (xs : List X) (i : ℕ) → length xs ≤ i → list_any p (take i xs) ≡ false → None ≡ position p xs
position_nowhere {X} p xs i all none = position_none p xs (sym (ap (λ (ys : List X). list_any p ys) (take_all i xs all)) ∙ none)

-- the name that is got at a position
pub got_name : (names : List (List ℕ)) (i : ℕ) (o : Option (Bor (List ℕ))) (x : Bor (List ℕ)) → option_map (λ name. name.now) o ≡ slice_get names i
    → o ≡ Some x → slice_get names i ≡ Some x.now
got_name names i o x e is = sym e ∙ ap (λ (r : Option (Bor (List ℕ))). option_map (λ name. name.now) r) is

pub is_at : (names : List (List ℕ)) (i : ℕ) (name : List ℕ) → slice_get names i ≡ Some name → name ≡ slice_index_or names i name
is_at names i name e = sym (get_or_from_slice_get names i name name e)

pub position_item : (p : List ℕ → Bool) (xs : List (List ℕ)) (i : ℕ) (x : List ℕ) → slice_get xs i ≡ Some x → list_any p (take i xs) ≡ false
    → p x ≡ true → Some i ≡ position p xs
position_item p xs i x e none t = position_at p xs i x none (slice_get_within xs i x e) (rw (← is_at xs i x e) t)

-- one more name that doesn't pass, or does
pub none_more : (p : List ℕ → Bool) (xs : List (List ℕ)) (i : ℕ) (x : List ℕ) → slice_get xs i ≡ Some x → list_any p (take i xs) ≡ false
    → p x ≡ false → list_any p (take (i + 1) xs) ≡ false
none_more p xs i x e none f = ap (λ (ys : List (List ℕ)). list_any p ys) (take_got xs i x e) ∙ (list_any-append p (take i xs) (x ∷ []) ∙ rw (none, f) refl)

pub any_more : (p : List ℕ → Bool) (xs : List (List ℕ)) (i : ℕ) (x : List ℕ) → slice_get xs i ≡ Some x → (b : Bool) → b ≡ list_any p (take i xs)
    → (b || p x) ≡ list_any p (take (i + 1) xs)
any_more p xs i x e b is =
    let one : list_any p (x ∷ []) ≡ p x = or_false (p x) in
    rw is (sym (ap (λ (ys : List (List ℕ)). list_any p ys) (take_got xs i x e) ∙ (list_any-append p (take i xs) (x ∷ []) ∙ rw one refl)))

-- the position of what was found, or the field
pub found_or : (f : NoCommon) (names : List (List ℕ)) (o : Option (List ℕ)) → ok_or (option_map (λ n. position_in names n) o) f ≡ positioned f names o
found_or f names (Some n) = refl
found_or f names None = refl

-- what was found, at its position
pub record Found (o : Option (List ℕ)) (names : List (List ℕ)) (k : ℕ) : Type 0 where
  pub name : List ℕ
  pub is : o ≡ Some name
  pub at : k ≡ position_in names name

pub found_ok : (f : NoCommon) (names : List (List ℕ)) (o : Option (List ℕ)) (k : ℕ) → positioned f names o ≡ Ok k → Found o names k
found_ok f names (Some n) k e = record { name = n; is = refl; at = cc }
found_ok f names None k e = cc

pub found_err : (f g : NoCommon) (names : List (List ℕ)) (o : Option (List ℕ)) → positioned f names o ≡ Err g → (o ≡ None) × (f ≡ g)
found_err f g names (Some n) e = cc
found_err f g names None e = (refl, cc)

-- positions are known field by field
pub all_positions : (client : KexInitData) (a : AlgorithmsData) (chosen : Chosen) → chosen.kex ≡ position_in client.kex_algorithms a.kex
    → chosen.host_key ≡ position_in client.server_host_key_algorithms a.host_key
    → chosen.encryption_client_to_server ≡ position_in client.encryption_client_to_server a.encryption_client_to_server
    → chosen.encryption_server_to_client ≡ position_in client.encryption_server_to_client a.encryption_server_to_client
    → chosen.mac_client_to_server ≡ position_in client.mac_client_to_server a.mac_client_to_server
    → chosen.mac_server_to_client ≡ position_in client.mac_server_to_client a.mac_server_to_client
    → chosen.compression_client_to_server ≡ position_in client.compression_client_to_server a.compression_client_to_server
    → chosen.compression_server_to_client ≡ position_in client.compression_server_to_client a.compression_server_to_client
    → ◌≡◌ {A = Result Chosen NoCommon} (Ok chosen) (Ok (positions client a))
all_positions client a chosen e₀ e₁ e₂ e₃ e₄ e₅ e₆ e₇ = rw (← e₀, ← e₁, ← e₂, ← e₃, ← e₄, ← e₅, ← e₆, ← e₇) refl
