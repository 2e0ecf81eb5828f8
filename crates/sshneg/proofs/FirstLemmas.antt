-- The first name of a list that passes a test.

use Rattle.std.proofs.Common.{◌≡◌, ℕ, zero, suc, ◌<◌, ◌⊎◌, inl, inr, Bool, true, false, List, [], ◌∷◌, ◌++◌, length, find, None, Some, refl, sym, ap, ◌∙◌, arith, ◌↔◌}
use Rattle.std.specs.List.{Contains, slice_get}
use Rattle.std.specs.Str.{bytes_eq}
use Rattle.std.proofs.lemmas.Bool.{cases_Bool, or_cases, or_left, or_right}
use Rattle.std.proofs.lemmas.List.Elements.{Contains-append_right}
use Rattle.std.proofs.lemmas.Slice.Eq.{bytes_eq-Decides}
use Rattle.sshneg.specs.Choice.{IsFirst, IsPosition}
use Rattle.sshneg.specs.ChoiceReadings.{is_in, position_in}

-- a name is the first of the list or stands after it
pub contains_cases : (x : List ℕ) (xs : List (List ℕ)) (n : List ℕ) → Contains (x ∷ xs) n → (x ≡ n) ⊎ Contains xs n
contains_cases x xs n (zero, within, e) = inl e
contains_cases x xs n (suc k, within, e) = inr (k, omega (arith, within), e)

pub contains_here : (x : List ℕ) (xs : List (List ℕ)) → Contains (x ∷ xs) x
contains_here x xs = (0, omega arith, refl)

pub contains_after : (x : List ℕ) (xs : List (List ℕ)) (n : List ℕ) → Contains xs n → Contains (x ∷ xs) n
contains_after x xs n c = let within : c.0 < length xs = c.1 in (suc c.0, omega arith, c.2)

pub contains_none : {A : Type 0} → (n : List ℕ) → Contains [] n → A
contains_none n c = let within : c.0 < 0 = c.1 in absurd (omega arith)

-- whether a name stands in a list
pub contains_in : (names : List (List ℕ)) (n : List ℕ) → is_in names n ≡ true → Contains names n
contains_in [] n e = cc
contains_in (x ∷ xs) n e = elim (or_cases (bytes_eq n x) (is_in xs n) e) [
  | inl t ↦ rw ((bytes_eq-Decides n x).0 t) (contains_here x xs)
  | inr t ↦ contains_after x xs n (contains_in xs n t)
]

pub in_contains : (names : List (List ℕ)) (n : List ℕ) → Contains names n → is_in names n ≡ true
in_contains [] n c = contains_none n c
in_contains (x ∷ xs) n c = elim (contains_cases x xs n c) [
  | inl e ↦ or_left _ _ ((bytes_eq-Decides n x).1 (sym e))
  | inr d ↦ or_right _ _ (in_contains xs n d)
]

pub in_both : (names : List (List ℕ)) (n : List ℕ) → (is_in names n ≡ true) ↔ Contains names n
in_both names n = (contains_in names n, in_contains names n)

-- what is found passes the test
found_by : (test : List ℕ → Bool) (x : List ℕ) (xs : List (List ℕ)) (n : List ℕ) (b : Bool) → test x ≡ b → find test (x ∷ xs) ≡ Some n
    → ((x ≡ n) × (test n ≡ true)) ⊎ ((test x ≡ false) × (find test xs ≡ Some n))
found_by test x xs n true t e = let is : Some x ≡ Some n = rw t at e in let same : x ≡ n = cc in inl (same, rw (← same) t)
found_by test x xs n false t e = let is : find test xs ≡ Some n = rw t at e in inr (t, is)

pub found_passes : (test : List ℕ → Bool) (names : List (List ℕ)) (n : List ℕ) → find test names ≡ Some n → test n ≡ true
found_passes test [] n e = cc
found_passes test (x ∷ xs) n e = elim (found_by test x xs n (test x) refl e) [
  | inl p ↦ p.1
  | inr p ↦ found_passes test xs n p.1
]

-- none passes where nothing is found, and nothing is found where none passes
pub none_found : (test : List ℕ → Bool) (names : List (List ℕ)) → find test names ≡ None → (n : List ℕ) → Contains names n → test n ≡ false
none_found test [] e n c = contains_none n c
none_found test (x ∷ xs) e n c = elim (cases_Bool (test x)) [
  | inl t ↦ let is : Some x ≡ None = rw t at e in cc
  | inr f ↦
      let rest : find test xs ≡ None = rw f at e in
      elim (contains_cases x xs n c) [
        | inl same ↦ rw (← same) f
        | inr d ↦ none_found test xs rest n d
      ]
]

-- the first that passes is found after those that don't
pub finds_after : (test : List ℕ → Bool) (before after : List (List ℕ)) (n : List ℕ) → ((k : List ℕ) → Contains before k → test k ≡ false)
    → test n ≡ true → find test (before ++ n ∷ after) ≡ Some n
finds_after test [] after n none t = rw t refl
finds_after test (x ∷ before) after n none t =
    let here : test x ≡ false = none x (contains_here x before) in
    rw here (finds_after test before after n (λ k c. none k (contains_after x before k c)) t)

-- the test says what is allowed
abbrev pub Tests : (List ℕ → Bool) → (List ℕ → Type 0) → Type 0
Tests test allowed = (n : List ℕ) → (test n ≡ true) ↔ allowed n

passes : (test : List ℕ → Bool) (allowed : List ℕ → Type 0) → Tests test allowed → (n : List ℕ) → allowed n → test n ≡ true
passes test allowed is n a = (is n).1 a

fails : (test : List ℕ → Bool) (allowed : List ℕ → Type 0) → Tests test allowed → (n : List ℕ) → (allowed n → ⊥) → test n ≡ false
fails test allowed is n not_allowed = elim (cases_Bool (test n)) [
  | inl t ↦ absurd (not_allowed ((is n).0 t))
  | inr f ↦ f
]

-- the name is the first that is allowed
first_push : (test : List ℕ → Bool) (allowed : List ℕ → Type 0) → Tests test allowed → (x : List ℕ) (xs : List (List ℕ)) (n : List ℕ)
    → test x ≡ false → IsFirst allowed xs n → IsFirst allowed (x ∷ xs) n
first_push test allowed is x xs n f first = record {
  before = x ∷ first.before;
  after = first.after;
  parts = ap (λ (names : List (List ℕ)). x ∷ names) first.parts;
  is_allowed = first.is_allowed;
  none_before = λ k c a. elim (contains_cases x first.before k c) [
    | inl same ↦ let t : test x ≡ true = rw same (passes test allowed is k a) in cc
    | inr d ↦ first.none_before k d a
  ];
}

pub found_first : (test : List ℕ → Bool) (allowed : List ℕ → Type 0) → Tests test allowed → (names : List (List ℕ)) (n : List ℕ)
    → find test names ≡ Some n → IsFirst allowed names n
found_first test allowed is [] n e = cc
found_first test allowed is (x ∷ xs) n e = elim (found_by test x xs n (test x) refl e) [
  | inl p ↦ record {
    before = [];
    after = xs;
    parts = ap (λ (y : List ℕ). y ∷ xs) p.0;
    is_allowed = (is n).0 p.1;
    none_before = λ k c a. contains_none k c;
  }
  | inr p ↦ first_push test allowed is x xs n p.0 (found_first test allowed is xs n p.1)
]

pub first_found : (test : List ℕ → Bool) (allowed : List ℕ → Type 0) → Tests test allowed → (names : List (List ℕ)) (n : List ℕ)
    → IsFirst allowed names n → find test names ≡ Some n
first_found test allowed is names n first = rw first.parts (
    finds_after test first.before first.after n
    (λ k c. fails test allowed is k (first.none_before k c))
    (passes test allowed is n first.is_allowed)
    )

-- the first stands in the list
pub first_contained : (allowed : List ℕ → Type 0) (names : List (List ℕ)) (n : List ℕ) → IsFirst allowed names n → Contains names n
first_contained allowed names n first =
    rw first.parts (Contains-append_right first.before (n ∷ first.after) n (contains_here n first.after))

-- a name that passes isn't one that doesn't
pub other_name : (test : List ℕ → Bool) (n x : List ℕ) → test n ≡ true → test x ≡ false → bytes_eq n x ≡ false
other_name test n x t f = elim (cases_Bool (bytes_eq n x)) [
  | inl e ↦ let same : n ≡ x = (bytes_eq-Decides n x).0 e in let bad : test x ≡ true = rw (← same) t in cc
  | inr d ↦ d
]

-- positions
position_push : (x : List ℕ) (xs : List (List ℕ)) (n : List ℕ) (i : ℕ) → bytes_eq n x ≡ false → IsPosition xs n i → IsPosition (x ∷ xs) n (suc i)
position_push x xs n i differs at = record {
  before = x ∷ at.before;
  after = at.after;
  parts = ap (λ (names : List (List ℕ)). x ∷ names) at.parts;
  counted = ap (λ (k : ℕ). suc k) at.counted;
  none_before = λ c. elim (contains_cases x at.before n c) [
    | inl same ↦ let t : bytes_eq n x ≡ true = (bytes_eq-Decides n x).1 (sym same) in cc
    | inr d ↦ at.none_before d
  ];
}

pub has_position : (names : List (List ℕ)) (n : List ℕ) → Contains names n → IsPosition names n (position_in names n)
has_position [] n c = contains_none n c
has_position (x ∷ xs) n c = elim (cases_Bool (bytes_eq n x)) [
  | inl t ↦ rw t record {
    before = [];
    after = xs;
    parts = ap (λ (y : List ℕ). y ∷ xs) (sym ((bytes_eq-Decides n x).0 t));
    counted = refl;
    none_before = λ c. contains_none n c;
  }
  | inr f ↦
      let rest : Contains xs n = elim (contains_cases x xs n c) [
        | inl same ↦ let t : bytes_eq n x ≡ true = (bytes_eq-Decides n x).1 (sym same) in cc
        | inr d ↦ d
      ] in
      rw f (position_push x xs n (position_in xs n) f (has_position xs n rest))
]

counted_after : (before after : List (List ℕ)) (n : List ℕ) → (Contains before n → ⊥) → position_in (before ++ n ∷ after) n ≡ length before
counted_after [] after n none = rw ((bytes_eq-Decides n n).1 refl) refl
counted_after (x ∷ before) after n none = elim (cases_Bool (bytes_eq n x)) [
  | inl t ↦ let c : Contains (x ∷ before) n = rw ((bytes_eq-Decides n x).0 t) (contains_here x before) in absurd (none c)
  | inr f ↦ rw f (ap (λ (k : ℕ). suc k) (counted_after before after n (λ c. none (contains_after x before n c))))
]

pub one_position : (names : List (List ℕ)) (n : List ℕ) (i : ℕ) → IsPosition names n i → i ≡ position_in names n
one_position names n i at = at.counted ∙ sym (rw at.parts (counted_after at.before at.after n at.none_before))

pub position_gets : (names : List (List ℕ)) (n : List ℕ) → Contains names n → slice_get names (position_in names n) ≡ Some n
position_gets [] n c = contains_none n c
position_gets (x ∷ xs) n c = elim (cases_Bool (bytes_eq n x)) [
  | inl t ↦ rw t (ap (λ (y : List ℕ). Some y) (sym ((bytes_eq-Decides n x).0 t)))
  | inr f ↦ elim (contains_cases x xs n c) [
    | inl same ↦ let t : bytes_eq n x ≡ true = (bytes_eq-Decides n x).1 (sym same) in cc
    | inr d ↦ rw f (position_gets xs n d)
  ]
]

early_by : (x : List ℕ) (before after : List (List ℕ)) (n : List ℕ) (i : ℕ) (k : List ℕ) → i < suc (position_in (before ++ n ∷ after) n)
    → slice_get (x ∷ (before ++ n ∷ after)) i ≡ Some k
    → ((j : ℕ) → j < position_in (before ++ n ∷ after) n → slice_get (before ++ n ∷ after) j ≡ Some k → Contains before k)
    → Contains (x ∷ before) k
early_by x before after n zero k less at rec = let same : x ≡ k = cc in rw (← same) (contains_here x before)
early_by x before after n (suc i) k less at rec = contains_after x before k (rec i (omega (arith, less)) at)

early : (before after : List (List ℕ)) (n : List ℕ) (i : ℕ) (k : List ℕ) → i < position_in (before ++ n ∷ after) n
    → slice_get (before ++ n ∷ after) i ≡ Some k → Contains before k
early [] after n i k less at = let none : i < 0 = rw ((bytes_eq-Decides n n).1 refl) at less in absurd (omega arith)
early (x ∷ before) after n i k less at = elim (cases_Bool (bytes_eq n x)) [
  | inl t ↦ let none : i < 0 = rw t at less in absurd (omega arith)
  | inr f ↦
      let more : i < suc (position_in (before ++ n ∷ after) n) = rw f at less in
      early_by x before after n i k more at (λ j l e. early before after n j k l e)
]

-- a name before the first place where another stands stands before that place's name
pub before_place : (names : List (List ℕ)) (n : List ℕ) (i : ℕ) (k : List ℕ) → i < position_in names n → slice_get names i ≡ Some k
    → (before after : List (List ℕ)) → names ≡ before ++ n ∷ after → Contains before k
before_place names n i k less at before after parts = early before after n i k (rw (← parts) less) (rw (← parts) at)

pub is_in_by : (names : List (List ℕ)) (n : List ℕ) (b : Bool) → ((b ≡ true) ↔ Contains names n) → b ≡ is_in names n
is_in_by names n true is = sym (in_contains names n (is.0 refl))
is_in_by names n false is = elim (cases_Bool (is_in names n)) [
  | inl t ↦ let bad : false ≡ true = is.1 (contains_in names n t) in cc
  | inr f ↦ sym f
]
