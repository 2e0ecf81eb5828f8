-- The places of a list: each element with the elements that stand before it. A list is gone through from the front, and
-- the elements passed so far are the first list of each definition.

use Rattle.std.specs.Prelude.{◌≡◌, ℕ, ◌+◌, Bool, true, false, if◌then◌else◌, List, [], ◌∷◌, ◌++◌}

-- the first list is a prefix of the second
pub record IsPrefix {A : Type 0} (xs ys : List A) : Type 0 where
  pub rest : List A
  pub whole_is : ys ≡ xs ++ rest

module _ {A : Type 0} where
  -- a statement is true at each place, of the elements before it and the one there
  abbrev pub EachPlace : (List A → A → Type 0) → List A → List A → Type 0
  EachPlace Q before [] = Unit {0}
  EachPlace Q before (x ∷ xs) = Q before x × EachPlace Q (before ++ x ∷ []) xs

  -- what each place gives, one after another
  abbrev pub flat_places : {B : Type 0} → (List A → A → List B) → List A → List A → List B
  flat_places f before [] = []
  flat_places f before (x ∷ xs) = f before x ++ flat_places f (before ++ x ∷ []) xs

  -- the test holds at some place
  abbrev pub stands : (List A → A → Bool) → List A → List A → Bool
  stands t before [] = false
  stands t before (x ∷ xs) = if t before x then true else stands t (before ++ x ∷ []) xs

  -- what stands at the first place where the test holds, or the default where there is none
  abbrev pub first_where : A → (List A → A → Bool) → List A → List A → A
  first_where default t before [] = default
  first_where default t before (x ∷ xs) = if t before x then x else first_where default t (before ++ x ∷ []) xs

  -- what stands after that place, or nothing where there is none
  abbrev pub after_first : (List A → A → Bool) → List A → List A → List A
  after_first t before [] = []
  after_first t before (x ∷ xs) = if t before x then xs else after_first t (before ++ x ∷ []) xs

  -- at how many places the test holds
  abbrev pub count_places : (List A → A → Bool) → List A → List A → ℕ
  count_places t before [] = 0
  count_places t before (x ∷ xs) = if t before x then count_places t (before ++ x ∷ []) xs + 1 else count_places t (before ++ x ∷ []) xs
