-- What is found in one line more.

use Rattle.std.proofs.Common.{◌≡◌, ◌∙◌, ◌++◌, Bool, List, [], ◌∷◌, Option, Some, None, ℕ, ap, false, length, map, refl, suc, sym, true}
use Rattle.std.specs.Prelude.{◌||◌}
use Rattle.std.specs.List.{cons_option, filter_map, list_any, position, position_or_len}
use Rattle.std.proofs.lemmas.List.{append-nil, map-append}
use Rattle.std.proofs.lemmas.List.Elements.{filter_map-append}

-- what a line gives stands after what the lines before it give
given_more : {W : Type 0} (f : List ℕ → Option (List ℕ)) (now : W → List ℕ) (ls : List W) (l : W) (found : Option (List ℕ)) → f (now l) ≡ found
    → filter_map f (map now (ls ++ l ∷ [])) ≡ filter_map f (map now ls) ++ cons_option found []
given_more f now ls l found e =
    ap (filter_map f) (map-append now ls (l ∷ []))
    ∙ (filter_map-append f (map now ls) (now l ∷ []) ∙ ap (λ (o : Option (List ℕ)). filter_map f (map now ls) ++ cons_option o []) e)

-- a line that gives a key
pub some_more : {V W : Type 0} (f : List ℕ → Option (List ℕ)) (bytes : V → List ℕ) (now : W → List ℕ) (before after : List V) (ls : List W) (l : W) (key : V)
    → map bytes before ≡ filter_map f (map now ls) → f (now l) ≡ Some (bytes key) → after ≡ before ++ key ∷ []
    → map bytes after ≡ filter_map f (map now (ls ++ l ∷ []))
some_more f bytes now before after ls l key e given pushed =
    ap (map bytes) pushed ∙ (map-append bytes before (key ∷ [])
    ∙ (ap (λ (keys : List (List ℕ)). keys ++ bytes key ∷ []) e ∙ sym (given_more f now ls l (Some (bytes key)) given)))

-- a line that gives none
pub none_more : {V W : Type 0} (f : List ℕ → Option (List ℕ)) (bytes : V → List ℕ) (now : W → List ℕ) (before : List V) (ls : List W) (l : W)
    → map bytes before ≡ filter_map f (map now ls) → f (now l) ≡ None
    → map bytes before ≡ filter_map f (map now (ls ++ l ∷ []))
none_more f bytes now before ls l e given =
    e ∙ sym (given_more f now ls l None given ∙ append-nil (filter_map f (map now ls)))

-- one more answer
pub answers_more : {A B C : Type 0} (f : A → C) (now : B → A) (ls : List B) (l : B) (before after : List C) (one : C)
    → before ≡ map f (map now ls) → one ≡ f (now l) → after ≡ before ++ one ∷ []
    → after ≡ map f (map now (ls ++ l ∷ []))
answers_more {A = A} {B = B} {C = C} f now ls l before after one e given pushed =
    pushed
    ∙ (ap (λ (xs : List C). xs ++ one ∷ []) e
    ∙ (ap (λ (x : C). map f (map now ls) ++ x ∷ []) given
    ∙ sym (ap (λ (vs : List A). map f vs) (map-append now ls (l ∷ [])) ∙ map-append f (map now ls) (now l ∷ []))))

or-false : (b : Bool) → (b || false) ≡ (false || b)
or-false true = refl
or-false false = refl

or-assoc : (a b c : Bool) → (a || (b || c)) ≡ ((a || b) || c)
or-assoc true b c = refl
or-assoc false b c = refl

any-more : {A : Type 0} (f : A → Bool) (xs : List A) (x : A) → list_any f (xs ++ x ∷ []) ≡ (list_any f xs || f x)
any-more f [] x = or-false (f x)
any-more f (y ∷ xs) x = ap (λ (b : Bool). f y || b) (any-more f xs x) ∙ or-assoc (f y) (list_any f xs) (f x)

-- one more that may be found
pub found_more : {A B : Type 0} (f : A → Bool) (now : B → A) (ls : List B) (l : B) (before one : Bool)
    → before ≡ list_any f (map now ls) → one ≡ f (now l)
    → (before || one) ≡ list_any f (map now (ls ++ l ∷ []))
found_more {A = A} f now ls l before one e given =
    ap (λ (b : Bool). b || one) e
    ∙ (ap (λ (b : Bool). list_any f (map now ls) || b) given
    ∙ sym (ap (λ (vs : List A). list_any f vs) (map-append now ls (l ∷ [])) ∙ any-more f (map now ls) (now l)))

-- ---- lines that are marked
or_len-map : {A : Type 0} (f : A → Bool) (xs : List A) → position_or_len (λ mark. mark) (map f xs) ≡ position_or_len f xs
or_len-map f [] = refl
or_len-map f (x ∷ xs) = rw (or_len-map f xs) refl

long-map : {A : Type 0} (f : A → Bool) (xs : List A) → length (map f xs) ≡ length xs
long-map f [] = refl
long-map f (x ∷ xs) = ap suc (long-map f xs)

-- the first mark is at the first line that passes
pub position_marks : {A : Type 0} (f : A → Bool) (xs : List A) → position (λ mark. mark) (map f xs) ≡ position f xs
position_marks f xs = rw (or_len-map f xs, long-map f xs) refl
