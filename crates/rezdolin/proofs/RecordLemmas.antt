-- Fields that are put one after the other.

use Rattle.std.proofs.Common.{◌≡◌, ◌∙◌, ℕ, ◌+◌, ◌<◌, List, [], ◌∷◌, ◌++◌, ap, append_assoc, get_or, length, map, refl, sym, take}
use Rattle.std.specs.Borrow.{Bor}
use Rattle.std.proofs.lemmas.List.{append-nil, map_more}
use Rattle.sshwire.specs.Types.{string}
use Rattle.rezdolin.specs.Records.{strings}

pub strings_append : (fs gs : List (List ℕ)) → strings (fs ++ gs) ≡ strings fs ++ strings gs
strings_append [] gs = refl
strings_append (f ∷ fs) gs = ap (λ (xs : List ℕ). string f ++ xs) (strings_append fs gs) ∙ sym (append_assoc (string f) (strings fs) (strings gs))

-- one field more
pub put_more : (fs : List (List ℕ)) (f old before after : List ℕ) → before ≡ old ++ strings fs → after ≡ before ++ string f
    → after ≡ old ++ strings (fs ++ f ∷ [])
put_more fs f old before after b a =
    a ∙ (ap (λ (xs : List ℕ). xs ++ string f) b ∙ (append_assoc old (strings fs) (string f)
    ∙ ap (λ (xs : List ℕ). old ++ xs) (ap (λ (xs : List ℕ). strings fs ++ xs) (sym (append-nil (string f))) ∙ sym (strings_append fs (f ∷ [])))))

-- the next of several fields
pub put_next : (fields : List (Bor (List ℕ))) (i : ℕ) (d : Bor (List ℕ)) (old before after : List ℕ) → i < length fields
    → before ≡ old ++ strings (map (λ field. field.now) (take i fields)) → after ≡ before ++ string (get_or fields i d).now
    → after ≡ old ++ strings (map (λ field. field.now) (take (i + 1) fields))
put_next fields i d old before after within b a =
    put_more (map (λ field. field.now) (take i fields)) (get_or fields i d).now old before after b a
    ∙ ap (λ (xs : List (List ℕ)). old ++ strings xs) (sym (map_more (λ field. field.now) fields i d within))

pub two_puts : (f g old a b : List ℕ) → a ≡ old ++ string f → b ≡ a ++ string g → b ≡ old ++ strings (f ∷ g ∷ [])
two_puts f g old a b x y = put_more (f ∷ []) g old a b (put_more [] f old old a (sym (append-nil old)) x) y

pub four_puts : (f g h k old a b c d : List ℕ) → a ≡ old ++ string f → b ≡ a ++ string g → c ≡ b ++ string h → d ≡ c ++ string k
    → d ≡ old ++ strings (f ∷ g ∷ h ∷ k ∷ [])
four_puts f g h k old a b c d x y z w =
    put_more (f ∷ g ∷ h ∷ []) k old c d (put_more (f ∷ g ∷ []) h old b c (two_puts f g old a b x y) z) w

pub three_parts : (fs gs hs : List (List ℕ)) (n a b c : List ℕ) → n ≡ [] → a ≡ n ++ strings fs → b ≡ a ++ strings gs → c ≡ b ++ strings hs
    → c ≡ strings (fs ++ (gs ++ hs))
three_parts fs gs hs n a b c none x y z =
    let first : a ≡ strings fs = x ∙ ap (λ (xs : List ℕ). xs ++ strings fs) none in
    z ∙ (ap (λ (xs : List ℕ). xs ++ strings hs) (y ∙ ap (λ (xs : List ℕ). xs ++ strings gs) first)
    ∙ (append_assoc (strings fs) (strings gs) (strings hs)
    ∙ sym (strings_append fs (gs ++ hs) ∙ ap (λ (xs : List ℕ). strings fs ++ xs) (strings_append gs hs))))
