-- Strictness as a test, and of two configs.

use Rattle.std.proofs.Common.{◌≡◌, ◌↔◌, ℕ, Bool, true, false, List, [], ◌∷◌, ◌++◌, refl, ap, ◌∙◌}
use Rattle.std.specs.List.{Contains}
use Rattle.std.proofs.lemmas.List.{append-nil}
use Rattle.std.proofs.lemmas.List.Elements.{Contains-append_right}
use Rattle.sshmsg.specs.MessageData.{KexInitData}
use Rattle.sshneg.specs.declared.side.Side.{Side}
use Rattle.sshneg.specs.Markers.{IsStrict, is_marker, methods, other, strict_marker}
use Rattle.sshneg.proofs.FirstLemmas.{contains_here, contains_in, in_contains}
use Rattle.sshneg.specs.Strictness.{is_strict, marked_list}

pub strict_test : (flag : Bool) (role : Side) (peer : KexInitData) → (is_strict flag role peer ≡ true) ↔ IsStrict flag role peer
strict_test true role peer = (
  λ e. record { willing = refl; marked = contains_in peer.kex_algorithms (strict_marker (other role)) e },
  λ s. in_contains peer.kex_algorithms (strict_marker (other role)) s.marked,
)
strict_test false role peer = (λ e. cc, λ s. s.willing)

abbrev pub IsMarked : Type 0
IsMarked = (role : Side) → is_marker (strict_marker role) ≡ true

clean : IsMarked → (role : Side) (names : List (List ℕ)) → ((name : List ℕ) → Contains names name → is_marker name ≡ false) → Contains names (strict_marker role) → ⊥
clean marks role names none has = let a : is_marker (strict_marker role) ≡ true = marks role in let b : is_marker (strict_marker role) ≡ false = none (strict_marker role) has in cc

pub config_strict : IsMarked → (flag other_flag : Bool) (role : Side) (names : List (List ℕ)) (peer : KexInitData)
    → ((name : List ℕ) → Contains names name → is_marker name ≡ false) → peer.kex_algorithms ≡ marked_list (other role) other_flag names
    → IsStrict flag role peer ↔ ((flag ≡ true) × (other_flag ≡ true))
config_strict marks flag true role names peer none is = (
  λ s. (s.willing, refl),
  λ p. record { willing = p.0; marked = rw is (Contains-append_right names (strict_marker (other role) ∷ []) _ (contains_here _ [])) },
)
config_strict marks flag false role names peer none is = (
  λ s. let has : Contains names (strict_marker (other role)) = rw (← is) s.marked in absurd (clean marks (other role) names none has),
  λ p. let no : false ≡ true = p.1 in cc,
)

pub config_methods : IsMarked
    → ((marker : List ℕ) (before after : List (List ℕ)) → is_marker marker ≡ true → methods (before ++ marker ∷ after) ≡ methods (before ++ after))
    → ((names : List (List ℕ)) → ((name : List ℕ) → Contains names name → is_marker name ≡ false) → methods names ≡ names)
    → (flag : Bool) (role : Side) (names : List (List ℕ)) → ((name : List ℕ) → Contains names name → is_marker name ≡ false) → methods (marked_list role flag names) ≡ names
config_methods marks added unmarked true role names none =
    added (strict_marker role) names [] (marks role) ∙ (ap (λ (xs : List (List ℕ)). methods xs) (append-nil names) ∙ unmarked names none)
config_methods marks added unmarked false role names none = unmarked names none
