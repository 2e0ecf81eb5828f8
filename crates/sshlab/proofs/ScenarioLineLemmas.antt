-- Lines of a scenario, one by one.

use Rattle.std.proofs.Common.{◌≡◌, ◌∙◌, ◌≢◌, ℕ, ◌<◌, List, [], ◌∷◌, ◌++◌, length, refl, sym, subst, ap, arith}
use Rattle.std.specs.Prelude.{IfSome, Option, None, Some}
use Rattle.std.specs.List.{AllByRecursion, AllPairs, Contains, cons_option, filter_map}
use Rattle.std.specs.Option.{option_and_then}
use Rattle.std.proofs.lemmas.List.{append-nil, get_or_append_left, get_or_default, length-append}
use Rattle.std.proofs.lemmas.List.Elements.{filter_map-append}
use Rattle.std.proofs.lemmas.List.Quantifiers.{all_pairs_push}
use Rattle.std.proofs.Math.Seq.{get_or-append_seam}
use Rattle.sshneg.specs.declared.side.Side.{Side}
use Rattle.sshlab.specs.declared.scenario_settings.Setting.{Setting}
use Rattle.sshlab.specs.ScenarioSettings.{setting_in}
use Rattle.sshlab.specs.ScenarioText.{CanBeRead, CanFollow, settings, statement_in, statements_in}
use Rattle.sshlab.specs.Scenarios.{StatementData, statement}

-- the setting that a line makes
abbrev pub made_by : List ℕ → Option (Side × Setting)
made_by line = option_and_then setting_in (statement_in line)

pub statements_more : (ls : List (List ℕ)) (line : List ℕ) → statements_in (ls ++ line ∷ []) ≡ statements_in ls ++ cons_option (statement_in line) []
unfolding statements_in
statements_more ls line = filter_map-append statement_in ls (line ∷ [])

one_setting : (o : Option StatementData) → filter_map setting_in (cons_option o []) ≡ cons_option (option_and_then setting_in o) []
one_setting None = refl
one_setting (Some stated) = refl

pub settings_more : (ls : List (List ℕ)) (line : List ℕ) → settings (ls ++ line ∷ []) ≡ settings ls ++ cons_option (made_by line) []
settings_more ls line =
    ap (filter_map setting_in) (statements_more ls line)
    ∙ (filter_map-append setting_in (statements_in ls) (cons_option (statement_in line) [])
    ∙ ap (λ (xs : List (Side × Setting)). settings ls ++ xs) (one_setting (statement_in line)))

module _ {X : Type 0} (P : X → Type 0) (x : X) where
  all_more : (xs : List X) → AllByRecursion P xs → P x → AllByRecursion P (xs ++ x ∷ [])
  all_more [] all this = (this, tt)
  all_more (y ∷ xs) all this = (all.0, all_more xs all.1 this)

  all_less : (xs : List X) → AllByRecursion P (xs ++ x ∷ []) → P x
  all_less [] all = all.0
  all_less (y ∷ xs) all = all_less xs all.1

abbrev Differ : Side × Setting → Side × Setting → Type 0
Differ one other = one ≢ other

once_more : (xs : List (Side × Setting)) (o : Option (Side × Setting)) → AllPairs Differ xs → IfSome o (λ setting. Contains xs setting → ⊥)
    → AllPairs Differ (xs ++ cons_option o [])
once_more xs None once new = subst (λ (ys : List (Side × Setting)). AllPairs Differ ys) (sym (append-nil xs)) once
once_more xs (Some setting) once new =
    all_pairs_push Differ xs setting once (λ k d within same. new (k, within, get_or_default xs k setting d within ∙ same))

once_less : (xs : List (Side × Setting)) (o : Option (Side × Setting)) → AllPairs Differ (xs ++ cons_option o [])
    → IfSome o (λ setting. Contains xs setting → ⊥)
once_less xs None once = tt
once_less xs (Some setting) once = λ c.
    let last : length xs < length (xs ++ setting ∷ []) = omega (arith, length-append xs (setting ∷ [])) in
    once c.0 (length xs) setting c.1 last
    (get_or_append_left xs (setting ∷ []) setting c.0 c.1 ∙ (c.2 ∙ sym (get_or-append_seam xs setting [] setting)))

-- a line more, which can follow
pub read_more : (ls : List (List ℕ)) (line : List ℕ) → CanBeRead ls → CanFollow (settings ls) line → CanBeRead (ls ++ line ∷ [])
read_more ls line read follows = record {
  forms = all_more (λ l. statement l ≢ None) line ls read.forms follows.form;
  once = subst (λ (xs : List (Side × Setting)). AllPairs Differ xs) (sym (settings_more ls line)) (once_more (settings ls) (made_by line) read.once follows.new);
}

-- a line less
pub read_less : (ls : List (List ℕ)) (line : List ℕ) → CanBeRead (ls ++ line ∷ []) → CanFollow (settings ls) line
read_less ls line read = record {
  form = all_less (λ l. statement l ≢ None) line ls read.forms;
  new = once_less (settings ls) (made_by line) (subst (λ (xs : List (Side × Setting)). AllPairs Differ xs) (settings_more ls line) read.once);
}
