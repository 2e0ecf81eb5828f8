-- What two KEXINITs come to.

use Rattle.std.proofs.Common.{◌≡◌, Bool, true, false, IsTrue, Result, Ok, ap, refl, sym, ◌∙◌}
use Rattle.std.specs.Prelude.{◌↔◌}
use Rattle.sshmsg.specs.MessageData.{KexInitData}
use Rattle.sshneg.specs.declared.choice.Chosen.{Chosen}
use Rattle.sshneg.specs.declared.choice.NoCommon.{NoCommon}
use Rattle.sshneg.specs.Choice.{ArePositions}
use Rattle.sshneg.specs.ChoiceLaw.{StandsAt}
use Rattle.sshneg.specs.Fields.{AlgorithmsData, list_of, name_of, position_of}
use Rattle.sshcore.specs.Chosen.{AreAt}

-- two tests of one fact answer the same
pub same_test : {P : Type 0} (a b : Bool) → IsTrue a ↔ P → (b ≡ true) ↔ P → a ≡ b
same_test true true x y = refl
same_test false false x y = refl
same_test true false x y = sym (y.1 (x.0 refl))
same_test false true x y = let no : false ≡ true = x.1 (y.0 refl) in cc

-- an answer that is the choice's
pub answered : (result answer : Result Chosen NoCommon) (chosen : Chosen) → result ≡ answer → result ≡ Ok chosen → answer ≡ Ok chosen
answered result answer chosen same is = sym same ∙ is

-- the names that stand at the positions of a choice are that choice
pub named : (client : KexInitData) (chosen : Chosen) (made : AlgorithmsData) (choice : Result AlgorithmsData NoCommon)
    → ((a : AlgorithmsData) × (choice ≡ Ok a) × ArePositions client a chosen)
    → ((a : AlgorithmsData) → ArePositions client a chosen → (f : NoCommon) → StandsAt (list_of f client) (name_of f a) (position_of f chosen))
    → ((a : AlgorithmsData) → AreAt client chosen a → made ≡ a) → choice ≡ Ok made
named client chosen made choice found stands at = found.1 ∙ ap Ok (sym (at found.0 (λ f. (stands found.0 found.2 f).gets)))
