use Rattle.std.proofs.Common.{◌≡◌, ◌∙◌, sym, map, string_bytes, true, false}
use Rattle.std.specs.List.{list_all}
use Rattle.std.proofs.lemmas.List.Folds.{list_all-map}
use Rattle.sshneg.specs.ChoiceReadings.{is_in}
use Rattle.sshcore.proofs.config_judge.are_required.Goals as goal

pub returns-then-are_in : goal.returns-then-are_in
returns-then-are_in c =
    let methods = map string_bytes c.args.methods.now in
    let on : list_all (is_in methods) (map string_bytes c.args.required.now) ≡ true = list_all-map (is_in methods) string_bytes c.args.required.now ∙ (sym c.are_in.ensures ∙ c.if-are_in.true) in
    rw on c.are_distinct.ensures

pub returns-else-are_in : goal.returns-else-are_in
returns-else-are_in c =
    let methods = map string_bytes c.args.methods.now in
    let off : list_all (is_in methods) (map string_bytes c.args.required.now) ≡ false = list_all-map (is_in methods) string_bytes c.args.required.now ∙ (sym c.are_in.ensures ∙ c.if-are_in.false) in
    rw off c.if-are_in.false
