use Rattle.std.proofs.Common.{rules, ◌≡◌, Some, string_bytes, ap, ◌∙◌}
use Rattle.std.specs.List.{slice_get}
use Rattle.std.specs.Prelude.{option_map}
use Rattle.std.proofs.lemmas.Option.{slice_get-map}
use Rattle.sshlab.proofs.words.is_first.Goals as goal

pub returns-in-Some : goal.returns-in-Some
returns-in-Some c h =
    let at : slice_get c.args.words.now 0 ≡ Some c.in-Some.word.now = search rules in
    let same : string_bytes c.in-Some.word.now ≡ c.args.name.now = search rules in
    slice_get-map string_bytes c.args.words.now 0 ∙ (ap (option_map string_bytes) at ∙ ap (λ name. Some name) same)
