use Rattle.std.proofs.Common.{◌∙◌, sym, ap, map, string_bytes}
use Rattle.std.specs.List.{list_all}
use Rattle.std.proofs.lemmas.List.Folds.{list_all-map}
use Rattle.sshcore.specs.CompletedMethods.{has_completed}
use Rattle.sshworld.specs.JudgedView.{progress_completed}
use Rattle.sshworld.proofs.progress.Progress.is_complete.Goals as goal

pub returns : goal.returns
returns c =
    c.are_completed.ensures
    ∙ (sym (list_all-map (has_completed (progress_completed c.args.self.now)) string_bytes c.deref.result.now)
    ∙ ap (λ l. list_all (has_completed (progress_completed c.args.self.now)) (map string_bytes l)) c.deref.ensures.value
    ∙ ap (λ s. list_all (has_completed (progress_completed c.args.self.now)) s.required) c.parts.ensures.same)
