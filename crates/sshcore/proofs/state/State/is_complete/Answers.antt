use Rattle.std.proofs.Common.{sym, ◌∙◌, string_bytes}
use Rattle.std.proofs.lemmas.List.Folds.{list_all-map}
use Rattle.sshcore.specs.StateData.{completed_methods_data}
use Rattle.sshcore.specs.CompletedMethods.{has_completed}
use Rattle.sshcore.proofs.state.State.is_complete.Goals as goal

pub returns : goal.returns
returns c = rw (← c.required.ensures) (c.are_completed.ensures ∙ sym (list_all-map (has_completed (completed_methods_data c.args.self.now.completed)) string_bytes c.required.result.now))
