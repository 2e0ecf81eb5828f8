use Rattle.std.proofs.Common.{ap, ◌∙◌}
use Rattle.std.proofs.lemmas.Result.{IfOk-weaker}
use Rattle.sshcore.specs.EndData.{disconnect_by}
use Rattle.sshcore.proofs.failing.farewell.Goals as goal

pub returns-in-None : goal.returns-in-None
returns-in-None c = c.none.ensures ∙ ap disconnect_by c.in-None.ensures

pub returns-in-Some : goal.returns-in-Some
returns-in-Some c = IfOk-weaker c.message.result _ _ (λ answers is. is ∙ ap disconnect_by c.in-Some.ensures) c.message.ensures
