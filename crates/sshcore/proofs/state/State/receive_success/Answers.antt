use Rattle.std.proofs.Common.{◌≡◌, ◌∙◌, [], refl, sym, ap}
use Rattle.std.proofs.lemmas.Result.{IfOk-weaker}
use Rattle.sshpacket.specs.Stream.{Units}
use Rattle.sshcore.specs.Attempts.{agreed_by, success_by}
use Rattle.sshcore.specs.ConfigView.{attempt_data}
use Rattle.sshcore.specs.EndData.{Authenticated, end_data}
use Rattle.sshcore.specs.ReplyView.{replied}
use Rattle.sshcore.specs.StateData.{StateData, state_data}
use Rattle.sshcore.proofs.AttemptLemmas.{first_none, first_some, left_none, left_success}
use Rattle.sshcore.proofs.state.State.receive_success.Goals as goal

pub returns-in-None-clause-gives : goal.returns-in-None-clause-gives
returns-in-None-clause-gives c = IfOk-weaker c.fail.result _ _ (λ answers given.
    given ∙ ap (success_by (state_data c.args.self.now).known)
    (sym (left_none c.args.self.now.confirmed _ (first_none c.args.self.now.left.now c.first.result c.first.ensures.value c.in-None.is)))) c.fail.ensures.gives

pub returns-in_ok-authenticate-in-Some-clause-gives : goal.returns-in_ok-authenticate-in-Some-clause-gives
returns-in_ok-authenticate-in-Some-clause-gives c =
    let known = (state_data c.args.self.now).known in
    let made = attempt_data c.in-Some.attempt.now in
    let agreed : agreed_by known c.deref.result.now c.deref-in-Some.result.now ≡ agreed_by known made.user made.service = rw (← c.deref.ensures, ← c.deref-in-Some.ensures) refl in
    ap (λ (a : Units). replied a (end_data c.authenticate.new.self.end)) c.none.ensures
    ∙ (ap (replied []) (ap (λ (k : StateData). k.end) c.in_ok-authenticate-in-Some.ensures ∙ ap Authenticated agreed)
    ∙ left_success c.args.self.now.confirmed known _ _ _ (first_some c.args.self.now.left.now c.first.result c.in-Some.attempt c.first.ensures.value c.in-Some.is))
