use Rattle.std.proofs.Common.{◌≡◌, ◌∷◌, List, ℕ, None, map, sym, ap, subst, ◌∙◌}
use Rattle.std.proofs.lemmas.Result.{IfOk-weaker}
use Rattle.sshcore.specs.Attempts.{attempt_step, own_request}
use Rattle.sshcore.specs.ConfigParts.{AttemptData}
use Rattle.sshcore.specs.ConfigView.{attempt_data}
use Rattle.sshcore.specs.EndData.{Open}
use Rattle.sshcore.specs.MadePayloads.{IsMade}
use Rattle.sshcore.specs.Plan.{first_made}
use Rattle.sshcore.specs.Step.{asked_in, settled}
use Rattle.sshcore.proofs.AttemptLemmas.{left_none, left_some, quiet_request, split_none, split_some}
use Rattle.sshcore.proofs.MadeLemmas.{made_plain, replied_made}
use Rattle.sshcore.proofs.StepLemmas.{calm_attempt}
use Rattle.sshcore.proofs.state.State.make_attempt.Goals as goal

pub returns-in-None-clause-gives : goal.returns-in-None-clause-gives
returns-in-None-clause-gives g c = IfOk-weaker c.fail.result _ _ (λ answers given d.
    given ∙ ap (λ (l : List AttemptData). settled d (attempt_step (g.S.Suite.meaning c.args.suite.now) c.args.self.now.session.items l))
    (sym (left_none c.args.self.now.confirmed _ (split_none c.args.self.now.left.now c.in-None.ensures.cases)))) c.fail.ensures.gives

pub one-requires : goal.one-requires
one-requires g c =
    let m = g.S.Suite.meaning c.args.suite.now in
    let made = first_made c.args.self.now.confirmed (attempt_data c.in-Some.attempt.now) in
    let is : IsMade (own_request m c.args.self.now.session.items made) c.in_ok-request-in-Some.request.items =
    subst (λ (s : List ℕ). IsMade (own_request m s made) c.in_ok-request-in-Some.request.items) c.deref.ensures.value c.in_ok-request-in-Some.ensures in
    made_plain _ _ is (quiet_request m c.args.self.now.session.items made)

pub returns-in_ok-request-in-Some-clause-gives : goal.returns-in_ok-request-in-Some-clause-gives
returns-in_ok-request-in-Some-clause-gives g c =
    let m = g.S.Suite.meaning c.args.suite.now in
    let session : List ℕ = c.args.self.now.session.items in
    let made = first_made c.args.self.now.confirmed (attempt_data c.in-Some.attempt.now) in
    let later = map attempt_data c.in-Some._later.now in
    let same = left_some c.args.self.now.confirmed _ _ _ (split_some c.args.self.now.left.now c.in-Some.attempt.now c.in-Some._later.now c.in-Some.ensures.cases.0) in
    let calm : asked_in (attempt_step m session (made ∷ later)) ≡ None = subst (λ (l : List AttemptData). asked_in (attempt_step m session l) ≡ None) same c.requires.calm in
    let is : IsMade (own_request m session made) c.in_ok-request-in-Some.request.items =
    subst (λ (s : List ℕ). IsMade (own_request m s made) c.in_ok-request-in-Some.request.items) c.deref.ensures.value c.in_ok-request-in-Some.ensures in
    IfOk-weaker c.one.result _ _ (λ answers alone d.
    replied_made (own_request m session made) _ answers _ Open alone is c.requires.open
    ∙ (calm_attempt m d session made later calm ∙ ap (λ (l : List AttemptData). settled d (attempt_step m session l)) (sym same))) c.one.ensures
