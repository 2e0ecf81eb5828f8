use Rattle.std.proofs.Common.{List, ap, ◌∙◌}
use Rattle.std.proofs.lemmas.Result.{IfOk-weaker}
use Rattle.sshcore.specs.Attempts.{attempt_step}
use Rattle.sshcore.specs.ConfigParts.{AttemptData}
use Rattle.sshcore.specs.Step.{asked_in, settled}
use Rattle.sshcore.proofs.AttemptLemmas.{left_next, next_accepted}
use Rattle.sshcore.proofs.state.State.receive_failure.Goals as goal

pub invariant_of-self-clause-accepted : goal.invariant_of-self-clause-accepted
invariant_of-self-clause-accepted g c = next_accepted c.args.methods.now _ _ c.args.self.now.accepted c.next_attempts-self.ensures

pub make_attempt-requires-clause-calm : goal.make_attempt-requires-clause-calm
make_attempt-requires-clause-calm g c =
    ap (λ (l : List AttemptData). asked_in (attempt_step (g.S.Suite.meaning c.args.suite.now) c.args.self.now.session.items l)) (c.next_attempts-self.ensures ∙ left_next c.args.self.now.confirmed c.args.methods.now _) ∙ c.requires.calm

pub returns-clause-gives : goal.returns-clause-gives
returns-clause-gives g c = IfOk-weaker c.make_attempt.result _ _ (λ answers given d.
    given d ∙ ap (λ (l : List AttemptData). settled d (attempt_step (g.S.Suite.meaning c.args.suite.now) c.args.self.now.session.items l)) (c.next_attempts-self.ensures ∙ left_next c.args.self.now.confirmed c.args.methods.now _)) c.make_attempt.ensures.gives
