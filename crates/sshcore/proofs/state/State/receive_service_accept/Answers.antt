use Rattle.std.proofs.Common.{◌≡◌, Bool, true, false, ap, refl, cond, ◌∙◌}
use Rattle.std.specs.Prelude.{not}
use Rattle.std.specs.Str.{bytes_eq}
use Rattle.std.proofs.lemmas.Result.{IfOk-weaker}
use Rattle.sshcore.specs.declared.end.Fault.TheVariants as fault
use Rattle.sshcore.specs.Attempts.{attempt_step}
use Rattle.sshcore.specs.EndData.{fails}
use Rattle.sshcore.specs.StateData.{state_data}
use Rattle.sshcore.specs.Step.{AtOnce, Step, asked_in, settled}
use Rattle.sshcore.specs.Work.{userauth}
use Rattle.sshcore.proofs.state.State.receive_service_accept.Goals as goal

-- the step where the service isn't the one of authentication, and where it is
off : (b : Bool) (x y : Step) → true ≡ not b → y ≡ cond b x y
off true x y e = absurd cc
off false x y e = refl

on : (b : Bool) (x y : Step) → false ≡ not b → x ≡ cond b x y
on true x y e = refl
on false x y e = absurd cc

pub returns-then-ne-clause-gives : goal.returns-then-ne-clause-gives
returns-then-ne-clause-gives g c = IfOk-weaker c.fail.result _ _ (λ answers given d.
    given ∙ ap (settled d) (off (bytes_eq c.args.service.now userauth) (attempt_step (g.S.Suite.meaning c.args.suite.now) (state_data c.args.self.now).known.session (state_data c.args.self.now).known.left) (AtOnce (fails (fault.Unexpected 6))) c.if-ne.ensures))
    c.fail.ensures.gives

pub make_attempt-requires-clause-calm : goal.make_attempt-requires-clause-calm
make_attempt-requires-clause-calm g c =
    ap asked_in (on (bytes_eq c.args.service.now userauth) (attempt_step (g.S.Suite.meaning c.args.suite.now) (state_data c.args.self.now).known.session (state_data c.args.self.now).known.left) (AtOnce (fails (fault.Unexpected 6))) c.if-ne.ensures)
    ∙ c.requires.calm

pub returns-clause-gives : goal.returns-clause-gives
returns-clause-gives g c = IfOk-weaker c.make_attempt.result _ _ (λ answers given d.
    given d ∙ ap (settled d) (on (bytes_eq c.args.service.now userauth) (attempt_step (g.S.Suite.meaning c.args.suite.now) (state_data c.args.self.now).known.session (state_data c.args.self.now).known.left) (AtOnce (fails (fault.Unexpected 6))) c.if-ne.ensures))
    c.make_attempt.ensures.gives
