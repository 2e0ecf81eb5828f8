use Rattle.std.proofs.Common.{◌≡◌, ◌∙◌, Bool, List, true, false, ap, refl, rules, if◌then◌else◌}
use Rattle.std.proofs.lemmas.Result.{IfOk-weaker, on_ok_weaker}
use Rattle.sshcore.specs.declared.end.Fault.TheVariants as fault
use Rattle.sshcore.specs.Attempts.{attempt_step}
use Rattle.sshcore.specs.ConfigParts.{AttemptData}
use Rattle.sshcore.specs.EndData.{fails}
use Rattle.sshcore.specs.StateData.{StateData, state_data}
use Rattle.sshcore.specs.Step.{AtOnce, Step, asked_in, settled}
use Rattle.sshcore.proofs.AttemptLemmas.{left_confirmed}
use Rattle.sshcore.proofs.state.State.receive_pk_ok.Goals as goal

-- the step where it isn't about that key, and where it is
off : (b about : Bool) (x y : Step) → b ≡ false → b ≡ about → y ≡ (if about then x else y)
off b false x y e same = refl
off b true x y e same = absurd cc

on : (b about : Bool) (x y : Step) → b ≡ true → b ≡ about → x ≡ (if about then x else y)
on b true x y e same = refl
on b false x y e same = absurd cc

pub returns-then-not-branch-clause-gives : goal.returns-then-not-branch-clause-gives
returns-then-not-branch-clause-gives g c =
    let no : c.in_ok-is_about.field-0 ≡ false = search rules in
    IfOk-weaker c.fail.result _ _ (λ answers given d.
    given ∙ ap (settled d) (off _ _ _ (AtOnce (fails (fault.Unexpected 60))) no c.in_ok-is_about.ensures)) c.fail.ensures.gives

pub make_attempt-requires-clause-calm : goal.make_attempt-requires-clause-calm
make_attempt-requires-clause-calm g c =
    let yes : c.in_ok-is_about.field-0 ≡ true = search rules in
    let m = g.S.Suite.meaning c.args.suite.now in
    ap (λ (l : List AttemptData). asked_in (attempt_step m c.args.self.now.session.items l)) (left_confirmed c.args.self.now.confirmed _)
    ∙ (ap asked_in (on _ _ _ (AtOnce (fails (fault.Unexpected 60))) yes c.in_ok-is_about.ensures) ∙ c.requires.calm)

pub returns-clause-gives : goal.returns-clause-gives
returns-clause-gives g c =
    let yes : c.in_ok-is_about.field-0 ≡ true = search rules in
    let m = g.S.Suite.meaning c.args.suite.now in
    IfOk-weaker c.make_attempt.result _ _ (λ answers given d.
    given d ∙ (ap (λ (l : List AttemptData). settled d (attempt_step m c.args.self.now.session.items l)) (left_confirmed c.args.self.now.confirmed _) ∙ ap (settled d) (on _ _ _ (AtOnce (fails (fault.Unexpected 60))) yes c.in_ok-is_about.ensures)))
    c.make_attempt.ensures.gives

pub returns-clause-stays : goal.returns-clause-stays
returns-clause-stays g c =
    on_ok_weaker c.make_attempt.result (λ same goes_on. same
    ∙ ap (λ (l : List AttemptData). record (state_data c.args.self.now) { end = (state_data c.make_attempt.new.self).end; known = record (state_data c.args.self.now).known { left = l; first = false } })
    (left_confirmed c.args.self.now.confirmed _)) c.make_attempt.ensures.stays

pub returns-clause-unsent : goal.returns-clause-unsent
returns-clause-unsent g c = on_ok_weaker c.make_attempt.result (λ same. ap (λ (k : StateData). k.sending) same) c.make_attempt.ensures.stays

pub returns-then-not-branch-clause-unsent : goal.returns-then-not-branch-clause-unsent
returns-then-not-branch-clause-unsent g c = on_ok_weaker c.fail.result (λ same. ap (λ (k : StateData). k.sending) same) c.fail.ensures.stays
