use Rattle.std.proofs.Common.{◌≡◌, ◌∙◌, ◌⊎◌, ◌+◌, ◌∷◌, inl, inr, List, drop, map, option_map, true, sym, ap, subst, arith}
use Rattle.std.specs.List.{AllByRecursion}
use Rattle.std.proofs.lemmas.List.{at_drop_more}
use Rattle.sshneg.specs.ChoiceReadings.{is_in}
use Rattle.sshpacket.specs.Suite.{SuiteData}
use Rattle.sshcore.specs.ConfigParts.{AttemptData, ServerData}
use Rattle.sshcore.specs.ConfigRules.{IsAttempt}
use Rattle.sshcore.specs.ConfigView.{attempt_data}
use Rattle.sshcore.specs.EndpointParts.{DecisionsData}
use Rattle.sshcore.specs.Plan.{proving_name}
use Rattle.sshworld.specs.JudgedView.{how_of}
use Rattle.sshworld.specs.declared.progress.Progress.{Progress}
use Rattle.sshworld.specs.Verdicts.{Verdict, verdict}
use Rattle.sshworld.proofs.JudgeLemmas.{Left, left_begins, left_ended, left_made, left_skipped}
use Rattle.sshworld.proofs.judge.judge.Goals as goal
use Rattle.sshworld.proofs.judge.judge.Goals.{then-progress-eq0+in_ok-judged+in_default, then-progress-eq0-via-then-progress-eq0, then-progress-eq0-via-else-progress-eq0+then-lists, else-progress-eq0+else-lists}

pub loop-attempt-init : goal.loop-attempt-init
loop-attempt-init g c =
    let begun = c.new-progress.ensures (g.S.Suite.meaning c.args.suite.now) (g.D.Decisions.policy c.args.decisions.now) c.args.server.now in
    record {
      count = omega (arith, begun.counted);
      accepted = c.plan_of-attempt-items.ensures.accepted;
      left = left_begins (g.S.Suite.meaning c.args.suite.now) (g.D.Decisions.policy c.args.decisions.now) c.args.client.now c.args.server.now _ _ c.plan_of-attempt-items.ensures.plan begun;
    }

pub returns-in-Some : goal.returns-in-Some
returns-in-Some g c =
    let m : SuiteData = g.S.Suite.meaning c.args.suite.now in
    let d : DecisionsData = g.D.Decisions.policy c.args.decisions.now in
    let s : ServerData = c.args.server.now in
    let whole : Verdict = verdict m d c.args.client.now s in
    let x : AttemptData = attempt_data c.attempt-item.result in
    let plan : List AttemptData = map attempt_data (drop (c.loop-attempt.attempt-index + 1) c.plan_of-attempt-items.result.now) in
    let parts : map attempt_data (drop c.loop-attempt.attempt-index c.plan_of-attempt-items.result.now) ≡ x ∷ plan =
    at_drop_more (map attempt_data) c.plan_of-attempt-items.result.now c.loop-attempt.attempt-index c.attempt-item.result c.loop-attempt-test.true ∙ ap (λ y. attempt_data y ∷ plan) (sym c.attempt-item.is) in
    let l : Left m d s whole c.loop-attempt.progress (x ∷ plan) = subst (λ (q : List AttemptData). Left m d s whole c.loop-attempt.progress q) parts c.loop-attempt.invariant.left in
    let is : (c.loop-attempt.progress.requests ≡ 0) ⊎ (is_in s.methods (proving_name x.proving) ≡ true) = elim c.then-progress-eq0.branch [
      | then-progress-eq0-via-then-progress-eq0 w ↦ inl w.if-progress-eq0.true
      | then-progress-eq0-via-else-progress-eq0+then-lists w ↦ inr (ap (is_in s.methods) (sym w.method.ensures) ∙ (sym w.lists.ensures ∙ w.if-lists.true))
    ] in
    left_ended m d s whole c.loop-attempt.progress x plan l is (how_of c.in-Some.judged)
    (sym (ap (option_map how_of) c.in-Some.is) ∙ c.in_ok-judged.ensures.ends l.made l.so_far)

pub loop-attempt-preserved : goal.loop-attempt-preserved
loop-attempt-preserved g c =
    let m : SuiteData = g.S.Suite.meaning c.args.suite.now in
    let d : DecisionsData = g.D.Decisions.policy c.args.decisions.now in
    let s : ServerData = c.args.server.now in
    let whole : Verdict = verdict m d c.args.client.now s in
    let x : AttemptData = attempt_data c.attempt-item.result in
    let later : List _ = drop (c.loop-attempt.attempt-index + 1) c.plan_of-attempt-items.result.now in
    let plan : List AttemptData = map attempt_data later in
    let parts : map attempt_data (drop c.loop-attempt.attempt-index c.plan_of-attempt-items.result.now) ≡ x ∷ plan =
    at_drop_more (map attempt_data) c.plan_of-attempt-items.result.now c.loop-attempt.attempt-index c.attempt-item.result c.loop-attempt-test.true ∙ ap (λ y. attempt_data y ∷ plan) (sym c.attempt-item.is) in
    let accepted : AllByRecursion IsAttempt (x ∷ plan) = subst (AllByRecursion IsAttempt) parts c.loop-attempt.invariant.accepted in
    let l : Left m d s whole c.loop-attempt.progress (x ∷ plan) = subst (λ (q : List AttemptData). Left m d s whole c.loop-attempt.progress q) parts c.loop-attempt.invariant.left in
    elim c.if-progress-eq0.branch [
      | then-progress-eq0+in_ok-judged+in_default w ↦
          let is : (c.loop-attempt.progress.requests ≡ 0) ⊎ (is_in s.methods (proving_name x.proving) ≡ true) = elim w.then-progress-eq0.branch [
            | then-progress-eq0-via-then-progress-eq0 v ↦ inl v.if-progress-eq0.true
            | then-progress-eq0-via-else-progress-eq0+then-lists v ↦ inr (ap (is_in s.methods) (sym v.method.ensures) ∙ (sym v.lists.ensures ∙ v.if-lists.true))
          ] in
          record {
            count = omega (arith, ap (λ (p : Progress). p.requests) w.progress-is, w.in_ok-judged.ensures.few, c.loop-attempt.invariant.count);
            accepted = accepted.1;
            left = subst (λ (p : Progress). Left m d s whole p plan) (sym w.progress-is)
                (left_made m d s whole c.loop-attempt.progress x plan l is w.judge_attempt.new.progress
                (sym (ap (option_map how_of) w.in_default.is) ∙ w.in_ok-judged.ensures.ends l.made l.so_far)
                (w.in_ok-judged.ensures.after l.made l.so_far w.in_default.is));
          }
      | else-progress-eq0+else-lists w ↦ record {
        count = omega (arith, ap (λ (p : Progress). p.requests) w.progress-is, c.loop-attempt.invariant.count);
        accepted = accepted.1;
        left = subst (λ (p : Progress). Left m d s whole p plan) (sym w.progress-is)
            (left_skipped m d s whole c.loop-attempt.progress x plan l w.if-progress-eq0.false (ap (is_in s.methods) (sym w.method.ensures) ∙ (sym w.lists.ensures ∙ w.if-lists.false)));
      }
    ]
