use Rattle.std.proofs.Common.{rules, ◌≡◌, ◌∙◌, ◌&&◌, Bool, false, true, sym, ap}
use Rattle.sshneg.specs.ChoiceReadings.{is_in}
use Rattle.sshcore.specs.declared.config_fault.ConfigFault.TheVariants as fault
use Rattle.sshcore.specs.ConfigParts.{ServerData}
use Rattle.sshcore.specs.ConfigView.{attempt_data}
use Rattle.sshcore.specs.CompletedMethods.{is_complete}
use Rattle.sshworld.specs.JudgedView.{progress_completed}
use Rattle.sshworld.proofs.ProgressLemmas.{at_limit, at_none, at_success, not_complete, not_successful, one_more}
use Rattle.sshworld.proofs.progress.Progress.judge_request.Goals as goal
use Rattle.sshworld.proofs.progress.Progress.judge_request.Goals.{else-successful-via-then-successful+else-is_complete, else-successful-via-else-successful}

pub returns-then-is_complete-clause-ends : goal.returns-then-is_complete-clause-ends
returns-then-is_complete-clause-ends c = λ m d made r so_far same is.
    let has : is_in c.args.server.now.services (attempt_data c.args.attempt.now).service ≡ true = search rules in
    at_success m d c.args.server.now (c.parts.ensures.accepted.keeps fault.Name).3 c.args.self.now c.count.new.self (attempt_data c.args.attempt.now) c.args.successful c.count.ensures.counted c.count.ensures.completed made r so_far same is
    has c.if-successful.true (sym c.is_complete.ensures ∙ c.if-is_complete.true)

pub returns-then-self-parts-clause-ends : goal.returns-then-self-parts-clause-ends
returns-then-self-parts-clause-ends c = λ m d made r so_far same is.
    let has : is_in c.args.server.now.services (attempt_data c.args.attempt.now).service ≡ true = search rules in
    let complete : Bool = is_complete c.args.server.now.required (progress_completed c.count.new.self) in
    let more : (c.args.successful && complete) ≡ false = elim c.else-successful.branch [
      | else-successful-via-then-successful+else-is_complete w ↦ not_complete c.args.successful complete (sym w.is_complete.ensures ∙ w.if-is_complete.false)
      | else-successful-via-else-successful w ↦ not_successful c.args.successful complete w.if-successful.false
    ] in
    at_limit m d c.args.server.now (c.parts.ensures.accepted.keeps fault.Name).3 c.args.self.now c.count.new.self (attempt_data c.args.attempt.now) c.args.successful c.count.ensures.counted c.count.ensures.completed made r so_far same is
    has c.parts-2.result.now.tries (ap (λ (s : ServerData). s.tries) c.parts-2.ensures.same) more c.if-self-parts.true

pub returns-clause-ends : goal.returns-clause-ends
returns-clause-ends c = λ m d made r so_far same is.
    let has : is_in c.args.server.now.services (attempt_data c.args.attempt.now).service ≡ true = search rules in
    let complete : Bool = is_complete c.args.server.now.required (progress_completed c.count.new.self) in
    let more : (c.args.successful && complete) ≡ false = elim c.else-successful.branch [
      | else-successful-via-then-successful+else-is_complete w ↦ not_complete c.args.successful complete (sym w.is_complete.ensures ∙ w.if-is_complete.false)
      | else-successful-via-else-successful w ↦ not_successful c.args.successful complete w.if-successful.false
    ] in
    at_none m d c.args.server.now (c.parts.ensures.accepted.keeps fault.Name).3 c.args.self.now c.count.new.self (attempt_data c.args.attempt.now) c.args.successful c.count.ensures.counted c.count.ensures.completed made r so_far same is
    has c.parts-2.result.now.tries (ap (λ (s : ServerData). s.tries) c.parts-2.ensures.same) more c.if-self-parts.false

pub returns-clause-after : goal.returns-clause-after
returns-clause-after c = λ m d made r so_far same is none.
    one_more m d c.args.server.now (c.parts.ensures.accepted.keeps fault.Name).3 c.args.self.now c.count.new.self (attempt_data c.args.attempt.now) c.args.successful c.count.ensures.counted c.count.ensures.completed made r so_far same is
