use Rattle.std.proofs.Common.{◌≡◌, ◌∙◌, ◌+◌, List, subst, sym}
use Rattle.std.proofs.lemmas.Result.{IfOk-weaker}
use Rattle.sshworld.specs.Offered.{most_requests}
use Rattle.sshworld.specs.Conversed.{EachReplies}
use Rattle.sshworld.specs.CourseReceived.{IsCourseReceived}
use Rattle.sshworld.specs.Headline.{Headline}
use Rattle.sshworld.specs.Outcome.{outcome}
use Rattle.sshworld.specs.Wordings.{wording_of}
use Rattle.sshworld.specs.Worlds.{Complete}
use Rattle.sshlabsuites.specs.Lab.{lab}
use Rattle.sshlabsuites.specs.LabLaws.{lab_agreeing}
use Rattle.sshlabsuites.specs.LabDecisionsData.{lab_policy}
use Rattle.sshlab.specs.declared.scenario_line.Step.{Step}
use Rattle.sshlab.specs.Steps.{EndsSettling, StepsDone, StepsLeadTo}
use Rattle.sshwire.proofs.OwnedLemmas.{once_ok, where_all, where_ok}
use Rattle.sshlab.proofs.RunLemmas.{both_predicted, course_of, headline_of, new_had, settled_of}
use Rattle.sshlab.proofs.scenario.Scenario.run.Goals as goal

pub returns-clause-client_config : goal.returns-clause-client_config
returns-clause-client_config c =
    let done = c.do_steps-done in
    once_ok c.once.result (λ w. w.client_config ≡ c.args.self.now.client) tt done.result done.new.world c.once.ensures.value c.once.ensures.done
    (where_ok done.result done.ensures.setup (λ setup. setup.same_client_config ∙ c.in_ok-world.ensures.client_config))

pub returns-clause-server_config : goal.returns-clause-server_config
returns-clause-server_config c =
    let done = c.do_steps-done in
    once_ok c.once.result (λ w. w.server_config ≡ c.args.self.now.server) tt done.result done.new.world c.once.ensures.value c.once.ensures.done
    (where_ok done.result done.ensures.setup (λ setup. setup.same_server_config ∙ c.in_ok-world.ensures.server_config))

pub returns-clause-decisions : goal.returns-clause-decisions
returns-clause-decisions c =
    let done = c.do_steps-done in
    once_ok c.once.result (λ w. w.decisions ≡ c.args.self.now.decisions) tt done.result done.new.world c.once.ensures.value c.once.ensures.done
    (where_ok done.result done.ensures.setup (λ setup. setup.same_decisions ∙ c.in_ok-world.ensures.decisions))

pub returns-clause-steps : goal.returns-clause-steps
returns-clause-steps c =
    let done = c.do_steps-done in
    let before = c.in_ok-world.ensures in
    let self = c.args.self.now in
    once_ok c.once.result (λ w. StepsLeadTo (λ suite. lab) lab_policy self.client self.server self.decisions self.steps.items w) tt done.result done.new.world
    c.once.ensures.value c.once.ensures.done
    (where_all done.result done.ensures.setup done.ensures.steps done.ensures.still (λ setup led still. record {
      start = c.in_ok-world.world;
      is_new = before.start;
      of_client = before.client_config;
      of_server = before.server_config;
      of_suite = sym setup.same_suite;
      of_decisions = before.decisions;
      led = subst (λ (steps : List Step). StepsDone (λ suite. lab) lab_policy steps c.in_ok-world.world done.new.world) c.deref.ensures.value led;
    }))

pub returns-clause-replies : goal.returns-clause-replies
returns-clause-replies c =
    let done = c.do_steps-done in
    once_ok c.once.result (λ w. EachReplies (λ suite. lab) lab_policy w) tt done.result done.new.world c.once.ensures.value c.once.ensures.done
    (where_ok done.result done.ensures.holds (λ holds. (holds c.in_ok-world.ensures.holds).replies))

pub returns-clause-course : goal.returns-clause-course
returns-clause-course c =
    let done = c.do_steps-done in
    let before = c.in_ok-world.ensures in
    let self = c.args.self.now in
    once_ok c.once.result (λ w. IsCourseReceived lab (lab_policy self.decisions) self.client self.server (wording_of lab (lab_policy self.decisions) self.client self.server) w.client w.server)
    tt done.result done.new.world c.once.ensures.value c.once.ensures.done
    (where_all done.result done.ensures.setup done.ensures.still done.ensures.holds (λ setup still holds.
    course_of lab lab_policy self.client self.server self.decisions done.new.world
    (setup.same_client_config ∙ before.client_config) (setup.same_server_config ∙ before.server_config) (setup.same_decisions ∙ before.decisions)
    (c.follows_law.ensures.compatible lab (lab_policy self.decisions) self.client self.server lab_agreeing c.parts.ensures.accepted c.parts-2.ensures.accepted)
    (still (new_had _ lab_policy c.in_ok-world.world before.start)) (holds before.holds).course))

pub returns-clause-headline : goal.returns-clause-headline
returns-clause-headline c =
    let done = c.do_steps-done in
    let before = c.in_ok-world.ensures in
    let self = c.args.self.now in
    once_ok c.once.result (λ w. Headline (outcome lab (lab_policy self.decisions) self.client self.server) w.client.end w.server.end (Complete w))
    tt done.result done.new.world c.once.ensures.value c.once.ensures.done
    (where_all done.result done.ensures.setup done.ensures.still done.ensures.holds (λ setup still holds.
    headline_of lab lab_policy self.client self.server self.decisions done.new.world
    (setup.same_client_config ∙ before.client_config) (setup.same_server_config ∙ before.server_config) (setup.same_decisions ∙ before.decisions)
    (c.follows_law.ensures.compatible lab (lab_policy self.decisions) self.client self.server lab_agreeing c.parts.ensures.accepted c.parts-2.ensures.accepted)
    (still (new_had _ lab_policy c.in_ok-world.world before.start)) (holds before.holds).headline))

pub returns-clause-predicted : goal.returns-clause-predicted
returns-clause-predicted c =
    let self = c.args.self.now in
    let both = outcome lab (lab_policy self.decisions) self.client self.server in
    IfOk-weaker c.once.result (λ w. Headline both w.client.end w.server.end (Complete w))
    (λ w. Complete w → (w.client.end ≡ both.client) × (w.server.end ≡ both.server))
    (λ w headline. both_predicted both w.client.end w.server.end (Complete w) headline) (returns-clause-headline c)

pub returns-clause-settled : goal.returns-clause-settled
returns-clause-settled c =
    let done = c.do_steps-done in
    let before = c.in_ok-world.ensures in
    let self = c.args.self.now in
    once_ok c.once.result (λ w. EndsSettling (most_requests self.client.plan + 4) self.steps.items → Complete w)
    tt done.result done.new.world c.once.ensures.value c.once.ensures.done
    (where_ok done.result done.ensures.settled (λ settled.
    settled_of lab lab_policy self.client self.server self.decisions c.in_ok-world.world before.client_config before.server_config before.decisions self.steps.items c.deref.result.now done.new.world c.deref.ensures.value
    (c.follows_law.ensures.compatible lab (lab_policy self.decisions) self.client self.server lab_agreeing c.parts.ensures.accepted c.parts-2.ensures.accepted)
    (new_had _ lab_policy c.in_ok-world.world before.start) settled))
