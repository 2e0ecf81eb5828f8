use Rattle.std.proofs.Common.{Bool, false, ap, ◌∙◌, List}
use Rattle.std.specs.Prelude.{◌&&◌, ◌||◌, ◌==◌, map}
use Rattle.sshcore.specs.ConfigParts.{AttemptData}
use Rattle.sshcore.specs.ConfigView.{attempt_data}
use Rattle.sshcore.specs.StateData.{left_of, state_data}
use Rattle.sshcore.specs.declared.phase_table.Phase.TheVariants as phase
use Rattle.sshcore.proofs.AttemptLemmas.{moved_on, rest_accepted}
use Rattle.sshcore.proofs.state.State.move_on.Goals as goal

pub invariant_of-self-clause-accepted : goal.invariant_of-self-clause-accepted
invariant_of-self-clause-accepted c = rest_accepted c.args.skipped _ _ c.args.self.now.accepted c.attempts_after-self.ensures

pub returns : goal.returns
returns c =
    ap (λ (l : List AttemptData). record (state_data c.args.self.now) { phase = phase.Auth; known = record (state_data c.args.self.now).known { left = l; first = false } })
    (ap (λ (b : Bool). left_of b (map attempt_data c.attempts_after-self.result.now)) c.is_confirmed-self.ensures
    ∙ ap (left_of (c.args.confirms || (c.args.self.now.confirmed && (c.args.skipped == 0)))) c.attempts_after-self.ensures
    ∙ moved_on c.args.self.now.confirmed c.args.confirms c.args.skipped (map attempt_data c.args.self.now.left.now))
