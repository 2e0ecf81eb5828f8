use Rattle.std.proofs.Common.{◌≡◌, ◌≤◌, length, map, sym, ap, arith}
use Rattle.std.proofs.lemmas.List.{length-map}
use Rattle.std.proofs.lemmas.Result.{IfOk-weaker}
use Rattle.sshcore.specs.ConfigView.{attempt_data}
use Rattle.sshcore.specs.Plan.{next_after}
use Rattle.sshcore.proofs.AttemptLemmas.{next_accepted}
use Rattle.sshcore.proofs.PendingLemmas.{next_fewer, skips_to, some_weaker}
use Rattle.sshcore.proofs.state.State.pending_next.Goals as goal

pub overflow_sub-skipped : goal.overflow_sub-skipped
overflow_sub-skipped g c =
    let left = map attempt_data c.args.self.now.left.now in
    let fewer : length (next_after c.args.methods.now left) ≤ length left = next_fewer c.args.methods.now left in
    let all : length left ≡ length c.args.self.now.left.now = length-map c.args.self.now.left.now attempt_data in
    let next : length (map attempt_data c.next_attempts-next.result.now) ≡ length (next_after c.args.methods.now left) = ap length c.next_attempts-next.ensures in
    let some : length (map attempt_data c.next_attempts-next.result.now) ≡ length c.next_attempts-next.result.now = length-map c.next_attempts-next.result.now attempt_data in
    omega arith

pub pending_attempt-requires : goal.pending_attempt-requires
pending_attempt-requires g c = record { accepted = next_accepted c.args.methods.now _ _ c.args.self.now.accepted c.next_attempts-next.ensures }

pub returns-clause-fits : goal.returns-clause-fits
returns-clause-fits g c =
    IfOk-weaker c.pending_attempt.result _ _ (λ o fits. some_weaker _ _ o
    (skips_to c.args.methods.now c.args.self.now.confirmed (map attempt_data c.args.self.now.left.now) (map attempt_data c.next_attempts-next.result.now) (length c.args.self.now.left.now) (length c.next_attempts-next.result.now)
    c.next_attempts-next.ensures (sym (length-map c.args.self.now.left.now attempt_data)) (sym (length-map c.next_attempts-next.result.now attempt_data))) fits) c.pending_attempt.ensures.fits
