use Rattle.std.proofs.Common.{◌≡◌, arith, min, subst}
use Rattle.sshworld.specs.Deliveries.{Refused}
use Rattle.sshworld.specs.Worlds.{waiting_for}
use Rattle.sshworld.proofs.DeliveryLemmas.{at_err, done}
use Rattle.sshworld.proofs.WorldCourseLemmas.{all_moved, turned}
use Rattle.sshworld.proofs.world.World.move_all.Goals as goal

pub returns-clause-done : goal.returns-clause-done
returns-clause-done g c =
    let old = c.args.self.now in
    let e = c.in_ok-move_bytes.ensures in
    done g.S.Suite.meaning g.D.Decisions.policy c.args.to c.in_ok-move_bytes.field-0 (waiting_for c.args.to old) old c.move_bytes.new.self
    (all_moved c.args.to c.in_ok-move_bytes.field-0 c.waiting-all.result old c.waiting-all.ensures e.moves.counted) e.moves.delivered e.keeps.setup e.keeps.holds

pub returns-clause-turn : goal.returns-clause-turn
returns-clause-turn g c = λ receive had received counts.
    let old = c.args.self.now in
    let e = c.in_ok-move_bytes.ensures in
    turned g.S.Suite.meaning g.D.Decisions.policy c.below_law.ensures.laws old c.move_bytes.new.self e.keeps.setup (g.met.S.Suite.lawful old.suite) c.args.to receive e.keeps.was_on e.keeps.on_course had (e.moves.still had)
    (returns-clause-done g c).delivered received counts

pub returns-in_err-move_bytes-clause-refused : goal.returns-in_err-move_bytes-clause-refused
returns-in_err-move_bytes-clause-refused g c =
    let old = c.args.self.now in
    let count : min c.waiting-all.result (waiting_for c.args.to old) ≡ waiting_for c.args.to old = omega (arith, c.waiting-all.ensures) in
    at_err c.from_residual.result (subst (λ n. Refused g.S.Suite.meaning g.D.Decisions.policy c.args.to n old c.move_bytes.new.self) count c.in_err-move_bytes.ensures.refused)
