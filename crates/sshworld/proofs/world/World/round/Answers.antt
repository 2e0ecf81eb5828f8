use Rattle.std.proofs.Common.{inr}
use Rattle.sshworld.proofs.DeliveryLemmas.{at_err}
use Rattle.sshworld.proofs.MoveLemmas.{keeps_then}
use Rattle.sshworld.proofs.world.World.round.Goals as goal

pub returns-in_err-move_all-2-clause-stopped : goal.returns-in_err-move_all-2-clause-stopped
returns-in_err-move_all-2-clause-stopped g c =
    at_err c.from_residual-in_err-move_all-2.result (inr (c.move_all.new.self, c.in_ok-move_all.ensures.done, c.in_err-move_all-2.ensures.refused))

pub returns-in_err-move_all-2-clause-keeps : goal.returns-in_err-move_all-2-clause-keeps
returns-in_err-move_all-2-clause-keeps g c =
    keeps_then g.S.Suite.meaning g.D.Decisions.policy c.args.self.now c.move_all.new.self c.move_all-2.new.self c.in_ok-move_all.ensures.keeps c.in_err-move_all-2.ensures.keeps

pub returns-clause-keeps : goal.returns-clause-keeps
returns-clause-keeps g c =
    keeps_then g.S.Suite.meaning g.D.Decisions.policy c.args.self.now c.move_all.new.self c.move_all-2.new.self c.in_ok-move_all.ensures.keeps c.in_ok-move_all-2.ensures.keeps
