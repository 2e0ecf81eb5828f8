use Rattle.std.proofs.Common.{rules, List, ℕ, subst, take}
use Rattle.sshcore.specs.EndpointConfig.{config_data, role_of}
use Rattle.sshcore.specs.StateData.{state_data}
use Rattle.sshcore.specs.Unread.{AskingSteps}
use Rattle.sshcore.specs.WaitingView.{waiting_of}
use Rattle.sshcore.proofs.asking_endpoint.receive.Goals as goal

pub returns-clause-steps : goal.returns-clause-steps
returns-clause-steps g c = (
  c.receive_asking.new.sent.items,
  search rules,
  subst (λ (l : List ℕ). AskingSteps (g.S.Suite.meaning c.args.suite.now) (role_of c.args.config.now) (config_data c.args.config.now) c.args.input.now (state_data c.args.state.now)
      c.receive_asking.new.self (state_data c.receive_asking.new.state) (waiting_of c.in_ok-came.came.waiting) (take c.in_ok-came.came.used c.args.piece.now) l c.receive_asking.new.sent.items)
      c.new-sent.ensures.items c.in_ok-came.ensures.steps,
)
