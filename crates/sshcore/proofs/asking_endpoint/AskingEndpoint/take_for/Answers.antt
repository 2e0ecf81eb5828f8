use Rattle.std.proofs.Common.{ℕ, List, [], Option, None, Some, inl, refl, ap, ◌∙◌, take}
use Rattle.sshneg.specs.declared.side.Side.{Side}
use Rattle.sshpacket.specs.Suite.{SuiteData}
use Rattle.sshcore.specs.declared.input.Input.{Input}
use Rattle.sshcore.specs.Asking.{asking_end}
use Rattle.sshcore.specs.AskingData.{WaitingData}
use Rattle.sshcore.specs.EndpointConfig.{config_data, role_of}
use Rattle.sshcore.specs.EndpointParts.{ConfigData}
use Rattle.sshcore.specs.StateData.{StateData, state_data}
use Rattle.sshcore.specs.Unread.{AskingSteps, IsAskedBy}
use Rattle.sshcore.specs.WaitingView.{waiting_of}
use Rattle.sshcore.proofs.AskingLemmas.{breaks_same, fed_from}
use Rattle.sshcore.proofs.asking_endpoint.AskingEndpoint.take_for.Goals as goal

pub returns-in-Ok-clause-fed : goal.returns-in-Ok-clause-fed
returns-in-Ok-clause-fed g c =
    rw (← c.self.view_is) (fed_from g.S.Suite.meaning (role_of c.self.inside.config) (config_data c.self.inside.config) c.self.inside.suite.now
    c.self.inside.input c.receive-received.new.input c.self.inside.state c.receive-received.new.state (waiting_of c.self.inside.waiting) (waiting_of c.in-Ok.came.waiting) (take c.in-Ok.came.used c.args.piece.now) c.args.out.now.items c.receive-received.new.out.items
    (ap (λ e. e.waiting) c.self.view_is ∙ c.requires.ready.waits_for_none) c.in-Ok.ensures.steps)

pub returns-in-Err-clause-memory : goal.returns-in-Err-clause-memory
returns-in-Err-clause-memory g c = (
  refl,
  breaks_same g.S.Suite.meaning c.args.self.now _ c.args.piece.now c.args.out.now.items c.receive-received.new.out.items
      (rw (← c.self.view_is) (record { same_role = refl; same_config = refl; same_suite = refl })) c.in-Err.ensures.memory,
)

-- where a step stopped at a packet, that asks
asked_of : (m : SuiteData) (role : Side) (config : ConfigData) (i : Input) (old : StateData) (j : Input) (new : StateData) (w : Option WaitingData) (taken before after : List ℕ)
    → AskingSteps m role config i old j new w taken before after → IsAskedBy m role config new j w
asked_of m role config i old j new None taken before after steps = tt
asked_of m role config i old j new (Some w) taken before after stops = λ ongoing. stops.asked

pub invariant_of-self : goal.invariant_of-self
invariant_of-self g c =
    let steps = c.in-Ok.ensures.steps in
    record {
      reads = c.in-Ok.ensures.reads;
      asked = asked_of (g.S.Suite.meaning c.self.inside.suite.now) (role_of c.self.inside.config) (config_data c.self.inside.config) c.self.inside.input (state_data c.self.inside.state)
          c.receive-received.new.input (state_data c.receive-received.new.state) (waiting_of c.in-Ok.came.waiting) (take c.in-Ok.came.used c.args.piece.now) [] steps.0 steps.2;
      keeps = c.in-Ok.ensures.keeps (c.self.invariant.keeps (inl (ap (λ e. asking_end e) c.self.view_is ∙ c.requires.ready.is_open)));
    }
