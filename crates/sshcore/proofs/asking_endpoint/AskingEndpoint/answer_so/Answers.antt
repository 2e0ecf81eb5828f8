use Rattle.std.proofs.Common.{[], inl, refl, sym, ap, ◌∙◌, subst}
use Rattle.sshcore.specs.Asking.{asking_end}
use Rattle.sshcore.specs.EndData.{end_data}
use Rattle.sshcore.specs.EndpointConfig.{config_data, role_of}
use Rattle.sshcore.specs.QuestionsView.{answer_data}
use Rattle.sshcore.specs.StateData.{state_data}
use Rattle.sshcore.specs.Unread.{IsAskedBy}
use Rattle.sshcore.specs.WaitingView.{waiting_data, waiting_of}
use Rattle.sshcore.proofs.AskingLemmas.{answered_from, asks_open, breaks_same}
use Rattle.sshcore.proofs.asking_endpoint.AskingEndpoint.answer_so.Goals as goal

pub returns-in-Ok-clause-answered : goal.returns-in-Ok-clause-answered
returns-in-Ok-clause-answered g c =
    rw (← c.self.view_is) (λ some. answered_from g.S.Suite.meaning (role_of c.self.inside.config) (config_data c.self.inside.config) c.self.inside.suite.now
    (answer_data c.args.answer) (waiting_data c.in-Some.waiting) (waiting_of c.self.inside.waiting) (waiting_of c.take.new.self) c.self.inside.input c.answer_given-answered.new.input
    c.self.inside.state c.answer_given-answered.new.state c.args.out.now.items c.answer_given-answered.new.out.items
    (ap (λ w. waiting_of w) (sym c.take.ensures.value ∙ c.in-Some.is)) (ap (λ w. waiting_of w) c.take.ensures.after)
    (asks_open (end_data c.self.inside.state.end) (waiting_of c.self.inside.waiting) some) c.in-Ok.ensures.steps)

pub returns-clause-memory : goal.returns-clause-memory
returns-clause-memory g c = (
  refl,
  c.in-Err.ensures.memory,
  breaks_same g.S.Suite.meaning c.args.self.now _ [] c.args.out.now.items c.answer_given-answered.new.out.items
      (rw (← c.self.view_is) (record { same_role = refl; same_config = refl; same_suite = refl })) c.in-Err.ensures.memory,
)

pub invariant_of-self-in-Ok : goal.invariant_of-self-in-Ok
invariant_of-self-in-Ok g c = record {
  reads = c.in-Ok.ensures.reads;
  asked = subst (λ w. IsAskedBy (g.S.Suite.meaning c.self.inside.suite.now) (role_of c.self.inside.config) (config_data c.self.inside.config) (state_data c.answer_given-answered.new.state)
      c.answer_given-answered.new.input (waiting_of w)) (sym c.take.ensures.after) tt;
  keeps = c.in-Ok.ensures.keeps (c.self.invariant.keeps (inl (ap (λ e. asking_end e) c.self.view_is ∙ c.is_open.ensures.0 c.if-not-is_open.false)));
}
