use Rattle.std.proofs.Common.{Option, sym, ap, subst}
use Rattle.std.proofs.lemmas.Result.{on_ok_weaker}
use Rattle.sshcore.specs.declared.reply.Switch as switch
use Rattle.sshcore.specs.Comes.{SwitchesTo}
use Rattle.sshcore.specs.EndData.{end_data}
use Rattle.sshcore.specs.ReplyView.{replied, with_switch}
use Rattle.sshcore.specs.StateData.{state_data}
use Rattle.sshcore.proofs.GivesLemmas.{gives_by}
use Rattle.sshcore.proofs.ReplyLemmas.{gives_reply}
use Rattle.sshcore.proofs.state.State.send_reply.Goals as goal

pub returns-in-None-clause-gives : goal.returns-in-None-clause-gives
returns-in-None-clause-gives g c = λ strict next _.
    gives_by _ _ strict next _ _ _ _ _ _ (ap (λ (o : Option switch.Switch). replied (with_switch c.args.reply.answers o) (end_data c.args.self.now.end)) (sym c.in-None.is))
    (c.in_ok-send_answers.ensures.gives strict next)

pub returns-clause-gives : goal.returns-clause-gives
returns-clause-gives g c = on_ok_weaker c.send_switch.result (λ given strict next switches.
    gives_by _ _ strict next _ _ _ _ _ _ (ap (λ (o : Option switch.Switch). replied (with_switch c.args.reply.answers o) (end_data c.args.self.now.end)) (sym c.in-Some.is))
    (gives_reply _ _ strict next (state_data c.args.self.now) (state_data c.send_answers.new.self) (state_data c.send_switch.new.self) _ _ _ c.args.reply.answers c.in-Some.switch
    c.in_ok-send_answers.ensures.plain (subst (λ (o : Option switch.Switch). SwitchesTo o strict next (state_data c.args.self.now)) c.in-Some.is switches)
    c.in_ok-send_answers.ensures.stays (c.in_ok-send_answers.ensures.gives strict next) (given strict next))) c.send_switch.ensures.gives
