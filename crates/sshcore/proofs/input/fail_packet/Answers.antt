use Rattle.std.proofs.Common.{sym, ap, ◌∙◌}
use Rattle.std.proofs.lemmas.Result.{on_ok_weaker}
use Rattle.sshcore.specs.EndData.{fails}
use Rattle.sshcore.specs.StateData.{StateData, state_data}
use Rattle.sshcore.proofs.GivesLemmas.{gives_by, gives_from}
use Rattle.sshcore.proofs.input.fail_packet.Goals as goal

pub returns-clause-gives : goal.returns-clause-gives
returns-clause-gives g c = on_ok_weaker c.send_answers.result (λ given strict next.
    gives_by _ _ strict next _ _ _ _ _ _ (c.in_ok-answers.ensures.gives ∙ ap fails c.in-Some.ensures.0)
    (gives_from _ _ strict next (state_data c.fail.new.self) (state_data c.args.state.now) _ _ _ _ (sym (ap (λ (k : StateData). k.sending) c.in_ok-answers.ensures.stays)) (given strict next))) c.send_answers.ensures.gives
