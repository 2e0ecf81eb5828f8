use Rattle.std.proofs.Common.{refl, ap, ◌∙◌}
use Rattle.std.proofs.lemmas.Result.{on_ok_weaker}
use Rattle.sshpacket.specs.KeysData.{KeysData}
use Rattle.sshcore.specs.Output.{with_newkeys}
use Rattle.sshcore.specs.StateData.{state_data}
use Rattle.sshcore.proofs.ReplyLemmas.{gives_switch}
use Rattle.sshcore.proofs.state.State.send_switch.Goals as goal

pub returns-clause-gives : goal.returns-clause-gives
returns-clause-gives g c = on_ok_weaker c.send_answers.result (λ given strict next are is clear.
    gives_switch _ _ strict next (state_data c.args.self.now) (state_data c.send_new_keys.new.self) (state_data c.send_answers.new.self) _ _ _ _ _ refl is clear
    c.in_ok-send_new_keys.ensures.spells
    (c.in_ok-send_new_keys.ensures.switches ∙ ap (λ (k : KeysData). record (state_data c.args.self.now) { sending = with_newkeys (state_data c.args.self.now).known.strict k (state_data c.args.self.now).sending }) are)
    (given strict next)) c.send_answers.ensures.gives
