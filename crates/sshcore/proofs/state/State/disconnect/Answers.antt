use Rattle.std.proofs.Common.{List, ℕ, [], ◌∷◌, ◌++◌, refl, ap, ◌∙◌}
use Rattle.sshmsg.specs.MessageData.{Disconnect}
use Rattle.sshmsg.specs.Written.{written_message}
use Rattle.sshpacket.specs.Stream.{Units}
use Rattle.sshcore.specs.EndData.{Open}
use Rattle.sshcore.specs.ReplyView.{replied}
use Rattle.sshcore.specs.StateData.{state_data}
use Rattle.sshcore.proofs.GivesLemmas.{gives_by, gives_moved, gives_onto}
use Rattle.sshcore.proofs.state.State.disconnect.Goals as goal

pub returns-clause-gives : goal.returns-clause-gives
returns-clause-gives g c = λ strict next.
    gives_moved _ _ strict next (state_data c.args.self.now) (state_data c.send_answers.new.self) _ _ _ _ _ Open _ refl refl refl
    (gives_onto _ _ strict next (state_data c.args.self.now) (state_data c.send_answers.new.self) c.new-sent.result.items c.send_answers.new.sent.items _ _ _ c.new-sent.ensures.items
    (c.in_ok-extend_from_slice.ensures.items ∙ ap (λ (l : List ℕ). c.args.out.now.items ++ l) c.deref.ensures.value)
    (gives_by _ _ strict next _ _ _ _ _ _
    (ap (λ (a : Units). replied a (state_data c.args.self.now).end) c.in_ok-answers.ensures
    ∙ (ap (λ (l : List ℕ). replied (written_message (Disconnect c.args.reason l []) ∷ []) (state_data c.args.self.now).end) c.sent_text.ensures.same
    ∙ ap (replied _) c.requires.open))
    (c.in_ok-send_answers.ensures.gives strict next)))
