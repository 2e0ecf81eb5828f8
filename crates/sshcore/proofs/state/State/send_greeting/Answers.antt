use Rattle.std.proofs.Common.{◌++◌, List, ℕ, ap, ◌∙◌, subst}
use Rattle.sshpacket.specs.Stream.{Units}
use Rattle.sshcore.specs.EndpointConfig.{config_data, role_of}
use Rattle.sshcore.specs.Brings.{Gives}
use Rattle.sshcore.specs.Directions.{preamble_of}
use Rattle.sshcore.specs.EndData.{goes}
use Rattle.sshcore.specs.ReplyView.{replied}
use Rattle.sshcore.specs.StateData.{state_data}
use Rattle.sshcore.specs.Work.{making}
use Rattle.sshcore.proofs.GivesLemmas.{gives_by}
use Rattle.sshcore.proofs.state.State.send_greeting.Goals as goal

pub returns-clause-gives : goal.returns-clause-gives
returns-clause-gives g c =
    let m = g.S.Suite.meaning c.args.suite.now in
    let role = role_of c.args.config.now in
    let config = config_data c.args.config.now in
    let sent = c.send_answers.new.sent.items in
    let lines = c.in_ok-send_lines.ensures ∙ ap (λ (l : List ℕ). l ++ preamble_of config) c.new-sent.ensures.items in (
      sent,
      c.in_ok-extend_from_slice.ensures.items ∙ ap (λ (l : List ℕ). c.args.out.now.items ++ l) c.deref.ensures.value,
      λ strict next. subst (λ (l : List ℕ). Gives m config.seed strict next (state_data c.args.self.now) (state_data c.send_answers.new.self) l sent (goes (making m role config))) lines
          (gives_by m config.seed strict next (state_data c.args.self.now) (state_data c.send_answers.new.self) _ sent (replied c.in_ok-answers.answers (state_data c.args.self.now).end) (goes (making m role config))
          (ap (λ (a : Units). replied a (state_data c.args.self.now).end) c.in_ok-answers.ensures ∙ ap (replied (making m role config)) c.requires.open) (c.in_ok-send_answers.ensures.gives strict next)),
    )
