use Rattle.std.proofs.Common.{◌≡◌, ◌∙◌, ap, sym}
use Rattle.std.specs.Prelude.{Option, None, Some, option_map}
use Rattle.sshlab.specs.Scenarios.{statement}
use Rattle.sshlab.specs.ScenarioView.{statement_data}
use Rattle.sshlab.proofs.ScenarioSettingLemmas.{other_follows, setting_follows, silent_follows}
use Rattle.sshlab.proofs.scenario_draft.Draft.read.Goals.{in-Some-setting_of+in_ok-note, in_default-setting_of}
use Rattle.sshlab.proofs.scenario_draft.Draft.read.Goals as goal

pub returns-in_ok-accept-clause-read : goal.returns-in_ok-accept-clause-read
returns-in_ok-accept-clause-read c =
    let states : statement c.args.line.now ≡ Some (Some (statement_data c.in-Some.statement)) =
    c.in_ok-statement.ensures.value ∙ ap (λ (o : Option _). Some (option_map statement_data o)) c.in-Some.is in
    elim c.match-setting_of.branch [
      | in-Some-setting_of+in_ok-note w ↦ setting_follows c.args.line.now c.args.self.now (statement_data c.in-Some.statement) states c.accept.new.self c.match-setting_of.self
          c.in_ok-accept.ensures.done w.in-Some-setting_of.setting (sym c.setting_of.ensures ∙ w.in-Some-setting_of.is)
          w.in_ok-note.ensures.new (w.self-is ∙ w.in_ok-note.ensures.noted)
      | in_default-setting_of w ↦ other_follows c.args.line.now c.args.self.now (statement_data c.in-Some.statement) states c.accept.new.self c.match-setting_of.self
          c.in_ok-accept.ensures.done (sym c.setting_of.ensures ∙ w.in_default-setting_of.is) w.self-is
    ]

pub returns-in_default-clause-read : goal.returns-in_default-clause-read
returns-in_default-clause-read c =
    let states : statement c.args.line.now ≡ Some None = c.in_ok-statement.ensures.value ∙ ap (λ (o : Option _). Some (option_map statement_data o)) c.in_default.is in
    silent_follows c.args.line.now c.args.self.now states
