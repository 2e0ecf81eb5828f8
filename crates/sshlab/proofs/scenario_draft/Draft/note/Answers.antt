use Rattle.std.proofs.Common.{◌≡◌, ◌∙◌, List, ap, subst, sym}
use Rattle.std.specs.List.{Contains}
use Rattle.sshneg.specs.declared.side.Side.{Side}
use Rattle.sshlab.specs.declared.scenario_settings.Setting.{Setting}
use Rattle.sshlab.specs.ScenarioDrafts.{DraftData}
use Rattle.sshlab.proofs.ScenarioSettingLemmas.{holds_at_ok, made_is, not_made}
use Rattle.sshlab.proofs.scenario_draft.Draft.note.Goals as goal

pub returns-then-contains-clause-form : goal.returns-then-contains-clause-form
returns-then-contains-clause-form c =
    let seen : c.deref.result.now ≡ c.args.self.now.settings = c.deref.ensures.value ∙ ap (λ (d : DraftData). d.settings) c.self.view_is in
    λ _. subst (λ (made : List (Side × Setting)). Contains made c.args.setting) seen
    ((made_is c.deref.result.now c.args.setting).0 (sym c.contains.ensures.value ∙ c.if-contains.true))

pub returns-clause-new : goal.returns-clause-new
returns-clause-new c =
    let seen : c.deref.result.now ≡ c.args.self.now.settings = c.deref.ensures.value ∙ ap (λ (d : DraftData). d.settings) c.self.view_is in
    holds_at_ok c.map_err.result (λ (have : Contains c.args.self.now.settings c.args.setting).
    not_made c.deref.result.now c.args.setting (sym c.contains.ensures.value ∙ c.if-contains.false)
    (subst (λ (made : List (Side × Setting)). Contains made c.args.setting) (sym seen) have))
