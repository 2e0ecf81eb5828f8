use Rattle.std.proofs.Common.{◌==◌, ◌∙◌, ap}
use Rattle.std.specs.List.{list_any}
use Rattle.sshcore.specs.EndpointPartsView.{proof_data}
use Rattle.sshlabsuites.specs.LabDecisionsData.{LabDecisionsData, accepts, lab_policy}
use Rattle.sshlabsuites.specs.LabDecisionsView.{allowed_data}
use Rattle.sshlabsuites.proofs.DecisionLemmas.{allowed_accepted, any_seen, others_stay_out}
use Rattle.sshlabsuites.proofs.lab_decisions.LabDecisionsDecisions.user.Goals as goal

pub returns-then-allowed : goal.returns-then-allowed
unfolding lab_policy
returns-then-allowed c = allowed_accepted _ _ _ _
    (c.is_allowed-allowed.ensures ∙ any_seen allowed_data (λ allowance. accepts allowance c.args.user.now (proof_data c.args.proof.now)) _ _ _
    c.deref.ensures.value (ap (λ (rules : LabDecisionsData). rules.allowed) c.self.view_is))
    (c.is_denied-denied.ensures ∙ ap (list_any (λ denied. denied == c.args.request_number)) (c.deref-2.ensures.value ∙ ap (λ (rules : LabDecisionsData). rules.denied) c.self.view_is))
    c.if-allowed.true

pub returns-else-allowed : goal.returns-else-allowed
unfolding lab_policy
returns-else-allowed c = others_stay_out _ _ _
    (c.is_allowed-allowed.ensures ∙ any_seen allowed_data (λ allowance. accepts allowance c.args.user.now (proof_data c.args.proof.now)) _ _ _
    c.deref.ensures.value (ap (λ (rules : LabDecisionsData). rules.allowed) c.self.view_is))
    c.if-allowed.false
