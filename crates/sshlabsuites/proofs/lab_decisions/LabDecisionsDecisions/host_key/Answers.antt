use Rattle.std.proofs.Common.{ap, ◌∙◌}
use Rattle.std.specs.Prelude.{not, string_bytes}
use Rattle.std.specs.Str.{bytes_eq}
use Rattle.sshlabsuites.specs.LabDecisionsData.{LabDecisionsData, lab_policy}
use Rattle.sshlabsuites.proofs.DecisionLemmas.{any_seen}
use Rattle.sshlabsuites.proofs.lab_decisions.LabDecisionsDecisions.host_key.Goals as goal

pub returns : goal.returns
unfolding lab_policy
returns c = ap not (c.is_distrusted.ensures ∙ any_seen string_bytes (λ name. bytes_eq name c.args.algorithm.now) _ _ _
    c.deref.ensures.value (ap (λ (rules : LabDecisionsData). rules.distrusted) c.self.view_is))
