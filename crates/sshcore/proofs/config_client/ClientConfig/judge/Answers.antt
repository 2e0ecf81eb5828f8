use Rattle.std.proofs.Common.{◌++◌, None, Some, ◌∙◌}
use Rattle.sshcore.specs.SuiteFit.{client_names, plan_asked, suite_fault_data}
use Rattle.sshcore.proofs.EndpointPartsLemmas.{client_attempts}
use Rattle.sshcore.proofs.SuiteFitLemmas.{client_keys_judged, fits, fits_not, refused_first, refused_later}
use Rattle.sshcore.proofs.config_client.ClientConfig.judge.Goals as goal

pub unheld_attempt-requires : goal.unheld_attempt-requires
unheld_attempt-requires g c = client_attempts c.parts.result.now c.args.self.now c.deref.result.now c.parts.ensures.same c.parts.ensures.accepted c.deref.ensures.value

pub returns-in-Err-clause-refusal : goal.returns-in-Err-clause-refusal
returns-in-Err-clause-refusal g c = refused_first (g.S.Suite.meaning c.args.suite.now) (g.S.Inventory.inventory c.args.suite.now) (client_names c.args.self.now) (plan_asked 0 c.args.self.now.plan) (suite_fault_data c.in-Err.fault) c.in-Err.ensures.refusal

pub returns-in-Err-clause-unfit : goal.returns-in-Err-clause-unfit
returns-in-Err-clause-unfit g c = fits_not (g.S.Suite.meaning c.args.suite.now) (g.S.Inventory.inventory c.args.suite.now) (client_names c.args.self.now ++ plan_asked 0 c.args.self.now.plan) (suite_fault_data c.in-Err.fault) (refused_first (g.S.Suite.meaning c.args.suite.now) (g.S.Inventory.inventory c.args.suite.now) (client_names c.args.self.now) (plan_asked 0 c.args.self.now.plan) (suite_fault_data c.in-Err.fault) c.in-Err.ensures.refusal)

pub returns-in-Some-clause-refusal : goal.returns-in-Some-clause-refusal
returns-in-Some-clause-refusal g c = client_keys_judged (g.S.Suite.meaning c.args.suite.now) (g.S.Inventory.inventory c.args.suite.now) c.parts.result.now c.args.self.now c.deref.result.now (Some (suite_fault_data c.in-Some.fault)) c.parts.ensures.same c.deref.ensures.value c.in-Some.ensures ∙ refused_later (g.S.Suite.meaning c.args.suite.now) (g.S.Inventory.inventory c.args.suite.now) (client_names c.args.self.now) (plan_asked 0 c.args.self.now.plan) c.in-Ok.ensures.refusal

pub returns-in-Some-clause-unfit : goal.returns-in-Some-clause-unfit
returns-in-Some-clause-unfit g c = fits_not (g.S.Suite.meaning c.args.suite.now) (g.S.Inventory.inventory c.args.suite.now) (client_names c.args.self.now ++ plan_asked 0 c.args.self.now.plan) (suite_fault_data c.in-Some.fault) (client_keys_judged (g.S.Suite.meaning c.args.suite.now) (g.S.Inventory.inventory c.args.suite.now) c.parts.result.now c.args.self.now c.deref.result.now (Some (suite_fault_data c.in-Some.fault)) c.parts.ensures.same c.deref.ensures.value c.in-Some.ensures ∙ refused_later (g.S.Suite.meaning c.args.suite.now) (g.S.Inventory.inventory c.args.suite.now) (client_names c.args.self.now) (plan_asked 0 c.args.self.now.plan) c.in-Ok.ensures.refusal)

pub returns-in-None-clause-refusal : goal.returns-in-None-clause-refusal
returns-in-None-clause-refusal g c = client_keys_judged (g.S.Suite.meaning c.args.suite.now) (g.S.Inventory.inventory c.args.suite.now) c.parts.result.now c.args.self.now c.deref.result.now None c.parts.ensures.same c.deref.ensures.value c.in-None.ensures ∙ refused_later (g.S.Suite.meaning c.args.suite.now) (g.S.Inventory.inventory c.args.suite.now) (client_names c.args.self.now) (plan_asked 0 c.args.self.now.plan) c.in-Ok.ensures.refusal

pub returns-in-None-clause-fit : goal.returns-in-None-clause-fit
returns-in-None-clause-fit g c = fits (g.S.Suite.meaning c.args.suite.now) (g.S.Inventory.inventory c.args.suite.now) (client_names c.args.self.now ++ plan_asked 0 c.args.self.now.plan) (client_keys_judged (g.S.Suite.meaning c.args.suite.now) (g.S.Inventory.inventory c.args.suite.now) c.parts.result.now c.args.self.now c.deref.result.now None c.parts.ensures.same c.deref.ensures.value c.in-None.ensures ∙ refused_later (g.S.Suite.meaning c.args.suite.now) (g.S.Inventory.inventory c.args.suite.now) (client_names c.args.self.now) (plan_asked 0 c.args.self.now.plan) c.in-Ok.ensures.refusal)
