use Rattle.std.proofs.Common.{◌++◌, None, Some, ◌∙◌}
use Rattle.sshcore.specs.SuiteFit.{server_names, host_keys_asked, suite_fault_data}
use Rattle.sshcore.proofs.SuiteFitLemmas.{fits, fits_not, keys_short, refused_first, refused_later, server_keys_judged, server_named}
use Rattle.sshcore.proofs.config_server.ServerConfig.judge.Goals as goal

pub unheld_host_key-requires-clause-names : goal.unheld_host_key-requires-clause-names
unheld_host_key-requires-clause-names g c = rw c.deref.ensures.value (server_named c.parts.result.now c.args.self.now c.parts.ensures.same c.parts.ensures.accepted).1

pub unheld_host_key-requires-clause-short : goal.unheld_host_key-requires-clause-short
unheld_host_key-requires-clause-short g c = rw c.deref.ensures.value (keys_short c.parts.result.now c.args.self.now c.parts.ensures.same c.parts.ensures.accepted)

pub returns-in-Err-clause-refusal : goal.returns-in-Err-clause-refusal
returns-in-Err-clause-refusal g c = refused_first (g.S.Suite.meaning c.args.suite.now) (g.S.Inventory.inventory c.args.suite.now) (server_names c.args.self.now) (host_keys_asked 0 c.args.self.now.host_keys) (suite_fault_data c.in-Err.fault) c.in-Err.ensures.refusal

pub returns-in-Err-clause-unfit : goal.returns-in-Err-clause-unfit
returns-in-Err-clause-unfit g c = fits_not (g.S.Suite.meaning c.args.suite.now) (g.S.Inventory.inventory c.args.suite.now) (server_names c.args.self.now ++ host_keys_asked 0 c.args.self.now.host_keys) (suite_fault_data c.in-Err.fault) (refused_first (g.S.Suite.meaning c.args.suite.now) (g.S.Inventory.inventory c.args.suite.now) (server_names c.args.self.now) (host_keys_asked 0 c.args.self.now.host_keys) (suite_fault_data c.in-Err.fault) c.in-Err.ensures.refusal)

pub returns-in-Some-clause-refusal : goal.returns-in-Some-clause-refusal
returns-in-Some-clause-refusal g c = server_keys_judged (g.S.Suite.meaning c.args.suite.now) (g.S.Inventory.inventory c.args.suite.now) c.parts.result.now c.args.self.now c.deref.result.now (Some (suite_fault_data c.in-Some.fault)) c.parts.ensures.same c.deref.ensures.value c.in-Some.ensures ∙ refused_later (g.S.Suite.meaning c.args.suite.now) (g.S.Inventory.inventory c.args.suite.now) (server_names c.args.self.now) (host_keys_asked 0 c.args.self.now.host_keys) c.in-Ok.ensures.refusal

pub returns-in-Some-clause-unfit : goal.returns-in-Some-clause-unfit
returns-in-Some-clause-unfit g c = fits_not (g.S.Suite.meaning c.args.suite.now) (g.S.Inventory.inventory c.args.suite.now) (server_names c.args.self.now ++ host_keys_asked 0 c.args.self.now.host_keys) (suite_fault_data c.in-Some.fault) (server_keys_judged (g.S.Suite.meaning c.args.suite.now) (g.S.Inventory.inventory c.args.suite.now) c.parts.result.now c.args.self.now c.deref.result.now (Some (suite_fault_data c.in-Some.fault)) c.parts.ensures.same c.deref.ensures.value c.in-Some.ensures ∙ refused_later (g.S.Suite.meaning c.args.suite.now) (g.S.Inventory.inventory c.args.suite.now) (server_names c.args.self.now) (host_keys_asked 0 c.args.self.now.host_keys) c.in-Ok.ensures.refusal)

pub returns-in-None-clause-refusal : goal.returns-in-None-clause-refusal
returns-in-None-clause-refusal g c = server_keys_judged (g.S.Suite.meaning c.args.suite.now) (g.S.Inventory.inventory c.args.suite.now) c.parts.result.now c.args.self.now c.deref.result.now None c.parts.ensures.same c.deref.ensures.value c.in-None.ensures ∙ refused_later (g.S.Suite.meaning c.args.suite.now) (g.S.Inventory.inventory c.args.suite.now) (server_names c.args.self.now) (host_keys_asked 0 c.args.self.now.host_keys) c.in-Ok.ensures.refusal

pub returns-in-None-clause-fit : goal.returns-in-None-clause-fit
returns-in-None-clause-fit g c = fits (g.S.Suite.meaning c.args.suite.now) (g.S.Inventory.inventory c.args.suite.now) (server_names c.args.self.now ++ host_keys_asked 0 c.args.self.now.host_keys) (server_keys_judged (g.S.Suite.meaning c.args.suite.now) (g.S.Inventory.inventory c.args.suite.now) c.parts.result.now c.args.self.now c.deref.result.now None c.parts.ensures.same c.deref.ensures.value c.in-None.ensures ∙ refused_later (g.S.Suite.meaning c.args.suite.now) (g.S.Inventory.inventory c.args.suite.now) (server_names c.args.self.now) (host_keys_asked 0 c.args.self.now.host_keys) c.in-Ok.ensures.refusal)
