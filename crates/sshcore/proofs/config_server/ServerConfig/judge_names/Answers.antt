use Rattle.std.proofs.Common.{None, Some, ap, map, option_map, ◌∙◌}
use Rattle.sshcore.specs.declared.config_suite_fault.AlgorithmList.TheVariants as algorithms
use Rattle.sshcore.specs.ConfigParts.{key_algorithms}
use Rattle.sshcore.specs.ConfigView.{host_key_data}
use Rattle.sshcore.specs.SuiteFit.{server_names, named_in, suite_fault_data, suite_refusal}
use Rattle.sshcore.proofs.SuiteFitLemmas.{server_judged, server_named, fits, fits_not}
use Rattle.sshcore.proofs.config_server.ServerConfig.judge_names.Goals as goal

pub unknown_host_key-host_keys-requires : goal.unknown_host_key-host_keys-requires
unknown_host_key-host_keys-requires g c = rw c.deref.ensures.value (server_named c.parts-parts.result.now c.args.self.now c.parts-parts.ensures.same c.parts-parts.ensures.accepted).1

pub unknown_algorithm-requires-clause-kex : goal.unknown_algorithm-requires-clause-kex
unknown_algorithm-requires-clause-kex g c = (server_named c.parts-parts.result.now c.args.self.now c.parts-parts.ensures.same c.parts-parts.ensures.accepted).0

pub unknown_algorithm-requires-clause-to_server : goal.unknown_algorithm-requires-clause-to_server
unknown_algorithm-requires-clause-to_server g c = (server_named c.parts-parts.result.now c.args.self.now c.parts-parts.ensures.same c.parts-parts.ensures.accepted).2

pub unknown_algorithm-requires-clause-to_client : goal.unknown_algorithm-requires-clause-to_client
unknown_algorithm-requires-clause-to_client g c = (server_named c.parts-parts.result.now c.args.self.now c.parts-parts.ensures.same c.parts-parts.ensures.accepted).3

pub unknown_algorithm-requires-clause-mac_to_server : goal.unknown_algorithm-requires-clause-mac_to_server
unknown_algorithm-requires-clause-mac_to_server g c = (server_named c.parts-parts.result.now c.args.self.now c.parts-parts.ensures.same c.parts-parts.ensures.accepted).4

pub unknown_algorithm-requires-clause-mac_to_client : goal.unknown_algorithm-requires-clause-mac_to_client
unknown_algorithm-requires-clause-mac_to_client g c = (server_named c.parts-parts.result.now c.args.self.now c.parts-parts.ensures.same c.parts-parts.ensures.accepted).5

pub returns-in-Some-clause-refusal : goal.returns-in-Some-clause-refusal
returns-in-Some-clause-refusal g c = server_judged (g.S.Suite.meaning c.args.suite.now) (g.S.Inventory.inventory c.args.suite.now) c.parts-parts.result.now c.args.self.now (option_map suite_fault_data c.unknown_host_key-host_keys.result) (Some (suite_fault_data c.in-Some.fault)) c.parts-parts.ensures.same (c.unknown_host_key-host_keys.ensures ∙ ap (λ xs. suite_refusal (g.S.Suite.meaning c.args.suite.now) (g.S.Inventory.inventory c.args.suite.now) (named_in algorithms.HostKey (key_algorithms (map host_key_data xs)))) c.deref.ensures.value) c.in-Some.ensures

pub returns-in-Some-clause-unfit : goal.returns-in-Some-clause-unfit
returns-in-Some-clause-unfit g c =
    fits_not (g.S.Suite.meaning c.args.suite.now) (g.S.Inventory.inventory c.args.suite.now) (server_names c.args.self.now) (suite_fault_data c.in-Some.fault) (server_judged (g.S.Suite.meaning c.args.suite.now) (g.S.Inventory.inventory c.args.suite.now) c.parts-parts.result.now c.args.self.now (option_map suite_fault_data c.unknown_host_key-host_keys.result) (Some (suite_fault_data c.in-Some.fault)) c.parts-parts.ensures.same (c.unknown_host_key-host_keys.ensures ∙ ap (λ xs. suite_refusal (g.S.Suite.meaning c.args.suite.now) (g.S.Inventory.inventory c.args.suite.now) (named_in algorithms.HostKey (key_algorithms (map host_key_data xs)))) c.deref.ensures.value) c.in-Some.ensures)

pub returns-in-None-clause-refusal : goal.returns-in-None-clause-refusal
returns-in-None-clause-refusal g c = server_judged (g.S.Suite.meaning c.args.suite.now) (g.S.Inventory.inventory c.args.suite.now) c.parts-parts.result.now c.args.self.now (option_map suite_fault_data c.unknown_host_key-host_keys.result) None c.parts-parts.ensures.same (c.unknown_host_key-host_keys.ensures ∙ ap (λ xs. suite_refusal (g.S.Suite.meaning c.args.suite.now) (g.S.Inventory.inventory c.args.suite.now) (named_in algorithms.HostKey (key_algorithms (map host_key_data xs)))) c.deref.ensures.value) c.in-None.ensures

pub returns-in-None-clause-fit : goal.returns-in-None-clause-fit
returns-in-None-clause-fit g c =
    fits (g.S.Suite.meaning c.args.suite.now) (g.S.Inventory.inventory c.args.suite.now) (server_names c.args.self.now) (server_judged (g.S.Suite.meaning c.args.suite.now) (g.S.Inventory.inventory c.args.suite.now) c.parts-parts.result.now c.args.self.now (option_map suite_fault_data c.unknown_host_key-host_keys.result) None c.parts-parts.ensures.same (c.unknown_host_key-host_keys.ensures ∙ ap (λ xs. suite_refusal (g.S.Suite.meaning c.args.suite.now) (g.S.Inventory.inventory c.args.suite.now) (named_in algorithms.HostKey (key_algorithms (map host_key_data xs)))) c.deref.ensures.value) c.in-None.ensures)
