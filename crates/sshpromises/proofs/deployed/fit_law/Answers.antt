use Rattle.std.proofs.Common.{List, ℕ}
use Rattle.sshsuite.specs.Deployed.{deployed}
use Rattle.sshsuite.specs.DeployedInventory.{deployed_inventory}
use Rattle.sshpromises.specs.Deployed.{CanAgree}
use Rattle.sshpromises.proofs.FitLemmas.{host_key_held, method_in, plan_held}
use Rattle.sshpromises.proofs.deployed.fit_law.Goals as goal

pub returns : goal.returns
returns c =
    let names = c.choice_law.ensures.names deployed in
    let listed = c.choice_law.ensures.listed deployed in
    λ d client server can client_fits server_fits. c.compatible_law.ensures d client server
    (λ a is. method_in deployed deployed_inventory names listed client server a is (λ (name : List ℕ). CanAgree name client.side.random server.side.random) c.markers_law.ensures.method c.markers_law.ensures.strict can)
    (λ a is. host_key_held deployed deployed_inventory names listed client server a is server_fits)
    (plan_held deployed deployed_inventory client client_fits)
