use Rattle.std.proofs.Common.{◌≡◌, List, [], ◌∷◌, ℕ, true}
use Rattle.std.specs.List.{AllByRecursion}
use Prim.{tt}
use Rattle.sshsuite.specs.Deployed.{is_curve25519}
use Rattle.sshpromises.specs.Deployed.{ByCurve25519, CanAgree}
use Rattle.sshpromises.proofs.deployed.run_deployed.Goals as goal

can_each : (client server : List ℕ) (names : List (List ℕ)) → AllByRecursion (λ (name : List ℕ). is_curve25519 name ≡ true) names → AllByRecursion (λ (name : List ℕ). CanAgree name client server) names
can_each client server [] all = tt
can_each client server (name ∷ names) all = (ByCurve25519 all.0, can_each client server names all.1)

pub run_any_deployed-requires : goal.run_any_deployed-requires
run_any_deployed-requires g c =
    let client = c.args.client.now in
    record {
      can_agree = can_each client.side.random c.args.server.now.side.random client.side.kex_algorithms c.requires.by_curve25519;
      client_fits = c.requires.client_fits;
      server_fits = c.requires.server_fits;
    }
