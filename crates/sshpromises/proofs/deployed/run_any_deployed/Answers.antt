use Rattle.std.proofs.Common.{ℕ}
use Rattle.std.proofs.lemmas.Result.{IfOk-weaker}
use Rattle.std.specs.List.{AllByRecursion}
use Rattle.std.specs.Prelude.{IsTrue}
use Prim.{tt}
use Rattle.sshcore.specs.Endpoints.{endpoint_end}
use Rattle.sshsuite.specs.Deployed.{deployed, is_curve25519}
use Rattle.sshworld.specs.Compatible.{AreCompatible}
use Rattle.sshworld.specs.Headline.{Headline}
use Rattle.sshworld.specs.Outcome.{outcome}
use Rattle.sshpromises.proofs.deployed.run_any_deployed.Goals as goal

pub returns-clause-headline : goal.returns-clause-headline
returns-clause-headline g c =
    let d = g.D.Decisions.policy c.args.decisions.now in
    let client = c.args.client.now in
    let server = c.args.server.now in
    let ends = outcome deployed d client server in
    let compatible = c.fit_law.ensures d client server c.requires.can_agree c.requires.client_fits c.requires.server_fits in
    IfOk-weaker c.run_by_hand.result (λ ran. AreCompatible deployed d client server → Headline ends (endpoint_end ran.0.0) (endpoint_end ran.0.1) (IsTrue ran.1))
    (λ ran. Headline ends (endpoint_end ran.0.0) (endpoint_end ran.0.1) (IsTrue ran.1)) (λ ran h. h compatible) c.run_by_hand.ensures.headline
