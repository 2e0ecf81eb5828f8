use Rattle.std.proofs.lemmas.Result.{IfOk-weaker}
use Rattle.std.specs.Prelude.{IsTrue}
use Rattle.sshcore.specs.Endpoints.{endpoint_end}
use Rattle.sshworld.specs.Compatible.{AreCompatible}
use Rattle.sshworld.specs.Headline.{Headline}
use Rattle.sshworld.specs.Outcome.{outcome}
use Rattle.sshpromises.proofs.by_hand.run_agreeing.Goals as goal

pub returns-clause-headline : goal.returns-clause-headline
returns-clause-headline g c =
    let m = g.S.Suite.meaning c.args.suite.now in
    let d = g.D.Decisions.policy c.args.decisions.now in
    let client = c.args.client.now in
    let server = c.args.server.now in
    let ends = outcome m d client server in
    let compatible = c.follows_law.ensures.compatible m d client server (g.met.S.AgreeingSuite.agrees c.args.suite.now) c.parts.ensures.accepted c.parts-2.ensures.accepted in
    IfOk-weaker c.run_by_hand.result (λ ran. AreCompatible m d client server → Headline ends (endpoint_end ran.0.0) (endpoint_end ran.0.1) (IsTrue ran.1))
    (λ ran. Headline ends (endpoint_end ran.0.0) (endpoint_end ran.0.1) (IsTrue ran.1)) (λ ran h. h compatible) c.run_by_hand.ensures.headline
