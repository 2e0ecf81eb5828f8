use Rattle.std.proofs.Common.{◌∙◌, ap}
use Rattle.sshcore.specs.Redrawn.{redrawn_client, redrawn_server}
use Rattle.sshworld.specs.Outcome.{BothEnds}
use Rattle.sshworld.proofs.DrawnLemmas.{same_outcome}
use Rattle.sshworld.proofs.SessionLemmas.{if_ok}
use Rattle.sshworld.proofs.prediction.predict_with.Goals as goal

pub returns : goal.returns
returns g c =
    let m = g.S.Suite.meaning c.args.suite.now in
    let d = g.D.Decisions.policy c.args.decisions.now in
    let client = redrawn_client c.args.client_draws.now c.args.client.now in
    let server = redrawn_server c.args.server_draws.now c.args.server.now in
    let one = c.new-client.ensures.drawn ∙ ap (λ draws. redrawn_client draws c.args.client.now) c.again.ensures in
    let other = c.new-server.ensures.drawn ∙ ap (λ draws. redrawn_server draws c.args.server.now) c.again-2.ensures in
    let same = same_outcome m d c.new-client.result client c.new-server.result server one other in
    record {
      outcome = if_ok c.predict_drawn.result (λ ends e. (e.0 ∙ ap (λ (b : BothEnds). b.client) same, e.1 ∙ ap (λ (b : BothEnds). b.server) same)) c.predict_drawn.ensures.outcome;
    }
