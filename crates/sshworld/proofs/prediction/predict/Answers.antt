use Rattle.std.proofs.Common.{◌∙◌, ap}
use Rattle.sshcore.specs.Redrawn.{redrawn_client, redrawn_server}
use Rattle.sshworld.specs.Outcome.{BothEnds}
use Rattle.sshworld.proofs.DrawnLemmas.{same_outcome}
use Rattle.sshworld.proofs.SessionLemmas.{if_ok}
use Rattle.sshworld.proofs.prediction.predict.Goals as goal

pub returns : goal.returns
returns g c =
    let m = g.S.Suite.meaning c.args.suite.now in
    let d = g.D.Decisions.policy c.args.decisions.now in
    let client = c.args.client.now in
    let server = c.args.server.now in
    let same = same_outcome m d (redrawn_client c.draws-client_draws.result client) client (redrawn_server c.draws-server_draws.result server) server c.draws-client_draws.ensures.same c.draws-server_draws.ensures.same in
    record {
      outcome = if_ok c.predict_with.result (λ ends e. (e.0 ∙ ap (λ (b : BothEnds). b.client) same, e.1 ∙ ap (λ (b : BothEnds). b.server) same)) c.predict_with.ensures.outcome;
    }
