use Rattle.std.proofs.Common.{◌∙◌, ap}
use Rattle.sshcore.specs.Redrawn.{draws_of}
use Rattle.sshworld.specs.Verdicts.{Verdict}
use Rattle.sshworld.proofs.DrawnLemmas.{same_verdict}
use Rattle.sshworld.proofs.SessionLemmas.{if_ok}
use Rattle.sshworld.proofs.predicted_ends.judge_drawn.Goals as goal

pub returns : goal.returns
returns g c =
    let m = g.S.Suite.meaning c.args.suite.now in
    let d = g.D.Decisions.policy c.args.decisions.now in
    let client = c.args.client.now in
    let server = c.args.server.now in
    let same = same_verdict m d (draws_of client.side) (draws_of server.side) c.config.result.now client c.config-2.result.now server c.config.ensures c.config-2.ensures in
    if_ok c.judge.result (λ judged e. e ∙ ap (λ (v : Verdict). v.how) same) c.judge.ensures
