use Rattle.sshworld.specs.Outcome.{outcome}
use Rattle.sshpromises.specs.Claims.{HasRun, PairIs}
use Rattle.sshwire.proofs.OwnedLemmas.{beside_ok, with_first}
use Rattle.sshpromises.proofs.WorldLemmas.{pair_with}
use Rattle.sshpromises.proofs.worlds.any_two.Goals as goal

pub returns : goal.returns
returns g c =
    let second = c.schedule_ends-other in
    let m = g.S.Suite.meaning in
    let d = g.D.Decisions.policy in
    let client = c.args.client.now in
    let server = c.args.server.now in
    let suite = c.args.suite.now in
    let decisions = c.args.decisions.now in
    record {
      ran = beside_ok c.beside.result (λ one other. HasRun m d client server suite decisions c.args.first.now one × HasRun m d client server suite decisions c.args.second.now other)
          second.result c.in_ok-one.one c.beside.ensures.first c.beside.ensures.other
          (with_first second.result (λ w. HasRun m d client server suite decisions c.args.second.now w) c.in_ok-one.ensures.ran second.ensures.ran);
      one = beside_ok c.beside.result (λ one other. PairIs one other) second.result c.in_ok-one.one c.beside.ensures.first c.beside.ensures.other
          (pair_with second.result (outcome (g.S.Suite.meaning c.args.suite.now) (g.D.Decisions.policy c.args.decisions.now) c.args.client.now c.args.server.now) second.ensures.ends
          c.in_ok-one.one c.in_ok-one.ensures.ends);
    }
