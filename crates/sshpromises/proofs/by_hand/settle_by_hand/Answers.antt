use Rattle.std.proofs.Common.{◌+◌, ◌≤◌}
use Rattle.std.proofs.lemmas.Result.{IfOk-weaker}
use Rattle.std.specs.Prelude.{IsTrue}
use Rattle.sshcore.specs.Endpoints.{endpoint_end}
use Rattle.sshworld.specs.Compatible.{AreCompatible}
use Rattle.sshworld.specs.Headline.{Headline}
use Rattle.sshworld.specs.Offered.{most_requests}
use Rattle.sshworld.specs.Outcome.{outcome}
use Rattle.sshpromises.specs.Claims.{CarriesOn, HasSettledByHand, SettlesByHand, wire_end}
use Rattle.sshpromises.proofs.ByHandLemmas.{came_by_hand, done_by_hand, headline_by_hand, runs_on}
use Rattle.sshwire.proofs.OwnedLemmas.{beside_ok}
use Rattle.sshpromises.proofs.by_hand.settle_by_hand.Goals as goal

pub returns : goal.returns
returns g c =
    let m = g.S.Suite.meaning in
    let d = g.D.Decisions.policy in
    let client = c.args.client.now in
    let server = c.args.server.now in
    let suite = c.args.suite.now in
    let decisions = c.args.decisions.now in
    let rounds = c.args.rounds in
    let schedule = c.args.schedule.now in
    let by = SettlesByHand m d schedule rounds in
    let ends = outcome (m suite) (d decisions) client server in
    let two = c.in_ok-of_client-2 in
    let done = c.carry-settled in
    record {
      ran = beside_ok c.beside-2.result (λ both done. HasSettledByHand m d client server suite decisions schedule rounds both.0 both.1 (IsTrue done)) done.result (done.new.client, done.new.server)
          c.beside-2.ensures.first c.beside-2.ensures.other
          (IfOk-weaker done.result (λ all. CarriesOn m d two.of_client two.of_server c.client.new.out c.server-of_server.new.out by done.new.client done.new.server (IsTrue all))
          (λ all. HasSettledByHand m d client server suite decisions schedule rounds done.new.client done.new.server (IsTrue all))
          (λ all carries. came_by_hand m d client server suite decisions c.in_ok-of_client.of_client two.of_client done.new.client two.of_server done.new.server
          c.server-of_server.result _ _ c.client.new.out c.server-of_server.new.out c.new-to_server.ensures.items c.new-to_client.ensures.items
          two.ensures.first two.ensures.other c.in_ok-of_client.ensures.made c.server-of_server.ensures.made c.parts.ensures.accepted c.parts-2.ensures.accepted
          (c.wire_law.ensures.begins client server suite decisions two.of_client two.of_server c.client.new.out c.server-of_server.new.out)
          by (IsTrue all) carries by (λ a b one other came. came))
          done.ensures.carries);
      bound = beside_ok c.beside-2.result (λ both done. AreCompatible (m suite) (d decisions) client server → most_requests client.plan + 4 ≤ rounds → IsTrue done)
          done.result (done.new.client, done.new.server) c.beside-2.ensures.first c.beside-2.ensures.other
          (IfOk-weaker done.result (λ all. CarriesOn m d two.of_client two.of_server c.client.new.out c.server-of_server.new.out by done.new.client done.new.server (IsTrue all))
          (λ all. AreCompatible (m suite) (d decisions) client server → most_requests client.plan + 4 ≤ rounds → IsTrue all)
          (λ all carries compatible few. done_by_hand m d client server suite decisions c.in_ok-of_client.of_client two.of_client done.new.client two.of_server done.new.server
          c.server-of_server.result _ _ c.client.new.out c.server-of_server.new.out c.new-to_server.ensures.items c.new-to_client.ensures.items
          two.ensures.first two.ensures.other c.in_ok-of_client.ensures.made c.server-of_server.ensures.made c.parts.ensures.accepted c.parts-2.ensures.accepted
          (c.wire_law.ensures.begins client server suite decisions two.of_client two.of_server c.client.new.out c.server-of_server.new.out)
          by (IsTrue all) carries
          (λ one other on run. c.rounds_law.ensures client server suite decisions run.0 run.1 one other rounds compatible
          (runs_on m d client server suite decisions (c.wire_law.ensures.client_uses client server suite decisions) (c.wire_law.ensures.server_uses client server suite decisions) schedule
          (wire_end two.of_client c.client.new.out 0) (wire_end two.of_server c.server-of_server.new.out 0) run.0 run.1 on run.2)
          run.3 few))
          done.ensures.carries);
      headline = beside_ok c.beside-2.result (λ both done. AreCompatible (m suite) (d decisions) client server → Headline ends (endpoint_end both.0) (endpoint_end both.1) (IsTrue done))
          done.result (done.new.client, done.new.server) c.beside-2.ensures.first c.beside-2.ensures.other
          (IfOk-weaker done.result (λ all. CarriesOn m d two.of_client two.of_server c.client.new.out c.server-of_server.new.out by done.new.client done.new.server (IsTrue all))
          (λ all. AreCompatible (m suite) (d decisions) client server → Headline ends (endpoint_end done.new.client) (endpoint_end done.new.server) (IsTrue all))
          (λ all carries. headline_by_hand m d client server suite decisions c.in_ok-of_client.of_client two.of_client done.new.client two.of_server done.new.server
          c.server-of_server.result _ _ c.client.new.out c.server-of_server.new.out c.new-to_server.ensures.items c.new-to_client.ensures.items
          two.ensures.first two.ensures.other c.in_ok-of_client.ensures.made c.server-of_server.ensures.made c.parts.ensures.accepted c.parts-2.ensures.accepted
          (c.wire_law.ensures.begins client server suite decisions two.of_client two.of_server c.client.new.out c.server-of_server.new.out)
          by (IsTrue all) carries (c.wire_law.ensures.ends client server suite decisions))
          done.ensures.carries);
    }
