use Rattle.sshpromises.specs.Claims.{AreJoinedSomehow}
use Rattle.sshwire.proofs.OwnedLemmas.{once_ok, where_ok}
use Rattle.sshpromises.proofs.SessionLemmas.{hand_joined}
use Rattle.sshpromises.proofs.sessions.joined_by_hand.Goals as goal

pub returns : goal.returns
returns g c =
    let two = c.in_ok-of_client-2 in
    let fed = c.feed_each-fed in
    record {
      joined = once_ok c.once.result (λ ends. AreJoinedSomehow g.S.Suite.meaning g.D.Decisions.policy c.args.client.now c.args.server.now ends.0 ends.1)
          tt fed.result (fed.new.of_client, fed.new.of_server) c.once.ensures.value c.once.ensures.done
          (where_ok fed.result fed.ensures (λ f. hand_joined g.S.Suite.meaning g.D.Decisions.policy c.args.client.now c.args.server.now c.args.suite.now c.args.decisions.now
          c.in_ok-of_client.of_client two.of_client fed.new.of_client two.of_server fed.new.of_server c.server-of_server.result _ _ _ _ c.new-to_server.ensures.items c.new-to_client.ensures.items
          two.ensures.first two.ensures.other c.in_ok-of_client.ensures.made c.server-of_server.ensures.made
          f.0 f.1 f.2 f.3 f.4 f.5));
    }
