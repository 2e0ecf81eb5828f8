use Rattle.sshpromises.proofs.ByHandLemmas.{uses_next}
use Rattle.sshpromises.proofs.by_hand.feed_next.Goals as goal

pub returns : goal.returns
returns g c = record {
  uses = uses_next g.S.Suite.meaning g.D.Decisions.policy c.args.endpoint.now c.feed.new.self c.args.out.now c.feed.new.out c.args.sent.now c.next_of.result.now c.args.used c.args.count
      c.next_of.ensures c.requires c.feed.result c.feed.ensures.fed c.feed.ensures.used c.feed.ensures.kept c.feed.ensures.ended;
}
