use Rattle.std.proofs.Common.{◌∙◌, ◌+◌, ◌≤◌, List, ℕ, ap, arith, length, refl, subst, sym}
use Rattle.std.proofs.lemmas.List.{take_all}
use Rattle.std.specs.Prelude.{IsTrue}
use Rattle.sshworld.specs.declared.side.Delivery.{Delivery}
use Rattle.sshneg.specs.declared.side.Side.TheVariants.{Client, Server}
use Rattle.sshpromises.specs.Claims.{FedNext, RunsByHand, SettlesByHand, wire_end}
use Rattle.sshpromises.proofs.ByHandLemmas.{by_hand_more, round_more, sent_more}
use Rattle.sshpromises.proofs.by_hand.carry.Goals as goal
use Rattle.sshpromises.proofs.by_hand.carry.Goals.{else-is_done, in-Client+in_ok-used-in-Client, in-Server+in_ok-used-in-Server, then-is_done}

pub loop-delivery-preserved : goal.loop-delivery-preserved
loop-delivery-preserved g c =
    let m = g.S.Suite.meaning in
    let d = g.D.Decisions.policy in
    let l = c.loop-delivery in
    let i = c.loop-delivery.invariant in
    let client = wire_end l.client l.to_server l.used_by_client in
    let server = wire_end l.server l.to_client l.used_by_server in
    elim c.match-delivery.branch [
      | in-Client+in_ok-used-in-Client w ↦
          let n = w.in_ok-used-in-Client.used in
          let new = wire_end w.feed_next.new.endpoint w.feed_next.new.out (l.used_by_client + n) in
          let fed = subst (λ (s : List ℕ). FedNext m d _ s n client new) w.deref.ensures.value w.in_ok-used-in-Client.ensures.uses in
          let u = fed.uses in
          let grows : length l.to_server.items ≤ length w.feed_next.new.out.items = sent_more m d l.to_client.items n client new u in
          rw (w.client-is, w.server-is, w.to_server-is, w.to_client-is, w.used_by_client-is, w.used_by_server-is) (record {
            runs = by_hand_more m d Client c.args.schedule.now l.delivery-index _ (wire_end c.args.client.now c.args.to_server 0) (wire_end c.args.server.now c.args.to_client 0) client server new server
                c.loop-delivery-test.true w.in-Client.is i.runs ((n, fed), refl);
            stay = λ client_config server_config suite decisions on.
                c.wire_law.ensures.client_uses client_config server_config suite decisions client server new n (i.stay client_config server_config suite decisions on) u;
            client_within = u.within;
            server_within = omega (arith, i.server_within, grows);
          })
      | in-Server+in_ok-used-in-Server w ↦
          let n = w.in_ok-used-in-Server.used in
          let new = wire_end w.feed_next-in-Server.new.endpoint w.feed_next-in-Server.new.out (l.used_by_server + n) in
          let fed = subst (λ (s : List ℕ). FedNext m d _ s n server new) w.deref-in-Server.ensures.value w.in_ok-used-in-Server.ensures.uses in
          let u = fed.uses in
          let grows : length l.to_client.items ≤ length w.feed_next-in-Server.new.out.items = sent_more m d l.to_server.items n server new u in
          rw (w.client-is, w.server-is, w.to_server-is, w.to_client-is, w.used_by_client-is, w.used_by_server-is) (record {
            runs = by_hand_more m d Server c.args.schedule.now l.delivery-index _ (wire_end c.args.client.now c.args.to_server 0) (wire_end c.args.server.now c.args.to_client 0) client server client new
                c.loop-delivery-test.true w.in-Server.is i.runs ((n, fed), refl);
            stay = λ client_config server_config suite decisions on.
                c.wire_law.ensures.server_uses client_config server_config suite decisions client server new n (i.stay client_config server_config suite decisions on) u;
            client_within = omega (arith, i.client_within, grows);
            server_within = u.within;
          })
    ]

pub loop-init : goal.loop-init
loop-init g c =
    let m = g.S.Suite.meaning in
    let d = g.D.Decisions.policy in
    let l = c.loop-delivery in
    let client = wire_end l.client l.to_server l.used_by_client in
    let server = wire_end l.server l.to_client l.used_by_server in
    record {
      settles = (
        client,
        server,
        subst (λ (q : List Delivery). RunsByHand m d q (wire_end c.args.client.now c.args.to_server 0) (wire_end c.args.server.now c.args.to_client 0) client server)
            (take_all l.delivery-index c.args.schedule.now c.loop-delivery-test.false) l.invariant.runs,
        (refl, refl),
      );
      stay = l.invariant.stay;
      client_within = l.invariant.client_within;
      server_within = l.invariant.server_within;
    }

pub loop-preserved : goal.loop-preserved
loop-preserved g c =
    let m = g.S.Suite.meaning in
    let d = g.D.Decisions.policy in
    let l = c.loop in
    let i = c.loop.invariant in
    let client = wire_end l.client l.to_server l.used_by_client in
    let server = wire_end l.server l.to_client l.used_by_server in
    let n = c.in_ok-used.used in
    let new_server = wire_end c.feed_rest.new.endpoint c.feed_rest.new.out (l.used_by_server + n) in
    let fed_server = subst (λ (s : List ℕ). FedNext m d (length s) s n server new_server) c.deref-in-loop.ensures.value c.in_ok-used.ensures.uses in
    let k = c.in_ok-used-2.used in
    let new_client = wire_end c.feed_rest-in-loop.new.endpoint c.feed_rest-in-loop.new.out (l.used_by_client + k) in
    let fed_client = subst (λ (s : List ℕ). FedNext m d (length s) s k client new_client) c.deref-in-loop-2.ensures.value c.in_ok-used-2.ensures.uses in
    let grows : length l.to_server.items ≤ length new_client.sent.items = sent_more m d new_server.sent.items k client new_client fed_client.uses in
    record {
      settles = (
        i.settles.0,
        i.settles.1,
        i.settles.2,
        round_more m d l.counter i.settles.0 i.settles.1 client server new_client new_server n k i.settles.3 fed_server fed_client,
      );
      stay = λ client_config server_config suite decisions on.
          c.wire_law.ensures.client_uses client_config server_config suite decisions client new_server new_client k
          (c.wire_law.ensures.server_uses client_config server_config suite decisions client server new_server n (i.stay client_config server_config suite decisions on) fed_server.uses) fed_client.uses;
      client_within = fed_client.uses.within;
      server_within = omega (arith, fed_server.uses.within, grows);
    }

pub returns : goal.returns
returns g c =
    let l = c.loop in
    record {
      carries = record {
        client_sent = l.to_server;
        client_used = l.used_by_client;
        server_sent = l.to_client;
        server_used = l.used_by_server;
        came = subst (λ (r : ℕ). SettlesByHand g.S.Suite.meaning g.D.Decisions.policy c.args.schedule.now r (wire_end c.args.client.now c.args.to_server 0) (wire_end c.args.server.now c.args.to_client 0)
            (wire_end l.client l.to_server l.used_by_client) (wire_end l.server l.to_client l.used_by_server)) (omega (arith, c.loop-test.false, c.loop.auto.counter-end)) l.invariant.settles;
        stay = l.invariant.stay;
        all_done = elim c.if-is_done.branch [
          | then-is_done w ↦ (
            λ done. record {
              client_all = λ o. c.is_done.ensures.0 w.if-is_done.true o ∙ ap length c.deref-2.ensures.value;
              server_all = λ o. w.is_done-then-is_done.ensures.0 (subst IsTrue w.result-is done) o ∙ ap length w.deref-then-is_done.ensures.value;
            },
            λ all. subst IsTrue (sym w.result-is) (w.is_done-then-is_done.ensures.1 (λ o. all.server_all o ∙ ap length (sym w.deref-then-is_done.ensures.value))),
          )
          | else-is_done w ↦ (
            λ done. absurd (cc (w.result-is, done)),
            λ all. let e = c.is_done.ensures.1 (λ o. all.client_all o ∙ ap length (sym c.deref-2.ensures.value)) in absurd (cc (w.if-is_done.false, e)),
          )
        ];
      };
    }
