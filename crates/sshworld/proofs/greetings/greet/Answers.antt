use Rattle.std.proofs.Common.{refl}
use Rattle.sshneg.specs.declared.side.Side.TheVariants.{Client, Server}
use Rattle.sshworld.specs.Greetings.{asked}
use Rattle.sshworld.proofs.ReceiverLemmas.{IsLaw, delivered_new, done, greets, step_other, step_own}
use Rattle.sshworld.proofs.greetings.greet.Goals.{in-Client+in_ok-deliver-in-Client, in-Server+in_ok-deliver-in-Server}
use Rattle.sshworld.proofs.greetings.greet.Goals as goal
use Rattle.sshwire.specs.declared.limits.TheConstants.{OTHER_LINE_LIMIT}

pub loop-delivery-init : goal.loop-delivery-init
loop-delivery-init c = record {
  to_client = delivered_new OTHER_LINE_LIMIT (asked Client c.args.schedule.now) c.args.server.now c.new-at_client.result
      c.new-at_client.ensures.nothing c.new-at_client.ensures.may_read c.new-at_client.ensures.stands;
  to_server = delivered_new 0 (asked Server c.args.schedule.now) c.args.client.now c.new-at_server.result
      c.new-at_server.ensures.nothing c.new-at_server.ensures.may_read c.new-at_server.ensures.stands;
}

pub loop-delivery-preserved : goal.loop-delivery-preserved
loop-delivery-preserved c = elim c.match-delivery.branch [
  | in-Client+in_ok-deliver-in-Client w ↦
      let at = w.in_ok-deliver-in-Client.ensures in
      rw (w.at_client-is, w.at_server-is) (record {
        to_client = step_own Client c.args.schedule.now c.loop-delivery.delivery-index _ OTHER_LINE_LIMIT c.args.server.now c.loop-delivery.at_client w.deliver.new.self
            c.loop-delivery-test.true w.in-Client.is c.loop-delivery.invariant.to_client at.moved at.may_read (at.stands OTHER_LINE_LIMIT c.loop-delivery.invariant.to_client.stands);
        to_server = step_other Server Client c.args.schedule.now c.loop-delivery.delivery-index _ 0 c.args.client.now c.loop-delivery.at_server
            c.loop-delivery-test.true w.in-Client.is (λ n. refl) c.loop-delivery.invariant.to_server;
      })
  | in-Server+in_ok-deliver-in-Server w ↦
      let at = w.in_ok-deliver-in-Server.ensures in
      rw (w.at_client-is, w.at_server-is) (record {
        to_client = step_other Client Server c.args.schedule.now c.loop-delivery.delivery-index _ OTHER_LINE_LIMIT c.args.server.now c.loop-delivery.at_client
            c.loop-delivery-test.true w.in-Server.is (λ n. refl) c.loop-delivery.invariant.to_client;
        to_server = step_own Server c.args.schedule.now c.loop-delivery.delivery-index _ 0 c.args.client.now c.loop-delivery.at_server w.deliver-in-Server.new.self
            c.loop-delivery-test.true w.in-Server.is c.loop-delivery.invariant.to_server at.moved at.may_read (at.stands 0 c.loop-delivery.invariant.to_server.stands);
      })
]

pub returns : goal.returns
returns c =
    let law : IsLaw = record { one = c.reading_law.ensures.one; stays = c.reading_law.ensures.stays } in
    rw (c.into_reception.ensures, c.into_reception-2.ensures)
    (greets law c.args.client.now c.args.server.now c.args.schedule.now c.loop-delivery.at_client c.loop-delivery.at_server c.is_complete-complete.result
    (done Client c.args.schedule.now c.loop-delivery.delivery-index OTHER_LINE_LIMIT c.args.server.now c.loop-delivery.at_client c.loop-delivery-test.false c.loop-delivery.invariant.to_client)
    (done Server c.args.schedule.now c.loop-delivery.delivery-index 0 c.args.client.now c.loop-delivery.at_server c.loop-delivery-test.false c.loop-delivery.invariant.to_server)
    c.is_complete-complete.ensures)
