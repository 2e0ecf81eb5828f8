use Rattle.std.proofs.Common.{◌≤◌, length, take}
use Rattle.sshpromises.specs.Claims.{RunsByHand, SettlesByHand, StayOnWire, wire_end}
use Rattle.sshpromises.proofs.by_hand.carry.Given as goal

-- so many deliveries were done; both stay on a wire, and neither has used more than the other has sent
abbrev pub invariant-loop-delivery : goal.invariant-loop-delivery
invariant-loop-delivery g l = record {
  runs : RunsByHand g.S.Suite.meaning g.D.Decisions.policy (take l.delivery-index l.schedule) (wire_end l.fn.client l.fn.to_server 0) (wire_end l.fn.server l.fn.to_client 0)
      (wire_end l.client l.to_server l.used_by_client) (wire_end l.server l.to_client l.used_by_server);
  stay : StayOnWire g.S.Suite.meaning g.D.Decisions.policy (wire_end l.fn.client l.fn.to_server 0) (wire_end l.fn.server l.fn.to_client 0)
      (wire_end l.client l.to_server l.used_by_client) (wire_end l.server l.to_client l.used_by_server);
  client_within : l.used_by_client ≤ length l.to_client.items;
  server_within : l.used_by_server ≤ length l.to_server.items;
}

-- all deliveries and so many rounds were done; both stay on a wire, and neither has used more than the other has sent
abbrev pub invariant-loop : goal.invariant-loop
invariant-loop g l = record {
  settles : SettlesByHand g.S.Suite.meaning g.D.Decisions.policy l.fn.schedule l.counter (wire_end l.fn.client l.fn.to_server 0) (wire_end l.fn.server l.fn.to_client 0)
      (wire_end l.client l.to_server l.used_by_client) (wire_end l.server l.to_client l.used_by_server);
  stay : StayOnWire g.S.Suite.meaning g.D.Decisions.policy (wire_end l.fn.client l.fn.to_server 0) (wire_end l.fn.server l.fn.to_client 0)
      (wire_end l.client l.to_server l.used_by_client) (wire_end l.server l.to_client l.used_by_server);
  client_within : l.used_by_client ≤ length l.to_client.items;
  server_within : l.used_by_server ≤ length l.to_server.items;
}
