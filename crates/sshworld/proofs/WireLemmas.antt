-- Two endpoints on a wire are the nodes of a world.

use Rattle.std.proofs.Common.{◌≡◌, ◌≢◌, inl, inr, ℕ, zero, suc, List, [], ◌∷◌, drop, length, refl, ap, arith, subst, sym, take}
use Rattle.std.specs.Prelude.{Vec}
use Rattle.std.specs.Global.{Global}
use Rattle.sshneg.specs.declared.side.Side.TheVariants.{Client, Server}
use Rattle.sshneg.specs.declared.side.Side.TheVariants as role
use Rattle.sshpacket.specs.Suite.{IsLawful, SuiteData}
use Rattle.sshcore.specs.ConfigParts.{ClientData, ServerData}
use Rattle.sshcore.specs.ConfigRules.{IsClient, IsServer}
use Rattle.sshcore.specs.declared.end.Fault.TheVariants as fault
use Rattle.sshcore.specs.EndData.{Authenticated, Closed, Disconnected, EndData, Failed, Open}
use Rattle.sshcore.specs.EndpointData.{EndpointData}
use Rattle.sshcore.specs.Endpoints.{EndpointMade, Fed, endpoint_end}
use Rattle.sshcore.specs.EndpointParts.{DecisionsData, config_of_client, config_of_server}
use Rattle.sshworld.specs.declared.node.Node.{Node}
use Rattle.sshworld.specs.Headline.{Headline}
use Rattle.sshworld.specs.Laws.{Laws}
use Rattle.sshworld.specs.Nodes.{Receives, ReceivesNone, ReceivesSome, seen}
use Rattle.sshworld.specs.Outcome.{outcome}
use Rattle.sshworld.specs.Compatible.{AreCompatible}
use Rattle.sshworld.specs.Wire.{AreOnWire, HaveUsedAll, UsesMore, WireEnd, wire_node}
use Rattle.sshworld.specs.Worlds.{Complete, waiting_at}
use Rattle.sshworld.proofs.HeadlineLemmas.{open_or_not}
use Rattle.sshworld.proofs.StandsLemmas.{take_within}
use Rattle.sshworld.proofs.WorldCourseLemmas.{ReceiveLaw, holds_in, made_world, received_world}

-- nothing waits for an end that, if it is open, has used all
nothing_waits : (e : EndData) (sent used : ℕ) → (e ≡ Open → used ≡ sent) → waiting_at e sent used ≡ 0
nothing_waits Open sent used all = omega (arith, all refl)
nothing_waits (Authenticated a) sent used all = refl
nothing_waits (Failed f) sent used all = refl
nothing_waits (Closed reason) sent used all = refl
nothing_waits (Disconnected reason) sent used all = refl

module _ {S D : Type 0} (meaning : S → SuiteData) (policy : D → DecisionsData) (client_config : ClientData) (server_config : ServerData) (suite : S) (decisions : D) (laws : Laws) where
  pub on_wire : (client server : EndpointData S D) (client_sent server_sent : Vec ℕ Global) → IsClient client_config → IsServer server_config
      → EndpointMade meaning policy role.Client (config_of_client client_config) suite decisions client [] client_sent.items
      → EndpointMade meaning policy role.Server (config_of_server server_config) suite decisions server [] server_sent.items
      → AreOnWire meaning policy client_config server_config suite decisions (record { endpoint = client; sent = client_sent; used = 0 }) (record { endpoint = server; sent = server_sent; used = 0 })
  on_wire client server client_sent server_sent is_client is_server a b =
      let one : WireEnd S D = record { endpoint = client; sent = client_sent; used = 0 } in
      let other : WireEnd S D = record { endpoint = server; sent = server_sent; used = 0 } in
      record {
        stand = made_world meaning policy client_config server_config suite decisions laws (wire_node one) (wire_node other) is_client is_server
            (record { made = a; none_moved = refl; none_used = refl }) (record { made = b; none_moved = refl; none_used = refl });
        client_had = λ failed. cc (failed, a.is_open);
        server_had = λ failed. cc (failed, b.is_open);
      }

  -- what a node received that used more
  receives : (their_sent : List ℕ) (count : ℕ) (old new : WireEnd S D) → endpoint_end old.endpoint ≢ Failed fault.Memory → UsesMore meaning policy their_sent count old new
      → Receives meaning policy their_sent (wire_node old) (wire_node new)
  receives their_sent count old new had more = elim (open_or_not (endpoint_end old.endpoint)) [
    | inl is_open ↦ ReceivesSome count (record {
      used = count;
      was_open = is_open;
      had_memory = more.had_memory had;
      moved_on = more.used_on;
      moved_within = omega (arith, more.used_on, more.within);
      used_on = more.used_on;
      used_within = omega arith;
      all_used = λ o. refl;
      fed = subst (λ (t : List ℕ). Fed meaning policy old.endpoint new.endpoint t old.sent.items new.sent.items) (sym (take_within (drop old.used their_sent) count count (omega arith))) more.fed;
    })
    | inr has_ended ↦ ReceivesNone (ap (λ (e : WireEnd S D). wire_node e) (more.ended has_ended))
  ]

  module _ (lawful : IsLawful (meaning suite)) (client server new : WireEnd S D) (count : ℕ) (on : AreOnWire meaning policy client_config server_config suite decisions client server) where
    pub client_uses : UsesMore meaning policy server.sent.items count client new → AreOnWire meaning policy client_config server_config suite decisions new server
    client_uses more = record {
      stand = received_world meaning policy client_config server_config suite decisions laws lawful Client (wire_node client) (wire_node server) (wire_node new) on.stand
          (receives server.sent.items count client new on.client_had more);
      client_had = more.had_memory on.client_had;
      server_had = on.server_had;
    }

    pub server_uses : UsesMore meaning policy client.sent.items count server new → AreOnWire meaning policy client_config server_config suite decisions client new
    server_uses more = record {
      stand = received_world meaning policy client_config server_config suite decisions laws lawful Server (wire_node server) (wire_node client) (wire_node new) on.stand
          (receives client.sent.items count server new on.server_had more);
      client_had = on.client_had;
      server_had = more.had_memory on.server_had;
    }

  pub wire_ends : (receive_law : ReceiveLaw) (lawful : IsLawful (meaning suite)) (client server : WireEnd S D) → AreCompatible (meaning suite) (policy decisions) client_config server_config
      → AreOnWire meaning policy client_config server_config suite decisions client server
      → Headline (outcome (meaning suite) (policy decisions) client_config server_config) (endpoint_end client.endpoint) (endpoint_end server.endpoint) (HaveUsedAll client server)
  wire_ends receive_law lawful client server compatible on =
      let h = (holds_in meaning policy client_config server_config suite decisions laws receive_law lawful (wire_node client) (wire_node server) on.stand).headline compatible
      (record { client_had = on.client_had; server_had = on.server_had }) in
      let complete : HaveUsedAll client server → Complete (seen client_config server_config suite decisions (wire_node client) (wire_node server)) = λ all. record {
        for_client = nothing_waits (endpoint_end client.endpoint) (length server.sent.items) client.used all.client_all;
        for_server = nothing_waits (endpoint_end server.endpoint) (length client.sent.items) server.used all.server_all;
      } in
      record {
        as_given = h.as_given;
        both_ended = λ all. h.both_ended (complete all);
        together = λ all. h.together (complete all);
      }
