-- Rounds over the ends of a wire: few of them use all that either side sends.

use Rattle.std.proofs.Common.{◌≡◌, ◌+◌, ◌≤◌, ℕ, zero, suc, List, arith, drop, length, refl, subst, sym}
use Rattle.std.proofs.lemmas.List.{length-drop, length-take}
use Rattle.sshpacket.specs.Suite.{IsLawful, SuiteData}
use Rattle.sshcore.specs.ConfigParts.{ClientData, ServerData}
use Rattle.sshcore.specs.EndData.{Authenticated, Closed, Disconnected, EndData, Failed, Open}
use Rattle.sshcore.specs.Endpoints.{endpoint_end}
use Rattle.sshcore.specs.EndpointParts.{DecisionsData}
use Rattle.sshworld.specs.Course.{Part}
use Rattle.sshworld.specs.CourseReceived.{BothReceive, client_partner, server_partner}
use Rattle.sshworld.specs.Follows.{part_of_client, part_of_server}
use Rattle.sshworld.specs.Laws.{Laws}
use Rattle.sshworld.specs.Nodes.{node_data}
use Rattle.sshworld.specs.Offered.{most_requests}
use Rattle.sshworld.specs.Partners.{BothOnCourse}
use Rattle.sshworld.specs.Rounds.{UnitsReceived, after_rounds, round_from, server_receives_all}
use Rattle.sshworld.specs.Wire.{AreOnWire, HaveUsedAll, WireEnd, wire_node}
use Rattle.sshworld.specs.Wording.{Wording}
use Rattle.sshworld.specs.Wordings.{wording_of}
use Rattle.sshworld.specs.WorldRounds.{HaveReceived}
use Rattle.sshworld.specs.Worlds.{waiting_at}
use Rattle.sshworld.proofs.TurnLemmas.{HasTakenAll, client_turn, server_turn, settled}
use Rattle.sshworld.proofs.WireLemmas.{client_uses, server_uses}
use Rattle.sshpromises.specs.Claims.{FedNext, RoundByHand, RoundsByHand}

-- nothing waits for an end that, if it is open, has used all
none_waits : (e : EndData) (sent used : ℕ) → (e ≡ Open → used ≡ sent) → waiting_at e sent used ≡ 0
none_waits Open sent used all = omega (arith, all refl)
none_waits (Authenticated a) sent used all = refl
none_waits (Failed f) sent used all = refl
none_waits (Closed reason) sent used all = refl
none_waits (Disconnected reason) sent used all = refl

-- an open end for which nothing waits has used all
all_used : (e : EndData) (sent used : ℕ) → used ≤ sent → waiting_at e sent used ≡ 0 → e ≡ Open → used ≡ sent
all_used Open sent used within none o = omega (arith, within, none)
all_used (Authenticated a) sent used within none o = absurd (cc (o))
all_used (Failed f) sent used within none o = absurd (cc (o))
all_used (Closed reason) sent used within none o = absurd (cc (o))
all_used (Disconnected reason) sent used within none o = absurd (cc (o))

module _ {S D : Type 0} (meaning : S → SuiteData) (policy : D → DecisionsData) where
  -- an end that was fed with all that it hadn't used, and is open, has used all
  fed_all : (their_sent : List ℕ) (n : ℕ) (old new : WireEnd S D) → FedNext meaning policy (length their_sent) their_sent n old new → endpoint_end new.endpoint ≡ Open → new.used ≡ length their_sent
  fed_all their_sent n old new fed o =
      omega (arith, fed.uses.used_on, fed.uses.within, fed.all_used o, length-take (length their_sent) (drop old.used their_sent), length-drop old.used their_sent)

  taken_all : (old new other : WireEnd S D) (n : ℕ) → FedNext meaning policy (length other.sent.items) other.sent.items n old new
      → HasTakenAll (node_data (wire_node old)) (node_data (wire_node new)) (node_data (wire_node other))
  taken_all old new other n fed = record {
    more_sent = record { rest = fed.uses.fed.added; whole_is = fed.uses.fed.appended };
    none_waits = none_waits (endpoint_end new.endpoint) (length other.sent.items) new.used (fed_all other.sent.items n old new fed);
  }

  module _ (client_config : ClientData) (server_config : ServerData) (suite : S) (decisions : D) (laws : Laws) (lawful : IsLawful (meaning suite))
      (receive : BothReceive (meaning suite) (policy decisions) client_config server_config (wording_of (meaning suite) (policy decisions) client_config server_config)) where
    abbrev m : SuiteData
    m = meaning suite

    abbrev d : DecisionsData
    d = policy decisions

    abbrev words : Wording
    words = wording_of m d client_config server_config

    abbrev client_part : Part
    client_part = part_of_client m d client_config server_config words

    abbrev server_part : Part
    server_part = part_of_server m d client_config server_config words

    abbrev On : WireEnd S D → WireEnd S D → Type 0
    On client server = AreOnWire meaning policy client_config server_config suite decisions client server

    -- each of two ends has received at least so many units
    abbrev Received : UnitsReceived → WireEnd S D → WireEnd S D → Type 0
    Received received client server = HaveReceived m d client_config server_config words received (node_data (wire_node client)) (node_data (wire_node server))

    on_course : (client server : WireEnd S D) → On client server
        → BothOnCourse m d (client_partner m d client_config server_config words) (server_partner m d client_config server_config words) (node_data (wire_node client)) (node_data (wire_node server))
    on_course client server on = on.stand.on_course receive

    -- all that it hasn't used to the server
    server_fed : (client old new : WireEnd S D) (n : ℕ) (received : UnitsReceived) → On client old → FedNext meaning policy (length client.sent.items) client.sent.items n old new → On client new
        → Received received client old → Received (record received { server = server_receives_all client_part server_part received.client }) client new
    server_fed client old new n received before fed after counts =
        server_turn laws m d lawful client_config server_config words receive (node_data (wire_node client)) (node_data (wire_node old)) (node_data (wire_node new)) received
        (on_course client old before) (on_course client new after) after.client_had after.server_had (taken_all old new client n fed) counts

    -- all that it hasn't used to the client
    client_fed : (old new server : WireEnd S D) (n : ℕ) (received : UnitsReceived) → On old server → FedNext meaning policy (length server.sent.items) server.sent.items n old new → On new server
        → Received received old server → Received (record received { client = server_receives_all server_part client_part received.server }) new server
    client_fed old new server n received before fed after counts =
        client_turn laws m d lawful client_config server_config words receive (node_data (wire_node old)) (node_data (wire_node new)) (node_data (wire_node server)) received
        (on_course old server before) (on_course new server after) after.client_had after.server_had (taken_all old new server n fed) counts

    round : (old_client old_server client server : WireEnd S D) (received : UnitsReceived) → On old_client old_server → Received received old_client old_server
        → RoundByHand meaning policy old_client old_server client server → On client server × Received (round_from client_part server_part received) client server
    round old_client old_server client server received on counts (mid_client, mid_server, first, second) =
        let on_server : On old_client mid_server = server_uses meaning policy client_config server_config suite decisions laws lawful old_client old_server mid_server first.0.0 on first.0.1.uses in
        let by_server = server_fed old_client old_server mid_server first.0.0 received on first.0.1 on_server counts in
        let fed : FedNext meaning policy (length mid_server.sent.items) mid_server.sent.items second.0.0 old_client client
        = subst (λ (c : WireEnd S D). FedNext meaning policy (length mid_server.sent.items) mid_server.sent.items second.0.0 c client) first.1 second.0.1 in
        let on_client : On client mid_server = client_uses meaning policy client_config server_config suite decisions laws lawful old_client mid_server client second.0.0 on_server fed.uses in
        let by_client : Received (round_from client_part server_part received) client mid_server
        = client_fed old_client client mid_server second.0.0 (record received { server = server_receives_all client_part server_part received.client }) on_server fed on_client by_server in (
          subst (λ (s : WireEnd S D). On client s) (sym second.1) on_client,
          subst (λ (s : WireEnd S D). Received (round_from client_part server_part received) client s) (sym second.1) by_client,
        )

    rounds : (n : ℕ) (old_client old_server client server : WireEnd S D) → On old_client old_server → RoundsByHand meaning policy n old_client old_server client server
        → On client server × Received (after_rounds client_part server_part n) client server
    rounds zero old_client old_server client server on (same_client, same_server) = (
      subst (λ (c : WireEnd S D). On c server) (sym same_client) (subst (λ (s : WireEnd S D). On old_client s) (sym same_server) on),
      record { by_client = λ a. omega arith; by_server = λ b. omega arith },
    )
    rounds (suc n) old_client old_server client server on (mid_client, mid_server, before, last) =
        let h = rounds n old_client old_server mid_client mid_server on before in
        round mid_client mid_server client server (after_rounds client_part server_part n) h.0 h.1 last

    -- so few rounds are enough
    pub rounds_use_all : (n : ℕ) (old_client old_server client server : WireEnd S D) → On old_client old_server → RoundsByHand meaning policy n old_client old_server client server
        → most_requests client_config.plan + 4 ≤ n → HaveUsedAll client server
    rounds_use_all n old_client old_server client server on run few =
        let h = rounds n old_client old_server client server on run in
        let none = settled laws m d lawful client_config server_config words receive (node_data (wire_node client)) (node_data (wire_node server)) n
        (on_course client server h.0) h.0.client_had h.0.server_had few h.1 in
        record {
          client_all = all_used (endpoint_end client.endpoint) (length server.sent.items) client.used h.0.stand.nodes.client_stands.moved_within none.0;
          server_all = all_used (endpoint_end server.endpoint) (length client.sent.items) server.used h.0.stand.nodes.server_stands.moved_within none.1;
        }
