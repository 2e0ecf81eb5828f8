-- A world stays on the course of its configs.

use Rattle.std.proofs.Common.{◌≡◌, ℕ, suc, ◌+◌, ◌-◌, ◌≤◌, false, length, min, Result, Ok, refl, sym, ap, subst, ◌∙◌, arith}
use Rattle.std.specs.Result.{IfOk}
use Rattle.sshwire.specs.declared.fault.Memory.{Memory}
use Rattle.sshneg.specs.declared.side.Side.TheVariants as role
use Rattle.sshpacket.specs.Suite.{IsLawful, SuiteData}
use Rattle.sshcore.specs.ConfigParts.{ClientData, ServerData}
use Rattle.sshcore.specs.ConfigRules.{IsClient, IsServer}
use Rattle.sshcore.specs.EndData.{Authenticated, Closed, Disconnected, EndData, Failed, Open, by_owner}
use Rattle.sshcore.specs.Endpoints.{endpoint_end}
use Rattle.sshcore.specs.EndpointParts.{DecisionsData, config_of_client, config_of_server}
use Rattle.sshworld.specs.Offered.{most_requests}
use Rattle.sshworld.specs.declared.node.Node.{Node}
use Rattle.sshneg.specs.declared.side.Side.{Side}
use Rattle.sshneg.specs.declared.side.Side.TheVariants.{Client, Server}
use Rattle.sshworld.specs.Conversed.{IsNew}
use Rattle.sshworld.specs.CourseReceived.{BothReceive, client_partner, server_partner}
use Rattle.sshworld.specs.Deliveries.{Delivered, TakesIn}
use Rattle.sshworld.specs.Partners.{BothOnCourse, Partner}
use Rattle.sshworld.specs.Laws.{Laws}
use Rattle.sshworld.specs.Rounds.{UnitsReceived, after_rounds}
use Rattle.sshworld.specs.Nodes.{IsFresh, NodesStand, Receives, node_data, seen}
use Rattle.sshworld.specs.Compatible.{AreCompatible}
use Rattle.sshworld.specs.Wordings.{wording_of}
use Rattle.sshworld.specs.WorldCourse.{AreCompatibleIn, IsOnCourse, KeepsCourse, KeepsHeadline, ReceivesAll, WorldHolds, WorldStands}
use Rattle.sshworld.specs.WorldRounds.{HaveReceivedIn, ReceivesRound, Settles, part_of_client_in, part_of_server_in, turn}
use Rattle.sshworld.specs.Worlds.{Complete, HadMemory, IsSameSetup, NodeData, WorldData, waiting, waiting_at, waiting_for}
use Rattle.sshworld.proofs.CourseReceivedLemmas.{course_received, headline_of}
use Rattle.sshworld.proofs.DeliveryLemmas.{StandAt, each_replies, nodes_received, seen_at}
use Rattle.sshworld.proofs.PartnerLemmas.{begins}
use Rattle.sshworld.proofs.NodeLemmas.{node_history, stays_on_course}
use Rattle.sshwire.proofs.OwnedLemmas.{there}
use Rattle.sshworld.proofs.StandsLemmas.{made_stands, side_begins}
use Rattle.sshworld.proofs.TurnLemmas.{HasTakenAll, client_turn, server_turn, settled}

pub flip_course : (m : SuiteData) (d : DecisionsData) (own their : Partner) (node opposite : NodeData) → BothOnCourse m d own their node opposite → BothOnCourse m d their own opposite node
flip_course m d own their node opposite on = record { own_side = on.their_side; their_side = on.own_side }

-- Where all that waited was moved, nothing waits.
module _ (old new opposite : NodeData) (takes : TakesIn (waiting old opposite) old new) (within : old.moved ≤ length opposite.sent) where
  none_at : (e : EndData) (sent moved : ℕ) → moved ≡ sent → waiting_at e sent moved ≡ 0
  none_at Open sent moved h = omega (arith, h)
  none_at (Authenticated a) sent moved h = refl
  none_at (Failed f) sent moved h = refl
  none_at (Closed reason) sent moved h = refl
  none_at (Disconnected reason) sent moved h = refl

  by_end : (e : EndData) → old.end ≡ e → waiting new opposite ≡ 0
  by_end Open h =
      let all : waiting old opposite ≡ length opposite.sent - old.moved = ap (λ (q : EndData). waiting_at q (length opposite.sent) old.moved) h in
      none_at new.end (length opposite.sent) new.moved (omega (arith, takes.moved_on, all, within))
  by_end (Authenticated a) h =
      let none : waiting old opposite ≡ 0 = ap (λ (q : EndData). waiting_at q (length opposite.sent) old.moved) h in
      ap (λ (q : NodeData). waiting q opposite) (takes.by_none none) ∙ none
  by_end (Failed f) h =
      let none : waiting old opposite ≡ 0 = ap (λ (q : EndData). waiting_at q (length opposite.sent) old.moved) h in
      ap (λ (q : NodeData). waiting q opposite) (takes.by_none none) ∙ none
  by_end (Closed reason) h =
      let none : waiting old opposite ≡ 0 = ap (λ (q : EndData). waiting_at q (length opposite.sent) old.moved) h in
      ap (λ (q : NodeData). waiting q opposite) (takes.by_none none) ∙ none
  by_end (Disconnected reason) h =
      let none : waiting old opposite ≡ 0 = ap (λ (q : EndData). waiting_at q (length opposite.sent) old.moved) h in
      ap (λ (q : NodeData). waiting q opposite) (takes.by_none none) ∙ none

  pub taken_all : HasTakenAll old new opposite
  taken_all = record { more_sent = takes.more_sent; none_waits = by_end old.end refl }

module _ {S D : Type 0} (meaning : S → SuiteData) (policy : D → DecisionsData) (client_config : ClientData) (server_config : ServerData) (suite : S) (decisions : D) where
  -- Two nodes that are made are on their course.
  pub made_on_course : Laws → (client server : Node S D) → NodesStand meaning policy client_config server_config suite decisions client server → client.used ≡ 0 → server.used ≡ 0
      → by_owner (endpoint_end client.endpoint) ≡ false → by_owner (endpoint_end server.endpoint) ≡ false → IsOnCourse meaning policy (seen client_config server_config suite decisions client server)
  made_on_course laws client server s none other_none whole other_whole receive =
      begins laws (meaning suite) (policy decisions)
      (client_partner (meaning suite) (policy decisions) client_config server_config (wording_of (meaning suite) (policy decisions) client_config server_config))
      (server_partner (meaning suite) (policy decisions) client_config server_config (wording_of (meaning suite) (policy decisions) client_config server_config))
      (node_data client) (node_data server) none other_none
      (node_history meaning policy role.Client (config_of_client client_config) suite decisions client server s.client_stands whole)
      (node_history meaning policy role.Server (config_of_server server_config) suite decisions server client s.server_stands other_whole)

  -- They stay on it, whatever one of them receives.
  pub received_on_course : Laws → IsLawful (meaning suite) → (to : Side) (own their next : Node S D) → StandAt meaning policy client_config server_config suite decisions to own their
      → IsOnCourse meaning policy (seen_at meaning policy client_config server_config suite decisions to own their) → by_owner (endpoint_end next.endpoint) ≡ false
      → Receives meaning policy their.sent.items own next → IsOnCourse meaning policy (seen_at meaning policy client_config server_config suite decisions to next their)
  received_on_course laws lawful Client own their next s on whole r receive =
      stays_on_course meaning policy laws suite decisions lawful
      (client_partner (meaning suite) (policy decisions) client_config server_config (wording_of (meaning suite) (policy decisions) client_config server_config))
      (server_partner (meaning suite) (policy decisions) client_config server_config (wording_of (meaning suite) (policy decisions) client_config server_config))
      receive.to_client own next their (on receive) (nodes_received meaning policy client_config server_config suite decisions Client own their next s r).client_stands whole r
  received_on_course laws lawful Server own their next s on whole r receive =
      let cp : Partner = client_partner (meaning suite) (policy decisions) client_config server_config (wording_of (meaning suite) (policy decisions) client_config server_config) in
      let sp : Partner = server_partner (meaning suite) (policy decisions) client_config server_config (wording_of (meaning suite) (policy decisions) client_config server_config) in
      flip_course (meaning suite) (policy decisions) sp cp (node_data next) (node_data their)
      (stays_on_course meaning policy laws suite decisions lawful sp cp receive.to_server own next their (flip_course (meaning suite) (policy decisions) cp sp (node_data their) (node_data own) (on receive))
      (nodes_received meaning policy client_config server_config suite decisions Server own their next s r).server_stands whole r)

module _ {S D : Type 0} where
  -- so many bytes were moved to a side as waited for it
  abbrev DeliveredAll : Side → WorldData S D → WorldData S D → Type 0
  DeliveredAll to old new = Delivered to (waiting_for to old) old new

  -- how many bytes were moved where all that wait were to be
  pub all_moved : (to : Side) (n all : ℕ) (old : WorldData S D) → all ≡ waiting_for to old → n ≡ min all (waiting_for to old) → n ≡ waiting_for to old
  all_moved to n all old is_all is = omega (arith, is_all, is)

  -- a world of the same setup as another
  same_world : (old new : WorldData S D) → IsSameSetup old new → new ≡ record { client_config = old.client_config; server_config = old.server_config; suite = old.suite; decisions = old.decisions; client = new.client; server = new.server }
  same_world old new same = rw (sym same.same_client_config, sym same.same_server_config, sym same.same_suite, sym same.same_decisions) refl

module _ {S D : Type 0} (meaning : S → SuiteData) (policy : D → DecisionsData) (laws : Laws) where
  -- the clauses on a world
  module _ (w : WorldData S D) (lawful : IsLawful (meaning w.suite)) (understands : AreCompatible (meaning w.suite) (policy w.decisions) w.client_config w.server_config → ReceivesAll meaning policy w)
      (on : IsOnCourse meaning policy w) where
    pub keeps_course : KeepsCourse meaning policy w
    keeps_course u had =
        let receive = understands u in
        course_received laws (meaning w.suite) (policy w.decisions) lawful w.client_config w.server_config (wording_of (meaning w.suite) (policy w.decisions) w.client_config w.server_config) receive w.client w.server (on receive) had.client_had had.server_had

    pub keeps_headline : KeepsHeadline meaning policy w
    keeps_headline u had =
        let receive = understands u in
        headline_of laws (meaning w.suite) (policy w.decisions) lawful w.client_config w.server_config (wording_of (meaning w.suite) (policy w.decisions) w.client_config w.server_config) receive w.client w.server (on receive) had.client_had had.server_had
        (Complete w) (λ k. (k.for_client, k.for_server))

    -- few rounds are enough
    pub settles : ReceivesAll meaning policy w → HadMemory w → (r : ℕ) → most_requests w.client_config.plan + 4 ≤ r
        → HaveReceivedIn meaning policy w (after_rounds (part_of_client_in meaning policy w) (part_of_server_in meaning policy w) r) → Complete w
    settles receive had r few counts =
        let both = settled laws (meaning w.suite) (policy w.decisions) lawful w.client_config w.server_config (wording_of (meaning w.suite) (policy w.decisions) w.client_config w.server_config) receive w.client w.server r (on receive) had.client_had had.server_had few counts in
        record { for_client = both.0; for_server = both.1 }

  -- one turn, between worlds of one setup
  module _ (c : ClientData) (s : ServerData) (suite : S) (decisions : D) (client client_new server server_new : NodeData) where
    abbrev w : NodeData → NodeData → WorldData S D
    w one other = record { client_config = c; server_config = s; suite = suite; decisions = decisions; client = one; server = other }

    turned_so : IsLawful (meaning suite) → (to : Side) → ReceivesAll meaning policy (w client server) → IsOnCourse meaning policy (w client server) → IsOnCourse meaning policy (w client_new server_new)
        → HadMemory (w client server) → HadMemory (w client_new server_new) → DeliveredAll to (w client server) (w client_new server_new) → (received : UnitsReceived) → HaveReceivedIn meaning policy (w client server) received
        → HaveReceivedIn meaning policy (w client_new server_new) (turn (part_of_client_in meaning policy (w client server)) (part_of_server_in meaning policy (w client server)) to received)
    turned_so lawful Client receive on later had had_new all received counts =
        let on_old = on receive in
        let same : server_new ≡ server = all.sender in
        let on_new = subst (λ (q : NodeData). BothOnCourse (meaning suite) (policy decisions) (client_partner (meaning suite) (policy decisions) c s (wording_of (meaning suite) (policy decisions) c s)) (server_partner (meaning suite) (policy decisions) c s (wording_of (meaning suite) (policy decisions) c s)) client_new q) same (later receive) in
        subst (λ (q : NodeData). HaveReceivedIn meaning policy (w client_new q) (turn (part_of_client_in meaning policy (w client server)) (part_of_server_in meaning policy (w client server)) Client received)) (sym same)
        (client_turn laws (meaning suite) (policy decisions) lawful c s (wording_of (meaning suite) (policy decisions) c s) receive client client_new server received on_old on_new had_new.client_had had.server_had
        (taken_all client client_new server all.receiver on_old.own_side.replies.moved_within) counts)
    turned_so lawful Server receive on later had had_new all received counts =
        let on_old = on receive in
        let same : client_new ≡ client = all.sender in
        let on_new = subst (λ (q : NodeData). BothOnCourse (meaning suite) (policy decisions) (client_partner (meaning suite) (policy decisions) c s (wording_of (meaning suite) (policy decisions) c s)) (server_partner (meaning suite) (policy decisions) c s (wording_of (meaning suite) (policy decisions) c s)) q server_new) same (later receive) in
        subst (λ (q : NodeData). HaveReceivedIn meaning policy (w q server_new) (turn (part_of_client_in meaning policy (w client server)) (part_of_server_in meaning policy (w client server)) Server received)) (sym same)
        (server_turn laws (meaning suite) (policy decisions) lawful c s (wording_of (meaning suite) (policy decisions) c s) receive client server server_new received on_old on_new had.client_had had_new.server_had
        (taken_all server server_new client all.receiver on_old.their_side.replies.moved_within) counts)

  -- All that waits to one side: both have received what that turn brings.
  pub turned : (old new : WorldData S D) → IsSameSetup old new → IsLawful (meaning old.suite) → (to : Side) → ReceivesAll meaning policy old → IsOnCourse meaning policy old → IsOnCourse meaning policy new
      → HadMemory old → HadMemory new → DeliveredAll to old new → (received : UnitsReceived) → HaveReceivedIn meaning policy old received
      → HaveReceivedIn meaning policy new (turn (part_of_client_in meaning policy old) (part_of_server_in meaning policy old) to received)
  turned old new same lawful to receive on later had had_new all received counts =
      let e = same_world old new same in
      subst (λ (v : WorldData S D). HaveReceivedIn meaning policy v (turn (part_of_client_in meaning policy old) (part_of_server_in meaning policy old) to received)) (sym e)
      (turned_so old.client_config old.server_config old.suite old.decisions old.client new.client old.server new.server lawful to receive on
      (subst (λ (v : WorldData S D). IsOnCourse meaning policy v) e later) had (record { client_had = had_new.client_had; server_had = had_new.server_had })
      (subst (λ (v : WorldData S D). DeliveredAll to old v) e all) received counts)

-- what two accepted configs of which the ends understand each other give
abbrev pub ReceiveLaw : Type 0
ReceiveLaw = (m : SuiteData) (d : DecisionsData) (client : ClientData) (server : ServerData) → IsLawful m → AreCompatible m d client server → IsClient client → IsServer server
    → BothReceive m d client server (wording_of m d client server)

module _ {S D : Type 0} (meaning : S → SuiteData) (policy : D → DecisionsData) (client_config : ClientData) (server_config : ServerData) (suite : S) (decisions : D) where
  -- a world of the node of this side, and the other one
  abbrev pub WorldAt : Side → Node S D → Node S D → Type 0
  WorldAt Client own their = WorldStands meaning policy client_config server_config suite decisions own their
  WorldAt Server own their = WorldStands meaning policy client_config server_config suite decisions their own

  -- A new world stands.
  pub made_world : Laws → (client server : Node S D) → IsClient client_config → IsServer server_config
      → IsFresh meaning policy role.Client (config_of_client client_config) suite decisions client → IsFresh meaning policy role.Server (config_of_server server_config) suite decisions server
      → WorldStands meaning policy client_config server_config suite decisions client server
  made_world laws client server is_client is_server one other =
      let s : NodesStand meaning policy client_config server_config suite decisions client server = record {
        client_stands = made_stands meaning policy role.Client (config_of_client client_config) suite decisions client server.sent.items one;
        server_stands = made_stands meaning policy role.Server (config_of_server server_config) suite decisions server client.sent.items other;
      } in
      record {
        client_accepted = is_client;
        server_accepted = is_server;
        nodes = s;
        on_course = made_on_course meaning policy client_config server_config suite decisions laws client server s one.none_used other.none_used s.client_stands.uncut s.server_stands.uncut;
      }

  -- Nodes that were made of these configs, beside them.
  module _ (laws : Laws) (client server : Node S D) (c : ClientData) (s : ServerData) (same : ◌≡◌ {A = ClientData × ServerData} (client_config, server_config) (c, s)) (is_client : IsClient c) (is_server : IsServer s)
      (nodes : Result (Node S D × Node S D) Memory) (are : nodes ≡ Ok (client, server))
      (one : IfOk nodes (λ two. IsFresh meaning policy role.Client (config_of_client c) suite decisions two.0))
      (other : IfOk nodes (λ two. IsFresh meaning policy role.Server (config_of_server s) suite decisions two.1)) where
    same_client : c ≡ client_config
    same_client = sym (ap (λ (two : ClientData × ServerData). two.0) same)

    same_server : s ≡ server_config
    same_server = sym (ap (λ (two : ClientData × ServerData). two.1) same)

    pub fresh_client : IsFresh meaning policy role.Client (config_of_client client_config) suite decisions client
    fresh_client = subst (λ (d : ClientData). IsFresh meaning policy role.Client (config_of_client d) suite decisions client) same_client
        (there nodes (λ two. IsFresh meaning policy role.Client (config_of_client c) suite decisions two.0) (client, server) are one)

    pub fresh_server : IsFresh meaning policy role.Server (config_of_server server_config) suite decisions server
    fresh_server = subst (λ (d : ServerData). IsFresh meaning policy role.Server (config_of_server d) suite decisions server) same_server
        (there nodes (λ two. IsFresh meaning policy role.Server (config_of_server s) suite decisions two.1) (client, server) are other)

    pub fresh_world : WorldStands meaning policy client_config server_config suite decisions client server
    fresh_world = made_world laws client server (subst (λ (d : ClientData). IsClient d) same_client is_client) (subst (λ (d : ServerData). IsServer d) same_server is_server) fresh_client fresh_server

    pub fresh_new : IsNew meaning policy (seen client_config server_config suite decisions client server)
    fresh_new = record {
      client = side_begins meaning policy role.Client (config_of_client client_config) suite decisions client fresh_client;
      server = side_begins meaning policy role.Server (config_of_server server_config) suite decisions server fresh_server;
    }

  -- It stands after a delivery.
  pub received_world : Laws → IsLawful (meaning suite) → (to : Side) (own their next : Node S D) → WorldAt to own their → Receives meaning policy their.sent.items own next → WorldAt to next their
  received_world laws lawful Client own their next w r =
      let s = nodes_received meaning policy client_config server_config suite decisions Client own their next w.nodes r in
      record {
        client_accepted = w.client_accepted;
        server_accepted = w.server_accepted;
        nodes = s;
        on_course = received_on_course meaning policy client_config server_config suite decisions laws lawful Client own their next w.nodes w.on_course s.client_stands.uncut r;
      }
  received_world laws lawful Server own their next w r =
      let s = nodes_received meaning policy client_config server_config suite decisions Server own their next w.nodes r in
      record {
        client_accepted = w.client_accepted;
        server_accepted = w.server_accepted;
        nodes = s;
        on_course = received_on_course meaning policy client_config server_config suite decisions laws lawful Server own their next w.nodes w.on_course s.server_stands.uncut r;
      }

  -- What callers see of a world that stands.
  module _ (laws : Laws) (receive_law : ReceiveLaw) (lawful : IsLawful (meaning suite)) (client server : Node S D) (w : WorldStands meaning policy client_config server_config suite decisions client server) where
    pub understands_in : AreCompatible (meaning suite) (policy decisions) client_config server_config → ReceivesAll meaning policy (seen client_config server_config suite decisions client server)
    understands_in u = receive_law (meaning suite) (policy decisions) client_config server_config lawful u w.client_accepted w.server_accepted

    course_in : KeepsCourse meaning policy (seen client_config server_config suite decisions client server)
    course_in = keeps_course meaning policy laws (seen client_config server_config suite decisions client server) lawful understands_in w.on_course

    headline_in : KeepsHeadline meaning policy (seen client_config server_config suite decisions client server)
    headline_in = keeps_headline meaning policy laws (seen client_config server_config suite decisions client server) lawful understands_in w.on_course

    pub holds_in : WorldHolds meaning policy (seen client_config server_config suite decisions client server)
    holds_in = record {
      client_accepted = w.client_accepted;
      server_accepted = w.server_accepted;
      replies = each_replies meaning policy client_config server_config suite decisions client server w.nodes;
      course = course_in;
      headline = headline_in;
    }

    pub settles_in : Settles meaning policy (seen client_config server_config suite decisions client server)
    settles_in u = settles meaning policy laws (seen client_config server_config suite decisions client server) lawful understands_in w.on_course (understands_in u)

module _ {S D : Type 0} (meaning : S → SuiteData) (policy : D → DecisionsData) where
  -- Where both receive all that the other sends in the course, and neither ran out of memory, they have received what so many
  -- rounds bring that end at the new world.
  abbrev pub ReceivedAfter : WorldData S D → WorldData S D → ℕ → Type 0
  ReceivedAfter old new n = ReceivesAll meaning policy old → HadMemory old
      → HaveReceivedIn meaning policy new (after_rounds (part_of_client_in meaning policy old) (part_of_server_in meaning policy old) n)

  -- what both have received after one round more
  pub received_more : (old mid new : WorldData S D) (n : ℕ) → IsSameSetup old mid → (HadMemory old → HadMemory mid) → ReceivedAfter old mid n → ReceivesRound meaning policy mid new → ReceivedAfter old new (n + 1)
  received_more old mid new n same still before round =
      let e = same_world old mid same in
      let one : suc n ≡ n + 1 = omega arith in
      subst (λ (k : ℕ). ReceivedAfter old new k) one
      (subst (λ (v : WorldData S D). (HadMemory old → HadMemory v) → ReceivedAfter old v n → ReceivesRound meaning policy v new → ReceivedAfter old new (suc n)) (sym e)
      (λ still before round receive had. round receive (still had) (after_rounds (part_of_client_in meaning policy old) (part_of_server_in meaning policy old) n) (before receive had))
      still before round)

  -- So few rounds leave nothing that waits.
  pub bound : (old new : WorldData S D) (r : ℕ) → IsSameSetup old new → (HadMemory old → HadMemory new) → ReceivedAfter old new r
      → (AreCompatibleIn meaning policy new → ReceivesAll meaning policy new) → Settles meaning policy new
      → AreCompatibleIn meaning policy old → HadMemory old → most_requests old.client_config.plan + 4 ≤ r → Complete new
  bound old new r same =
      let e = same_world old new same in
      subst (λ (v : WorldData S D). (HadMemory old → HadMemory v) → ReceivedAfter old v r → (AreCompatibleIn meaning policy v → ReceivesAll meaning policy v) → Settles meaning policy v
      → AreCompatibleIn meaning policy old → HadMemory old → most_requests old.client_config.plan + 4 ≤ r → Complete v) (sym e)
      (λ still received understands settles u had few. settles u (still had) r few (received (understands u) had))
