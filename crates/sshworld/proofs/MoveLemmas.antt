-- What the delivery of bytes to one node comes to for its world.

use Rattle.std.proofs.Common.{◌≡◌, ◌≢◌, ◌∙◌, ℕ, List, length, min, Result, Ok, Err, refl, sym, ap, subst}
use Rattle.std.specs.Result.{IfOk, OnErr, OnOk}
use Rattle.sshwire.specs.declared.fault.Memory.{Memory}
use Rattle.sshpacket.specs.Suite.{IsLawful, SuiteData}
use Rattle.sshcore.specs.ConfigParts.{ClientData, ServerData}
use Rattle.sshcore.specs.EndData.{Open}
use Rattle.sshcore.specs.Endpoints.{endpoint_end}
use Rattle.sshcore.specs.EndpointParts.{DecisionsData}
use Rattle.sshworld.specs.declared.node.Node.{Node}
use Rattle.sshneg.specs.declared.side.Side.{Side}
use Rattle.sshneg.specs.declared.side.Side.TheVariants.{Client, Server}
use Rattle.sshworld.specs.Deliveries.{Delivered, Refused}
use Rattle.sshworld.specs.Laws.{Laws}
use Rattle.sshworld.specs.Nodes.{BrokenWith, Receives, Takes, node_data}
use Rattle.sshworld.specs.WorldRounds.{Keeps, Moves}
use Rattle.sshworld.specs.Worlds.{HadMemory, WorldData, waiting, waiting_at, waiting_for}
use Rattle.sshworld.proofs.DeliveryLemmas.{StandAt, delivered, either, none_ended, refused, same_then, seen_at, still}
use Rattle.sshworld.proofs.WorldCourseLemmas.{ReceiveLaw, WorldAt, holds_in, received_world}

module _ {S D : Type 0} (meaning : S → SuiteData) (policy : D → DecisionsData) (client_config : ClientData) (server_config : ServerData) (suite : S) (decisions : D)
    (laws : Laws) (receive_law : ReceiveLaw) (lawful : IsLawful (meaning suite)) where
  abbrev At : Side → Node S D → Node S D → Type 0
  At to own their = WorldAt meaning policy client_config server_config suite decisions to own their

  keeps_at : (to : Side) (own their next : Node S D) → At to own their → At to next their
      → Keeps meaning policy (seen_at meaning policy client_config server_config suite decisions to own their) (seen_at meaning policy client_config server_config suite decisions to next their)
  keeps_at Client own their next old new = record {
    setup = record { same_client_config = refl; same_server_config = refl; same_suite = refl; same_decisions = refl };
    holds = holds_in meaning policy client_config server_config suite decisions laws receive_law lawful next their new;
    was_on = old.on_course;
    on_course = new.on_course;
  }
  keeps_at Server own their next old new = record {
    setup = record { same_client_config = refl; same_server_config = refl; same_suite = refl; same_decisions = refl };
    holds = holds_in meaning policy client_config server_config suite decisions laws receive_law lawful their next new;
    was_on = old.on_course;
    on_course = new.on_course;
  }

  nodes_at : (to : Side) (own their : Node S D) → At to own their → StandAt meaning policy client_config server_config suite decisions to own their
  nodes_at Client own their w = w.nodes
  nodes_at Server own their w = w.nodes

  waits : (to : Side) (own their : Node S D) → waiting_for to (seen_at meaning policy client_config server_config suite decisions to own their) ≡ waiting (node_data own) (node_data their)
  waits Client own their = refl
  waits Server own their = refl

  unchanged : (to : Side) (own their next : Node S D) → next ≡ own
      → seen_at meaning policy client_config server_config suite decisions to next their ≡ seen_at meaning policy client_config server_config suite decisions to own their
  unchanged to own their next e = ap (λ (n : Node S D). seen_at meaning policy client_config server_config suite decisions to n their) e

  -- a node that received so many of the bytes that the other has sent, in a world that stood
  module _ (to : Side) (own their next : Node S D) (sent : List ℕ) (same : sent ≡ their.sent.items) (count : ℕ) (r : Result ℕ Memory)
      (takes : IfOk r (λ n. Takes meaning policy sent n own next))
      (is : IfOk r (λ n. n ≡ min count (waiting_at (endpoint_end own.endpoint) (length sent) own.moved)))
      (broken : OnErr r (BrokenWith meaning policy sent (min count (waiting_at (endpoint_end own.endpoint) (length sent) own.moved)) own next))
      (w : At to own their) where
    pub moved_world : At to next their
    moved_world = received_world meaning policy client_config server_config suite decisions laws lawful to own their next w
        (subst (λ (q : List ℕ). Receives meaning policy q own next) same (either meaning policy sent own next r (min count (waiting_at (endpoint_end own.endpoint) (length sent) own.moved)) takes broken))

    pub moved_keeps : Keeps meaning policy (seen_at meaning policy client_config server_config suite decisions to own their) (seen_at meaning policy client_config server_config suite decisions to next their)
    moved_keeps = keeps_at to own their next w moved_world

    count_at : min count (waiting_at (endpoint_end own.endpoint) (length sent) own.moved) ≡ min count (waiting_for to (seen_at meaning policy client_config server_config suite decisions to own their))
    count_at = ap (λ (q : List ℕ). min count (waiting_at (endpoint_end own.endpoint) (length q) own.moved)) same ∙ ap (min count) (sym (waits to own their))

    taken : IfOk r (λ n. Takes meaning policy their.sent.items n own next)
    taken = subst (λ (q : List ℕ). IfOk r (λ n. Takes meaning policy q n own next)) same takes

    pub moved_by : IfOk r (λ n. Moves to count n (seen_at meaning policy client_config server_config suite decisions to own their) (seen_at meaning policy client_config server_config suite decisions to next their))
    moved_by = three r is (delivered meaning policy client_config server_config suite decisions to own their next r (nodes_at to own their w) taken)
        (still meaning policy client_config server_config suite decisions to own their next r taken)
      where
        three : (x : Result ℕ Memory) → IfOk x (λ n. n ≡ min count (waiting_at (endpoint_end own.endpoint) (length sent) own.moved))
            → IfOk x (λ n. Delivered to n (seen_at meaning policy client_config server_config suite decisions to own their) (seen_at meaning policy client_config server_config suite decisions to next their))
            → OnOk x (HadMemory (seen_at meaning policy client_config server_config suite decisions to own their) → HadMemory (seen_at meaning policy client_config server_config suite decisions to next their))
            → IfOk x (λ n. Moves to count n (seen_at meaning policy client_config server_config suite decisions to own their) (seen_at meaning policy client_config server_config suite decisions to next their))
        three (Ok n) counted moved still = record { counted = counted ∙ count_at; delivered = moved; still = still }
        three (Err e) counted moved still = tt

    pub moved_into : OnErr r (Refused meaning policy to (min count (waiting_for to (seen_at meaning policy client_config server_config suite decisions to own their)))
        (seen_at meaning policy client_config server_config suite decisions to own their) (seen_at meaning policy client_config server_config suite decisions to next their))
    moved_into = refused meaning policy client_config server_config suite decisions to own their next
        (min count (waiting_for to (seen_at meaning policy client_config server_config suite decisions to own their))) r (nodes_at to own their w)
        (subst (λ (n : ℕ). OnErr r (BrokenWith meaning policy their.sent.items n own next)) count_at
        (subst (λ (q : List ℕ). OnErr r (BrokenWith meaning policy q (min count (waiting_at (endpoint_end own.endpoint) (length sent) own.moved)) own next)) same broken))

    pub moved_none : endpoint_end own.endpoint ≢ Open
        → (r ≡ Ok 0) × (seen_at meaning policy client_config server_config suite decisions to next their ≡ seen_at meaning policy client_config server_config suite decisions to own their)
    moved_none ended =
        let none = none_ended meaning policy sent own next count r ended takes is broken in
        (none.0, unchanged to own their next none.1)

-- two deliveries
pub keeps_then : {S D : Type 0} (meaning : S → SuiteData) (policy : D → DecisionsData) (a b c : WorldData S D) → Keeps meaning policy a b → Keeps meaning policy b c → Keeps meaning policy a c
keeps_then meaning policy a b c x y =
    record { setup = same_then a b c x.setup y.setup; holds = y.holds; was_on = x.was_on; on_course = y.on_course }
