-- Deliveries, one after another.

use Rattle.std.proofs.Common.{◌≡◌, ◌≢◌, ℕ, zero, suc, ◌+◌, ◌≤◌, ◌<◌, inl, inr, List, [], ◌∷◌, ◌++◌, length, take, min, Result, Ok, Err, refl, sym, ap, subst, ◌∙◌, arith, get_or}
use Rattle.std.proofs.lemmas.List.{take_more}
use Rattle.std.specs.Result.{IfOk, OnErr, OnOk}
use Rattle.sshwire.specs.declared.fault.Memory.{Memory}
use Rattle.sshpacket.specs.Suite.{SuiteData}
use Rattle.sshcore.specs.declared.end.Fault.TheVariants as fault
use Rattle.sshcore.specs.ConfigParts.{ClientData, ServerData}
use Rattle.sshcore.specs.EndData.{Authenticated, Closed, Disconnected, EndData, Failed, Open}
use Rattle.sshcore.specs.Endpoints.{endpoint_end}
use Rattle.sshcore.specs.EndpointParts.{ConfigData, DecisionsData}
use Rattle.sshneg.specs.declared.side.Side.{Side}
use Rattle.sshworld.specs.declared.node.Node.{Node}
use Rattle.sshworld.specs.declared.side.Delivery.{Delivery}
use Rattle.sshneg.specs.declared.side.Side.TheVariants.{Client, Server}
use Rattle.sshworld.specs.Conversed.{EachReplies}
use Rattle.sshworld.specs.Deliveries.{Delivered, Done, DoneBy, Refused, Round, RoundInto, Rounds, RoundsInto, Runs, RunsInto, TakesIn}
use Rattle.sshworld.specs.Nodes.{BrokenWith, NodeStands, NodesStand, Receives, ReceivesInto, ReceivesNone, ReceivesSome, Takes, TakesNone, TakesSome, node_data, seen}
use Rattle.sshworld.specs.WorldCourse.{WorldHolds}
use Rattle.sshworld.specs.Worlds.{HadMemory, IsSameSetup, WorldData, waiting_at, waiting_for}
use Rattle.sshworld.proofs.StandsLemmas.{breaks_off, receiver_stands, sender_stands, sent_on, side_replies}

module _ {T E : Type 0} where
  pub on_ok : {P Q : Type 0} (r : Result T E) → OnOk r P → (P → Q) → OnOk r Q
  on_ok (Ok x) p f = f p
  on_ok (Err e) p f = tt

  pub on_err : {P Q : Type 0} (r : Result T E) → OnErr r P → (P → Q) → OnErr r Q
  on_err (Ok x) p f = tt
  on_err (Err e) p f = f p

  pub at_err : {P : Type 0} (r : Result T E) → P → OnErr r P
  at_err (Ok x) p = tt
  at_err (Err e) p = p

module _ {S D : Type 0} where
  pub same_then : (a b c : WorldData S D) → IsSameSetup a b → IsSameSetup b c → IsSameSetup a c
  same_then a b c x y = record {
    same_client_config = y.same_client_config ∙ x.same_client_config;
    same_server_config = y.same_server_config ∙ x.same_server_config;
    same_suite = y.same_suite ∙ x.same_suite;
    same_decisions = y.same_decisions ∙ x.same_decisions;
  }

module _ {S D : Type 0} (meaning : S → SuiteData) (policy : D → DecisionsData) where
  -- a delivery that answered how many bytes it moved
  pub done : (to : Side) (n k : ℕ) (old new : WorldData S D) → n ≡ k → Delivered to n old new → IsSameSetup old new → WorldHolds meaning policy new
      → Done meaning policy to k old new
  done to n k old new count d same holds = record {
    delivered = subst (λ (j : ℕ). Delivered to j old new) count d;
    setup = same;
    holds = holds;
  }

  rounds_push : (n : ℕ) (old mid new : WorldData S D) → Rounds meaning policy n old mid → Round meaning policy mid new → Rounds meaning policy (suc n) old new
  rounds_push zero old mid new e r = (new, subst (λ (w : WorldData S D). Round meaning policy w new) e r, refl)
  rounds_push (suc n) old mid new (next, first, later) r = (next, first, rounds_push n next mid new later r)

  -- one round more
  pub round_more : (n : ℕ) (old mid new : WorldData S D) → Rounds meaning policy n old mid → Round meaning policy mid new → Rounds meaning policy (n + 1) old new
  round_more n old mid new later r =
      let one : suc n ≡ n + 1 = omega arith in
      subst (λ (k : ℕ). Rounds meaning policy k old new) one (rounds_push n old mid new later r)

  runs_push : (ds : List Delivery) (d : Delivery) (old mid new : WorldData S D) → Runs meaning policy ds old mid → DoneBy meaning policy d mid new → Runs meaning policy (ds ++ d ∷ []) old new
  runs_push [] d old mid new e r = (new, subst (λ (w : WorldData S D). DoneBy meaning policy d w new) e r, refl)
  runs_push (x ∷ ds) d old mid new (next, first, later) r = (next, first, runs_push ds d next mid new later r)

  -- one delivery more
  pub run_more : (ds : List Delivery) (i : ℕ) (default : Delivery) (old mid new : WorldData S D) → i < length ds → Runs meaning policy (take i ds) old mid
      → DoneBy meaning policy (get_or ds i default) mid new → Runs meaning policy (take (i + 1) ds) old new
  run_more ds i default old mid new lt r d =
      subst (λ (q : List Delivery). Runs meaning policy q old new) (sym (take_more ds i default lt))
      (runs_push (take i ds) (get_or ds i default) old mid new r d)

  -- a round for which memory ran out
  pub rounds_into : (rounds n : ℕ) (old mid new : WorldData S D) → n < rounds → Rounds meaning policy n old mid → RoundInto meaning policy mid new → RoundsInto meaning policy rounds old new
  rounds_into zero n old mid new lt before r = absurd (omega arith)
  rounds_into (suc rounds) zero old mid new lt e r = inl (subst (λ (w : WorldData S D). RoundInto meaning policy w new) e r)
  rounds_into (suc rounds) (suc n) old mid new lt (next, first, later) r = inr (next, first, rounds_into rounds n next mid new (omega arith) later r)

  -- a delivery for which it was
  pub runs_into : (ds : List Delivery) (i : ℕ) (default : Delivery) (old mid new : WorldData S D) → i < length ds → Runs meaning policy (take i ds) old mid
      → Refused meaning policy (get_or ds i default).to (min (get_or ds i default).count (waiting_for (get_or ds i default).to mid)) mid new → RunsInto meaning policy ds old new
  runs_into [] i default old mid new lt r refusal = absurd (omega arith)
  runs_into (d ∷ ds) zero default old mid new lt e refusal = inl (subst (λ (w : WorldData S D). Refused meaning policy d.to (min d.count (waiting_for d.to w)) w new) e refusal)
  runs_into (d ∷ ds) (suc i) default old mid new lt (next, first, later) refusal = inr (next, first, runs_into ds i default next mid new (omega arith) later refusal)

-- a world is what is seen of it
pub as_seen : {S D : Type 0} (P : Side → WorldData S D → Type 0) (to one : Side) (w v : WorldData S D) → to ≡ one → v ≡ w → P one v → P to w
as_seen P to one w v e f p = subst (λ (s : Side). P s w) (sym e) (subst (λ w. P one w) f p)

module _ {S D : Type 0} (meaning : S → SuiteData) (policy : D → DecisionsData) where
  -- Nodes that stand so have replied, as callers see it.
  pub each_replies : (client_config : ClientData) (server_config : ServerData) (suite : S) (decisions : D) (client server : Node S D)
      → NodesStand meaning policy client_config server_config suite decisions client server → EachReplies meaning policy (seen client_config server_config suite decisions client server)
  each_replies client_config server_config suite decisions client server s = record {
    client = side_replies meaning policy _ _ suite decisions client server s.client_stands;
    server = side_replies meaning policy _ _ suite decisions server client s.server_stands;
  }

  -- what a node did that received n bytes, or for which memory ran out
  module _ (sent : List ℕ) (old new : Node S D) where
    node_receives : (n : ℕ) → Takes meaning policy sent n old new → Receives meaning policy sent old new
    node_receives n (TakesNone z e) = ReceivesNone e
    node_receives n (TakesSome some f) = ReceivesSome n f

    pub either : (r : Result ℕ Memory) (n : ℕ) → IfOk r (λ k. Takes meaning policy sent k old new) → OnErr r (BrokenWith meaning policy sent n old new) → Receives meaning policy sent old new
    either (Ok k) n takes broken = node_receives k takes
    either (Err e) n takes broken = ReceivesInto n broken

    had_still : (n : ℕ) → Takes meaning policy sent n old new → endpoint_end old.endpoint ≢ Failed fault.Memory → endpoint_end new.endpoint ≢ Failed fault.Memory
    had_still n (TakesNone z e) had failed = had (ap (λ (x : Node S D). endpoint_end x.endpoint) (sym e) ∙ failed)
    had_still n (TakesSome some f) had failed = f.had_memory failed

    moved_on : (n : ℕ) → Takes meaning policy sent n old new → new.moved ≡ old.moved + n
    moved_on n (TakesNone z e) = omega (arith, z, ap (λ (x : Node S D). x.moved) e)
    moved_on n (TakesSome some f) = f.moved_on

    unmoved : (n : ℕ) → Takes meaning policy sent n old new → n ≡ 0 → new ≡ old
    unmoved n (TakesNone z e) h = e
    unmoved n (TakesSome some f) h = absurd (some h)

    used_more : (n : ℕ) → Takes meaning policy sent n old new → (endpoint_end old.endpoint ≡ Open → old.used ≡ old.moved) → old.used ≤ new.used
    used_more n (TakesNone z e) even = omega (arith, ap (λ (x : Node S D). x.used) e)
    used_more n (TakesSome some f) even = omega (arith, f.used_on, even f.was_open)

    -- a node that has ended takes nothing
    pub none_ended : (count : ℕ) (r : Result ℕ Memory) → endpoint_end old.endpoint ≢ Open → IfOk r (λ k. Takes meaning policy sent k old new)
        → IfOk r (λ k. k ≡ min count (waiting_at (endpoint_end old.endpoint) (length sent) old.moved)) → OnErr r (BrokenWith meaning policy sent (min count (waiting_at (endpoint_end old.endpoint) (length sent) old.moved)) old new)
        → (r ≡ Ok 0) × (new ≡ old)
    none_ended count (Ok k) ended takes is broken =
        let none : k ≡ 0 = omega (arith, is, none_waits (endpoint_end old.endpoint) ended) in
        (ap (λ (n : ℕ). Ok n) none, unmoved k takes none)
      where
        none_waits : (e : EndData) → e ≢ Open → waiting_at e (length sent) old.moved ≡ 0
        none_waits Open h = absurd (h refl)
        none_waits (Authenticated a) h = refl
        none_waits (Failed f) h = refl
        none_waits (Closed reason) h = refl
        none_waits (Disconnected reason) h = refl
    none_ended count (Err e) ended takes is broken = absurd (ended broken.was_open)

  -- so callers see it, if n bytes were received
  takes_in : (role : Side) (config : ConfigData) (suite : S) (decisions : D) (sent : List ℕ) (old new : Node S D) (n : ℕ)
      → NodeStands meaning policy role config suite decisions old sent → Takes meaning policy sent n old new → TakesIn n (node_data old) (node_data new)
  takes_in role config suite decisions sent old new n s t =
      let r = node_receives sent old new n t in
      let stands = receiver_stands meaning policy role config suite decisions sent old new s r in
      record {
        moved_on = moved_on sent old new n t;
        used_on = used_more sent old new n t s.all_used;
        used_within = stands.used_within;
        all_used = stands.all_used;
        more_sent = sent_on meaning policy sent old new r;
        had_memory = had_still sent old new n t;
        by_none = λ z. ap (λ (x : Node S D). node_data x) (unmoved sent old new n t z);
      }

module _ {S D : Type 0} (meaning : S → SuiteData) (policy : D → DecisionsData) (client_config : ClientData) (server_config : ServerData) (suite : S) (decisions : D) where
  -- a world of the node of this side, and the other one
  abbrev pub seen_at : Side → Node S D → Node S D → WorldData S D
  seen_at Client own their = seen client_config server_config suite decisions own their
  seen_at Server own their = seen client_config server_config suite decisions their own

  abbrev pub StandAt : Side → Node S D → Node S D → Type 0
  StandAt Client own their = NodesStand meaning policy client_config server_config suite decisions own their
  StandAt Server own their = NodesStand meaning policy client_config server_config suite decisions their own

  -- Both nodes stand after a delivery.
  pub nodes_received : (to : Side) (own their next : Node S D) → StandAt to own their → Receives meaning policy their.sent.items own next → StandAt to next their
  nodes_received Client own their next s r = record {
    client_stands = receiver_stands meaning policy _ _ suite decisions their.sent.items own next s.client_stands r;
    server_stands = sender_stands meaning policy _ _ suite decisions their own.sent.items next.sent.items s.server_stands (sent_on meaning policy their.sent.items own next r);
  }
  nodes_received Server own their next s r = record {
    client_stands = sender_stands meaning policy _ _ suite decisions their own.sent.items next.sent.items s.client_stands (sent_on meaning policy their.sent.items own next r);
    server_stands = receiver_stands meaning policy _ _ suite decisions their.sent.items own next s.server_stands r;
  }

  taken : (to : Side) (own their next : Node S D) (n : ℕ) → StandAt to own their → Takes meaning policy their.sent.items n own next → TakesIn n (node_data own) (node_data next)
  taken Client own their next n s t = takes_in meaning policy _ _ suite decisions their.sent.items own next n s.client_stands t
  taken Server own their next n s t = takes_in meaning policy _ _ suite decisions their.sent.items own next n s.server_stands t

  delivered_at : (to : Side) (own their next : Node S D) (n : ℕ) → TakesIn n (node_data own) (node_data next) → Delivered to n (seen_at to own their) (seen_at to next their)
  delivered_at Client own their next n t = record { receiver = t; sender = refl }
  delivered_at Server own their next n t = record { receiver = t; sender = refl }

  pub delivered : (to : Side) (own their next : Node S D) (r : Result ℕ Memory) → StandAt to own their → IfOk r (λ n. Takes meaning policy their.sent.items n own next)
      → IfOk r (λ n. Delivered to n (seen_at to own their) (seen_at to next their))
  delivered to own their next (Ok n) s takes = delivered_at to own their next n (taken to own their next n s takes)
  delivered to own their next (Err e) s takes = tt

  refused_at : (to : Side) (own their next : Node S D) (n : ℕ) → StandAt to own their → BrokenWith meaning policy their.sent.items n own next
      → Refused meaning policy to n (seen_at to own their) (seen_at to next their)
  refused_at Client own their next n s b = record { receiver = breaks_off meaning policy _ _ suite decisions own next their n s.client_stands b; sender = refl }
  refused_at Server own their next n s b = record { receiver = breaks_off meaning policy _ _ suite decisions own next their n s.server_stands b; sender = refl }

  pub refused : (to : Side) (own their next : Node S D) (n : ℕ) (r : Result ℕ Memory) → StandAt to own their → OnErr r (BrokenWith meaning policy their.sent.items n own next)
      → OnErr r (Refused meaning policy to n (seen_at to own their) (seen_at to next their))
  refused to own their next n r s broken = on_err r broken (refused_at to own their next n s)

  still_at : (to : Side) (own their next : Node S D) → (endpoint_end own.endpoint ≢ Failed fault.Memory → endpoint_end next.endpoint ≢ Failed fault.Memory)
      → HadMemory (seen_at to own their) → HadMemory (seen_at to next their)
  still_at Client own their next f h = record { client_had = f h.client_had; server_had = h.server_had }
  still_at Server own their next f h = record { client_had = h.client_had; server_had = f h.server_had }

  pub still : (to : Side) (own their next : Node S D) (r : Result ℕ Memory) → IfOk r (λ n. Takes meaning policy their.sent.items n own next)
      → OnOk r (HadMemory (seen_at to own their) → HadMemory (seen_at to next their))
  still to own their next (Ok n) takes = still_at to own their next (had_still meaning policy their.sent.items own next n takes)
  still to own their next (Err e) takes = tt
