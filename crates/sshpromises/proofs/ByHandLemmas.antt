-- Two endpoints that are fed by hand stay on a wire, and end as their configs' outcome has it.

use Rattle.std.proofs.Common.{◌≡◌, ◌≢◌, ◌∙◌, ◌+◌, ◌≤◌, ◌<◌, ℕ, suc, List, [], ◌∷◌, ◌++◌, Result, Ok, Err, ap, arith, drop, get_or, length, refl, subst, sym, take}
use Rattle.std.specs.Prelude.{Vec}
use Rattle.std.specs.Global.{Global}
use Rattle.std.proofs.lemmas.List.{length-append, length-drop, length-take, take_more}
use Rattle.std.specs.Result.{IfOk, OnOk}
use Rattle.sshneg.specs.declared.side.Side.{Side}
use Rattle.sshneg.specs.declared.side.Side.TheVariants as role
use Rattle.sshpacket.specs.Suite.{SuiteData}
use Rattle.sshcore.specs.declared.end.Fault.TheVariants as fault
use Rattle.sshcore.specs.ConfigParts.{ClientData, ServerData}
use Rattle.sshcore.specs.ConfigRules.{IsClient, IsServer}
use Rattle.sshcore.specs.EndData.{Failed, Open}
use Rattle.sshcore.specs.EndpointData.{EndpointData}
use Rattle.sshcore.specs.Endpoints.{EndpointMade, Fed, endpoint_end}
use Rattle.sshcore.specs.EndpointParts.{DecisionsData, config_of_client, config_of_server}
use Rattle.sshworld.specs.declared.side.Delivery.{Delivery}
use Rattle.sshworld.specs.Headline.{Headline}
use Rattle.sshworld.specs.Outcome.{outcome}
use Rattle.sshworld.specs.Compatible.{AreCompatible}
use Rattle.sshworld.specs.Wire.{AreOnWire, HaveUsedAll, UsesMore, WireEnd}
use Rattle.sshworld.proofs.StandsLemmas.{take_within}
use Rattle.sshpromises.specs.Claims.{CameByHand, CarriesOn, FedAt, FedNext, RoundsByHand, RunsByHand, SettlesByHand, wire_end}
use Rattle.sshwire.proofs.OwnedLemmas.{there}

-- what a side did that was fed with the next n of the other's bytes
module _ {S D : Type 0} (meaning : S → SuiteData) (policy : D → DecisionsData) (old new : EndpointData S D) (before after : Vec ℕ Global) (sent piece : List ℕ) (u n : ℕ)
    (is_piece : piece ≡ take n (drop u sent)) (within : u ≤ length sent) where
  piece_len : length piece ≤ n
  piece_len = omega (arith, ap length is_piece, length-take n (drop u sent))

  as_it_was : (used : ℕ) → (used ≡ 0) × (new ≡ old) × (after ≡ before) → wire_end new after (u + used) ≡ wire_end old before u
  as_it_was used (none, same, same_sent) =
      let at : u + used ≡ u = omega (arith, none) in
      rw (same, same_sent, at) refl

  uses_more : (used : ℕ) → used ≤ length piece → Fed meaning policy old new (take used piece) before.items after.items
      → (endpoint_end new ≡ Failed fault.Memory → endpoint_end old ≡ Failed fault.Memory)
      → (endpoint_end old ≢ Open → (used ≡ 0) × (new ≡ old) × (after ≡ before)) → UsesMore meaning policy sent used (wire_end old before u) (wire_end new after (u + used))
  uses_more used few fed kept ended = record {
    within = omega (arith, few, ap length is_piece, length-take n (drop u sent), length-drop u sent, within);
    used_on = refl;
    fed = subst (λ (t : List ℕ). Fed meaning policy old new t before.items after.items) (ap (take used) is_piece ∙ take_within (drop u sent) n used (omega (arith, few, piece_len))) fed;
    had_memory = λ had failed. had (kept failed);
    ended = λ e. as_it_was used (ended e);
  }

  fed_next : (used : ℕ) → UsesMore meaning policy sent used (wire_end old before u) (wire_end new after (u + used)) → used ≤ length piece → (endpoint_end new ≡ Open → used ≡ length piece)
      → FedNext meaning policy n sent used (wire_end old before u) (wire_end new after (u + used))
  fed_next used uses few all =
      let len : length piece ≡ length (take n (drop u sent)) = ap length is_piece in
      record {
        uses = uses;
        at_most = subst (λ (k : ℕ). used ≤ k) len few;
        all_used = λ o. all o ∙ len;
      }

  pub uses_next : {E : Type 0} (r : Result ℕ E) → IfOk r (λ used. Fed meaning policy old new (take used piece) before.items after.items)
      → IfOk r (λ used. (used ≤ length piece) × (endpoint_end new ≡ Open → used ≡ length piece)) → OnOk r (endpoint_end new ≡ Failed fault.Memory → endpoint_end old ≡ Failed fault.Memory)
      → (endpoint_end old ≢ Open → (r ≡ Ok 0) × (new ≡ old) × (after ≡ before))
      → IfOk r (λ used. FedNext meaning policy n sent used (wire_end old before u) (wire_end new after (u + used)))
  uses_next (Ok used) fed few kept ended =
      fed_next used (uses_more used few.0 fed kept (λ e. let x = ended e in (let is : Ok used ≡ Ok 0 = x.0 in cc (is), x.1, x.2))) few.0 few.1
  uses_next (Err e) fed few kept ended = tt

-- what a side has sent grows
pub sent_more : {S D : Type 0} (meaning : S → SuiteData) (policy : D → DecisionsData) (sent : List ℕ) (n : ℕ) (old new : WireEnd S D) → UsesMore meaning policy sent n old new
    → length old.sent.items ≤ length new.sent.items
sent_more meaning policy sent n old new u = omega (arith, ap length u.fed.appended, length-append old.sent.items u.fed.added)

-- deliveries by hand, one after another
module _ {S D : Type 0} (meaning : S → SuiteData) (policy : D → DecisionsData) where
  by_hand_push : (ds : List Delivery) (d : Delivery) (c0 s0 c1 s1 c2 s2 : WireEnd S D) → RunsByHand meaning policy ds c0 s0 c1 s1 → FedAt meaning policy d.to d.count c1 s1 c2 s2
      → RunsByHand meaning policy (ds ++ d ∷ []) c0 s0 c2 s2
  by_hand_push [] d c0 s0 c1 s1 c2 s2 e fed = (
    c2,
    s2,
    subst (λ (c : WireEnd S D). FedAt meaning policy d.to d.count c s0 c2 s2) e.0 (subst (λ (s : WireEnd S D). FedAt meaning policy d.to d.count c1 s c2 s2) e.1 fed),
    (refl, refl),
  )
  by_hand_push (x ∷ ds) d c0 s0 c1 s1 c2 s2 (mc, ms, first, later) fed = (mc, ms, first, by_hand_push ds d mc ms c1 s1 c2 s2 later fed)

  -- one delivery more
  pub by_hand_more : (to : Side) (ds : List Delivery) (i : ℕ) (default : Delivery) (c0 s0 c1 s1 c2 s2 : WireEnd S D) → i < length ds → (get_or ds i default).to ≡ to
      → RunsByHand meaning policy (take i ds) c0 s0 c1 s1 → FedAt meaning policy to (get_or ds i default).count c1 s1 c2 s2 → RunsByHand meaning policy (take (i + 1) ds) c0 s0 c2 s2
  by_hand_more to ds i default c0 s0 c1 s1 c2 s2 lt is runs fed =
      subst (λ (q : List Delivery). RunsByHand meaning policy q c0 s0 c2 s2) (sym (take_more ds i default lt))
      (by_hand_push (take i ds) (get_or ds i default) c0 s0 c1 s1 c2 s2 runs
      (subst (λ (t : Side). FedAt meaning policy t (get_or ds i default).count c1 s1 c2 s2) (sym is) fed))

  -- one round more
  pub round_more : (i : ℕ) (begun_client begun_server old_client old_server client server : WireEnd S D) (n k : ℕ) → RoundsByHand meaning policy i begun_client begun_server old_client old_server
      → FedNext meaning policy (length old_client.sent.items) old_client.sent.items n old_server server → FedNext meaning policy (length server.sent.items) server.sent.items k old_client client
      → RoundsByHand meaning policy (i + 1) begun_client begun_server client server
  round_more i begun_client begun_server old_client old_server client server n k runs first second =
      let one : suc i ≡ i + 1 = omega arith in
      subst (λ (r : ℕ). RoundsByHand meaning policy r begun_client begun_server client server) one
      (old_client, old_server, runs, (old_client, server, ((n, first), refl), ((k, second), refl)))

  -- no round after the deliveries of a schedule
  pub no_round : (schedule : List Delivery) (old_client old_server client server : WireEnd S D) → SettlesByHand meaning policy schedule 0 old_client old_server client server
      → RunsByHand meaning policy schedule old_client old_server client server
  no_round schedule old_client old_server client server (mid_client, mid_server, runs, (same_client, same_server)) =
      subst (λ (c : WireEnd S D). RunsByHand meaning policy schedule old_client old_server c server) (sym same_client)
      (subst (λ (s : WireEnd S D). RunsByHand meaning policy schedule old_client old_server mid_client s) (sym same_server) runs)

-- Two ends stay on a wire by the deliveries of a schedule.
module _ {S D : Type 0} (meaning : S → SuiteData) (policy : D → DecisionsData) (client_config : ClientData) (server_config : ServerData) (suite : S) (decisions : D)
    (client_uses : (client server new : WireEnd S D) (count : ℕ) → AreOnWire meaning policy client_config server_config suite decisions client server
    → UsesMore meaning policy server.sent.items count client new → AreOnWire meaning policy client_config server_config suite decisions new server)
    (server_uses : (client server new : WireEnd S D) (count : ℕ) → AreOnWire meaning policy client_config server_config suite decisions client server
    → UsesMore meaning policy client.sent.items count server new → AreOnWire meaning policy client_config server_config suite decisions client new) where
  abbrev On : WireEnd S D → WireEnd S D → Type 0
  On client server = AreOnWire meaning policy client_config server_config suite decisions client server

  fed_on : (to : Side) (count : ℕ) (old_client old_server client server : WireEnd S D) → On old_client old_server → FedAt meaning policy to count old_client old_server client server → On client server
  fed_on role.Client count old_client old_server client server on fed =
      subst (λ (s : WireEnd S D). On client s) (sym fed.1) (client_uses old_client old_server client fed.0.0 on fed.0.1.uses)
  fed_on role.Server count old_client old_server client server on fed =
      subst (λ (c : WireEnd S D). On c server) (sym fed.1) (server_uses old_client old_server server fed.0.0 on fed.0.1.uses)

  pub runs_on : (ds : List Delivery) (old_client old_server client server : WireEnd S D) → On old_client old_server → RunsByHand meaning policy ds old_client old_server client server → On client server
  runs_on [] old_client old_server client server on (same_client, same_server) =
      subst (λ (c : WireEnd S D). On c server) (sym same_client) (subst (λ (s : WireEnd S D). On old_client s) (sym same_server) on)
  runs_on (d ∷ later) old_client old_server client server on (mid_client, mid_server, first, rest) =
      runs_on later mid_client mid_server client server (fed_on d.to d.count old_client old_server mid_client mid_server on first) rest

-- Two endpoints that were made, and carried on by hand, end as the outcome of their configs has it.
module _ {S D E : Type 0} (meaning : S → SuiteData) (policy : D → DecisionsData) (client_config : ClientData) (server_config : ServerData) (suite : S) (decisions : D) (first c0 c1 s0 s1 : EndpointData S D)
    (made : Result (EndpointData S D) E) (p q : List ℕ) (to_server to_client : Vec ℕ Global) (none : p ≡ []) (nothing : q ≡ []) (is_first : c0 ≡ first) (is_made : made ≡ Ok s0)
    (of_first : EndpointMade meaning policy role.Client (config_of_client client_config) suite decisions first p to_server.items)
    (of_made : IfOk made (λ e. EndpointMade meaning policy role.Server (config_of_server server_config) suite decisions e q to_client.items))
    (is_client : IsClient client_config) (is_server : IsServer server_config)
    (begins : IsClient client_config → IsServer server_config → EndpointMade meaning policy role.Client (config_of_client client_config) suite decisions c0 [] to_server.items
    → EndpointMade meaning policy role.Server (config_of_server server_config) suite decisions s0 [] to_client.items → AreOnWire meaning policy client_config server_config suite decisions (wire_end c0 to_server 0) (wire_end s0 to_client 0))
    (by : WireEnd S D → WireEnd S D → WireEnd S D → WireEnd S D → Type 0) (done : Type 0) (carries : CarriesOn meaning policy c0 s0 to_server to_client by c1 s1 done) where
  mc : EndpointMade meaning policy role.Client (config_of_client client_config) suite decisions c0 [] to_server.items
  mc = subst (λ (l : List ℕ). EndpointMade meaning policy role.Client (config_of_client client_config) suite decisions c0 l to_server.items) none
      (subst (λ (e : EndpointData S D). EndpointMade meaning policy role.Client (config_of_client client_config) suite decisions e p to_server.items) (sym is_first) of_first)

  ms : EndpointMade meaning policy role.Server (config_of_server server_config) suite decisions s0 [] to_client.items
  ms = subst (λ (l : List ℕ). EndpointMade meaning policy role.Server (config_of_server server_config) suite decisions s0 l to_client.items) nothing
      (there made (λ e. EndpointMade meaning policy role.Server (config_of_server server_config) suite decisions e q to_client.items) s0 is_made of_made)

  begun : AreOnWire meaning policy client_config server_config suite decisions (wire_end c0 to_server 0) (wire_end s0 to_client 0)
  begun = begins is_client is_server mc ms

  pub headline_by_hand : ((one other : WireEnd S D) → AreCompatible (meaning suite) (policy decisions) client_config server_config → AreOnWire meaning policy client_config server_config suite decisions one other
      → Headline (outcome (meaning suite) (policy decisions) client_config server_config) (endpoint_end one.endpoint) (endpoint_end other.endpoint) (HaveUsedAll one other))
      → AreCompatible (meaning suite) (policy decisions) client_config server_config → Headline (outcome (meaning suite) (policy decisions) client_config server_config) (endpoint_end c1) (endpoint_end s1) done
  headline_by_hand ends compatible =
      let h = ends (wire_end c1 carries.client_sent carries.client_used) (wire_end s1 carries.server_sent carries.server_used) compatible
      (carries.stay client_config server_config suite decisions begun) in
      record {
        as_given = h.as_given;
        both_ended = λ all. h.both_ended (carries.all_done.0 all);
        together = λ all. h.together (carries.all_done.0 all);
      }

  -- all is done, where what was done uses all
  pub done_by_hand : ((one other : WireEnd S D) → AreOnWire meaning policy client_config server_config suite decisions (wire_end c0 to_server 0) (wire_end s0 to_client 0)
      → by (wire_end c0 to_server 0) (wire_end s0 to_client 0) one other → HaveUsedAll one other) → done
  done_by_hand uses = carries.all_done.1 (uses (wire_end c1 carries.client_sent carries.client_used) (wire_end s1 carries.server_sent carries.server_used) begun carries.came)

  pub came_by_hand : (way : WireEnd S D → WireEnd S D → WireEnd S D → WireEnd S D → Type 0) → ((a b one other : WireEnd S D) → by a b one other → way a b one other)
      → CameByHand meaning policy client_config server_config suite decisions way c1 s1 done
  came_by_hand way is = record {
    begun_client = c0;
    begun_server = s0;
    to_server = to_server;
    to_client = to_client;
    client_made = mc;
    server_made = ms;
    client_sent = carries.client_sent;
    client_used = carries.client_used;
    server_sent = carries.server_sent;
    server_used = carries.server_used;
    came = is (wire_end c0 to_server 0) (wire_end s0 to_client 0) (wire_end c1 carries.client_sent carries.client_used) (wire_end s1 carries.server_sent carries.server_used) carries.came;
    all_done = carries.all_done;
  }
