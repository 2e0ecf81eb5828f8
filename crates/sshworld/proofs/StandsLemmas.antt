-- How the nodes of a world stand after a delivery.

use Rattle.std.proofs.Common.{◌≡◌, ◌≢◌, ℕ, zero, suc, ◌+◌, ◌≤◌, Bool, true, false, List, [], ◌∷◌, ◌++◌, length, take, drop, refl, sym, ap, subst, ◌∙◌, arith}
use Rattle.std.proofs.lemmas.List.{append-nil, length-append, length-take, take-append-le}
use Rattle.std.proofs.Math.Seq.{take-add}
use Rattle.sshneg.specs.declared.side.Side.{Side}
use Rattle.sshpacket.specs.Places.{IsPrefix}
use Rattle.sshpacket.specs.Suite.{SuiteData}
use Rattle.sshcore.specs.declared.end.Fault.TheVariants as fault
use Rattle.sshcore.specs.EndData.{EndData, Failed, by_owner}
use Rattle.sshcore.specs.Endpoints.{EndpointAfter, endpoint_end}
use Rattle.sshcore.specs.History.{BrokenOff}
use Rattle.sshcore.specs.EndpointParts.{ConfigData, DecisionsData, setup_with}
use Rattle.sshcore.specs.EndpointData.{endpoint_setup}
use Rattle.sshworld.specs.declared.node.Node.{Node}
use Rattle.sshworld.specs.Conversed.{SideBegins, SideReplies}
use Rattle.sshworld.specs.Deliveries.{BreaksOff}
use Rattle.sshworld.specs.Nodes.{BrokenWith, IsFed, IsFresh, NodeStands, Receives, ReceivesInto, ReceivesNone, ReceivesSome, node_data}

-- the first bytes of a part of a list
pub take_within : (xs : List ℕ) (n u : ℕ) → u ≤ n → take u (take n xs) ≡ take u xs
take_within xs n zero h = refl
take_within [] zero (suc u) h = absurd (omega arith)
take_within [] (suc n) (suc u) h = refl
take_within (x ∷ xs) zero (suc u) h = absurd (omega arith)
take_within (x ∷ xs) (suc n) (suc u) h = ap (λ (q : List ℕ). x ∷ q) (take_within xs n u (omega arith))

-- what was used before, and then the first bytes of the piece after it
taken_more : (xs : List ℕ) (used moved n u : ℕ) → used ≡ moved → u ≤ n → take used xs ++ take u (take n (drop moved xs)) ≡ take (moved + u) xs
taken_more xs used moved n u e h =
    ap (λ (q : ℕ). take q xs ++ take u (take n (drop moved xs))) e ∙ ap (λ (q : List ℕ). take moved xs ++ q) (take_within (drop moved xs) n u h) ∙ sym (take-add moved u xs)

-- after a call that doesn't end an endpoint as its owner does, its owner hasn't ended it, if not before
still_uncut : (old new : EndData) → (by_owner new ≡ true → old ≡ new) → by_owner old ≡ false → by_owner new ≡ false
still_uncut old new stays uncut = by (by_owner new) refl
  where
    by : (b : Bool) → by_owner new ≡ b → by_owner new ≡ false
    by true e = ap by_owner (sym (stays e)) ∙ uncut
    by false e = e

module _ {S D : Type 0} (meaning : S → SuiteData) (policy : D → DecisionsData) where
  -- what was sent stays
  pub sent_on : (sent : List ℕ) (old new : Node S D) → Receives meaning policy sent old new → IsPrefix old.sent.items new.sent.items
  sent_on sent old new (ReceivesNone e) = record { rest = []; whole_is = ap (λ (n : Node S D). n.sent.items) e ∙ sym (append-nil old.sent.items) }
  sent_on sent old new (ReceivesSome n f) = record { rest = f.fed.added; whole_is = f.fed.appended }
  sent_on sent old new (ReceivesInto n b) = record { rest = b.breaks.added; whole_is = b.breaks.appended }

  -- the node that was fed
  fed_stands : (role : Side) (config : ConfigData) (suite : S) (decisions : D) (sent : List ℕ) (old new : Node S D) (n : ℕ)
      → NodeStands meaning policy role config suite decisions old sent → IsFed meaning policy sent n old new → NodeStands meaning policy role config suite decisions new sent
  fed_stands role config suite decisions sent old new n s f =
      let had : endpoint_end old.endpoint ≢ Failed fault.Memory = λ h. cc (h, f.was_open) in
      let even : old.used ≡ old.moved = s.all_used f.was_open in
      let received : take old.used sent ++ take f.used (take n (drop old.moved sent)) ≡ take new.used sent =
      taken_more sent old.used old.moved n f.used even f.used_within ∙ ap (λ (k : ℕ). take k sent) (sym f.used_on) in
      record {
        is_role = f.fed.same.same_role ∙ s.is_role;
        is_config = f.fed.same.same_config ∙ s.is_config;
        is_suite = f.fed.same.same_suite ∙ s.is_suite;
        is_decisions = f.fed.same.same_decisions ∙ s.is_decisions;
        used_within = omega (arith, f.used_on, f.moved_on, f.used_within);
        moved_within = f.moved_within;
        all_used = λ o. f.used_on ∙ ap (λ (k : ℕ). old.moved + k) (f.all_used o) ∙ sym f.moved_on;
        after = λ m. subst (λ (h : List ℕ). EndpointAfter meaning policy new.endpoint h new.sent.items) received
            (subst (λ (s : List ℕ). EndpointAfter meaning policy new.endpoint (take old.used sent ++ take f.used (take n (drop old.moved sent))) s) (sym f.fed.appended)
            (f.fed.follows (take old.used sent) old.sent.items (s.after had)));
        uncut = still_uncut (endpoint_end old.endpoint) (endpoint_end new.endpoint) (f.fed.uncut (take old.used sent) old.sent.items (s.after had)) s.uncut;
      }

  -- the node for which memory ran out
  broken_stands : (role : Side) (config : ConfigData) (suite : S) (decisions : D) (sent : List ℕ) (old new : Node S D) (n : ℕ)
      → NodeStands meaning policy role config suite decisions old sent → BrokenWith meaning policy sent n old new → NodeStands meaning policy role config suite decisions new sent
  broken_stands role config suite decisions sent old new n s b = record {
    is_role = b.breaks.same.same_role ∙ s.is_role;
    is_config = b.breaks.same.same_config ∙ s.is_config;
    is_suite = b.breaks.same.same_suite ∙ s.is_suite;
    is_decisions = b.breaks.same.same_decisions ∙ s.is_decisions;
    used_within = omega (arith, b.same_used, b.moved_on, s.used_within);
    moved_within = b.moved_within;
    all_used = λ o. absurd (cc (b.failed, o));
    after = λ m. absurd (m b.failed);
    uncut = ap by_owner b.failed;
  }

  -- The node that receives stands as before, with more that it has used and sent.
  pub receiver_stands : (role : Side) (config : ConfigData) (suite : S) (decisions : D) (sent : List ℕ) (old new : Node S D)
      → NodeStands meaning policy role config suite decisions old sent → Receives meaning policy sent old new → NodeStands meaning policy role config suite decisions new sent
  receiver_stands role config suite decisions sent old new s (ReceivesNone e) = subst (λ (n : Node S D). NodeStands meaning policy role config suite decisions n sent) (sym e) s
  receiver_stands role config suite decisions sent old new s (ReceivesSome n f) = fed_stands role config suite decisions sent old new n s f
  receiver_stands role config suite decisions sent old new s (ReceivesInto n b) = broken_stands role config suite decisions sent old new n s b

  -- So callers see it: what was sent before stands in front, and all of it is whole packets.
  pub breaks_off : (role : Side) (config : ConfigData) (suite : S) (decisions : D) (old new their : Node S D) (n : ℕ)
      → NodeStands meaning policy role config suite decisions old their.sent.items → BrokenWith meaning policy their.sent.items n old new
      → BreaksOff (setup_with (meaning suite) (policy decisions) role config) n (node_data old) (node_data new) (node_data their)
  breaks_off role config suite decisions old new their n s b =
      let sent : List ℕ = their.sent.items in
      let had : endpoint_end old.endpoint ≢ Failed fault.Memory = λ h. cc (h, b.was_open) in
      let within : b.breaks.used ≤ n = omega (arith, b.breaks.within, length-take n (drop old.moved sent)) in
      let received : take old.used sent ++ take b.breaks.used (take n (drop old.moved sent)) ≡ take (old.used + b.breaks.used) sent =
      taken_more sent old.used old.moved n b.breaks.used (s.all_used b.was_open) within ∙ ap (λ (k : ℕ). take (k + b.breaks.used) sent) (sym (s.all_used b.was_open)) in
      record {
        failed = b.failed;
        moved_on = b.moved_on;
        same_used = b.same_used;
        more_sent = record { rest = b.breaks.added; whole_is = b.breaks.appended };
        used = b.breaks.used;
        used_within = within;
        broken_off =
            subst (λ (r : Side). BrokenOff (setup_with (meaning suite) (policy decisions) r config) (take (old.used + b.breaks.used) sent) new.sent.items) s.is_role
            (subst (λ (p : ConfigData). BrokenOff (setup_with (meaning suite) (policy decisions) old.endpoint.role p) (take (old.used + b.breaks.used) sent) new.sent.items) s.is_config
            (subst (λ (k : S). BrokenOff (setup_with (meaning k) (policy decisions) old.endpoint.role old.endpoint.config) (take (old.used + b.breaks.used) sent) new.sent.items) s.is_suite
            (subst (λ (k : D). BrokenOff (setup_with (meaning old.endpoint.suite) (policy k) old.endpoint.role old.endpoint.config) (take (old.used + b.breaks.used) sent) new.sent.items) s.is_decisions
            (subst (λ (h : List ℕ). BrokenOff (endpoint_setup meaning policy old.endpoint) h new.sent.items) received
            (subst (λ (t : List ℕ). BrokenOff (endpoint_setup meaning policy old.endpoint) (take old.used sent ++ take b.breaks.used (take n (drop old.moved sent))) t) (sym b.breaks.appended)
            (b.breaks.follows (take old.used sent) old.sent.items (s.after had)))))));
      }

  -- The other node stands as before, beside more that was sent.
  pub sender_stands : (role : Side) (config : ConfigData) (suite : S) (decisions : D) (node : Node S D) (sent more : List ℕ)
      → NodeStands meaning policy role config suite decisions node sent → IsPrefix sent more → NodeStands meaning policy role config suite decisions node more
  sender_stands role config suite decisions node sent more s p =
      let stays : take node.used more ≡ take node.used sent = ap (take node.used) p.whole_is ∙ take-append-le node.used sent p.rest (omega (arith, s.used_within, s.moved_within)) in
      record {
        is_role = s.is_role;
        is_config = s.is_config;
        is_suite = s.is_suite;
        is_decisions = s.is_decisions;
        used_within = s.used_within;
        moved_within = omega (arith, s.moved_within, ap length p.whole_is, length-append sent p.rest);
        all_used = s.all_used;
        after = λ m. subst (λ (h : List ℕ). EndpointAfter meaning policy node.endpoint h node.sent.items) (sym stays) (s.after m);
        uncut = s.uncut;
      }

  -- A node that stands so has replied, as callers see it.
  pub side_replies : (role : Side) (config : ConfigData) (suite : S) (decisions : D) (own their : Node S D)
      → NodeStands meaning policy role config suite decisions own their.sent.items → SideReplies meaning policy role config suite decisions (node_data own) (node_data their)
  side_replies role config suite decisions own their s = record {
    used_within = s.used_within;
    moved_within = s.moved_within;
    all_used = s.all_used;
    replies = λ m. record {
      endpoint = own.endpoint;
      is_role = s.is_role;
      is_config = s.is_config;
      is_suite = s.is_suite;
      is_decisions = s.is_decisions;
      is_end = refl;
      after = s.after m;
    };
  }

  -- A node that has received nothing stands, whatever the other has sent; and so it begins, as callers see it.
  pub made_stands : (role : Side) (config : ConfigData) (suite : S) (decisions : D) (node : Node S D) (sent : List ℕ)
      → IsFresh meaning policy role config suite decisions node → NodeStands meaning policy role config suite decisions node sent
  made_stands role config suite decisions node sent fresh = record {
    is_role = fresh.made.is_role;
    is_config = fresh.made.is_config;
    is_suite = fresh.made.is_suite;
    is_decisions = fresh.made.is_decisions;
    used_within = omega (arith, fresh.none_used);
    moved_within = omega (arith, fresh.none_moved);
    all_used = λ o. fresh.none_used ∙ sym fresh.none_moved;
    after = λ m. subst (λ (k : ℕ). EndpointAfter meaning policy node.endpoint (take k sent) node.sent.items) (sym fresh.none_used)
        (subst (λ (s : List ℕ). EndpointAfter meaning policy node.endpoint [] s) (sym fresh.made.appended) fresh.made.begins);
    uncut = ap by_owner fresh.made.is_open;
  }

  pub side_begins : (role : Side) (config : ConfigData) (suite : S) (decisions : D) (node : Node S D)
      → IsFresh meaning policy role config suite decisions node → SideBegins meaning policy role config suite decisions (node_data node)
  side_begins role config suite decisions node fresh =
      record { none_moved = fresh.none_moved; none_used = fresh.none_used; is_open = fresh.made.is_open; endpoint = node.endpoint; made = fresh.made }
