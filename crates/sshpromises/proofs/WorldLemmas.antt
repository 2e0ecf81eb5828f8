-- Two worlds of one setup.

use Rattle.std.proofs.Common.{◌≡◌, ◌≢◌, ◌∙◌, Result, refl, sym}
use Rattle.std.proofs.lemmas.Result.{IfOk-weaker}
use Rattle.std.specs.Result.{IfOk}
use Rattle.sshpacket.specs.Suite.{SuiteData}
use Rattle.sshcore.specs.ConfigParts.{ClientData, ServerData}
use Rattle.sshcore.specs.declared.end.Fault.TheVariants as fault
use Rattle.sshcore.specs.EndData.{EndData, Failed, Open}
use Rattle.sshcore.specs.EndpointParts.{DecisionsData}
use Rattle.sshworld.specs.Conversed.{IsNew}
use Rattle.sshworld.specs.Headline.{Headline}
use Rattle.sshworld.specs.Outcome.{BothEnds, outcome}
use Rattle.sshworld.specs.Compatible.{AreCompatible}
use Rattle.sshworld.specs.WorldCourse.{AreCompatibleIn, KeepsHeadline}
use Rattle.sshworld.specs.Worlds.{Complete, HadMemory, IsSameSetup, WorldData}
use Rattle.sshpromises.specs.Claims.{EndsWell, EndsWellOnce, PairIs}

-- where nothing waits, both ends are those of the headline
pub both_given : (ends : BothEnds) (client server : EndData) (complete : Type 0) → Headline ends client server complete → complete
    → (client ≡ ends.client) × (server ≡ ends.server)
both_given ends client server complete h done =
    let both = h.both_ended done in
    (h.as_given.client_as both.0, h.as_given.server_as both.1)

module _ {S D : Type 0} (meaning : S → SuiteData) (policy : D → DecisionsData) (client : ClientData) (server : ServerData) (suite : S) (decisions : D) (w : WorldData S D)
    (of_client : w.client_config ≡ client) (of_server : w.server_config ≡ server) (of_suite : w.suite ≡ suite) (of_decisions : w.decisions ≡ decisions) where
  pub compatible_in : AreCompatible (meaning suite) (policy decisions) client server → AreCompatibleIn meaning policy w
  compatible_in u = rw (of_client, of_server, of_suite, of_decisions) u

  pub compatible_out : AreCompatibleIn meaning policy w → AreCompatible (meaning suite) (policy decisions) client server
  compatible_out = rw (sym of_client, sym of_server, sym of_suite, sym of_decisions) (λ u. u)

  pub headline_in : AreCompatible (meaning suite) (policy decisions) client server → HadMemory w → KeepsHeadline meaning policy w
      → Headline (outcome (meaning suite) (policy decisions) client server) w.client.end w.server.end (Complete w)
  headline_in = rw (sym of_client, sym of_server, sym of_suite, sym of_decisions) (λ u had keeps. keeps u had)

  pub ends_well : AreCompatible (meaning suite) (policy decisions) client server → HadMemory w → KeepsHeadline meaning policy w
      → EndsWell (outcome (meaning suite) (policy decisions) client server) w
  ends_well u had keeps =
      let h = headline_in u had keeps in
      let o = outcome (meaning suite) (policy decisions) client server in
      record {
        client_as = h.as_given.client_as;
        server_as = h.as_given.server_as;
        client_end = λ done. (both_given o w.client.end w.server.end (Complete w) h done).0;
        server_end = λ done. (both_given o w.client.end w.server.end (Complete w) h done).1;
        together = h.together;
      }

-- two worlds of one outcome
pub pair_of : {S D : Type 0} (ends : BothEnds) (one other : WorldData S D) → EndsWell ends one → EndsWell ends other → PairIs one other
pair_of ends one other a b = record {
  client = λ x y. a.client_end x ∙ sym (b.client_end y);
  server = λ x y. a.server_end x ∙ sym (b.server_end y);
}

-- the second of two worlds, or a world that was foretold, where there is one
module _ {S D E : Type 0} (r : Result (WorldData S D) E) (ends : BothEnds) (well : IfOk r (λ w. EndsWell ends w)) where
  pub pair_with : (one : WorldData S D) → EndsWell ends one → IfOk r (λ w. PairIs one w)
  pair_with one is = IfOk-weaker r (λ w. EndsWell ends w) (λ w. PairIs one w) (λ w b. pair_of ends one w is b) well

  pub told_client : (told : EndData) → told ≡ ends.client → IfOk r (λ w. Complete w → w.client.end ≡ told)
  told_client told is = IfOk-weaker r (λ w. EndsWell ends w) (λ w. Complete w → w.client.end ≡ told) (λ w b done. b.client_end done ∙ sym is) well

  pub told_server : (told : EndData) → told ≡ ends.server → IfOk r (λ w. Complete w → w.server.end ≡ told)
  told_server told is = IfOk-weaker r (λ w. EndsWell ends w) (λ w. Complete w → w.server.end ≡ told) (λ w b done. b.server_end done ∙ sym is) well

module _ {S D : Type 0} (meaning : S → SuiteData) (policy : D → DecisionsData) (one other : WorldData S D)
    (client : other.client_config ≡ one.client_config) (server : other.server_config ≡ one.server_config) (suite : other.suite ≡ one.suite) (decisions : other.decisions ≡ one.decisions)
    (compatible : AreCompatibleIn meaning policy one) (one_had : HadMemory one) (other_had : HadMemory other)
    (one_keeps : KeepsHeadline meaning policy one) (other_keeps : KeepsHeadline meaning policy other) (one_complete : Complete one) (other_complete : Complete other) where
  of_one : EndsWell (outcome (meaning one.suite) (policy one.decisions) one.client_config one.server_config) one
  of_one = ends_well meaning policy one.client_config one.server_config one.suite one.decisions one refl refl refl refl compatible one_had one_keeps

  of_other : EndsWell (outcome (meaning one.suite) (policy one.decisions) one.client_config one.server_config) other
  of_other = ends_well meaning policy one.client_config one.server_config one.suite one.decisions other client server suite decisions compatible other_had other_keeps

  pub client_same : other.client.end ≡ one.client.end
  client_same = of_other.client_end other_complete ∙ sym (of_one.client_end one_complete)

  pub server_same : other.server.end ≡ one.server.end
  server_same = of_other.server_end other_complete ∙ sym (of_one.server_end one_complete)

-- a side that is open hasn't failed
open_had : (end : EndData) → end ≡ Open → end ≢ Failed fault.Memory
open_had end is_open failed = cc

-- neither side of a new world has failed
pub new_had : {S D : Type 0} (meaning : S → SuiteData) (policy : D → DecisionsData) (w : WorldData S D) → IsNew meaning policy w → HadMemory w
new_had meaning policy w new = record { client_had = open_had w.client.end new.client.is_open; server_had = open_had w.server.end new.server.is_open }

-- a complete world whose sides end well
well_once : {S D : Type 0} (ends : BothEnds) (w : WorldData S D) → EndsWell ends w → Complete w → Headline ends w.client.end w.server.end (Complete w) → EndsWellOnce ends w
well_once ends w well done h = record {
  client_end = well.client_end done;
  server_end = well.server_end done;
  client_ended = (h.both_ended done).0;
  server_ended = (h.both_ended done).1;
  together = h.together done;
}

-- a world that settled, of a setup in which the two understand each other
pub settled_well : {S D : Type 0} (meaning : S → SuiteData) (policy : D → DecisionsData) (client : ClientData) (server : ServerData) (suite : S) (decisions : D) (old new : WorldData S D)
    → old.client_config ≡ client → old.server_config ≡ server → old.suite ≡ suite → old.decisions ≡ decisions → IsSameSetup old new
    → AreCompatibleIn meaning policy old → HadMemory new → KeepsHeadline meaning policy new → Complete new
    → EndsWellOnce (outcome (meaning suite) (policy decisions) client server) new
settled_well meaning policy client server suite decisions old new a b c d same compatible had keeps done =
    let u = compatible_out meaning policy client server suite decisions old a b c d compatible in
    let x = same.same_client_config ∙ a in
    let y = same.same_server_config ∙ b in
    let z = same.same_suite ∙ c in
    let v = same.same_decisions ∙ d in
    well_once (outcome (meaning suite) (policy decisions) client server) new (ends_well meaning policy client server suite decisions new x y z v u had keeps) done
    (headline_in meaning policy client server suite decisions new x y z v u had keeps)
