-- Two endpoints that are joined, as their histories.

use Rattle.std.proofs.Common.{◌≡◌, ◌≢◌, ℕ, List, Option, None, take, drop, sym, subst, ◌∙◌}
use Rattle.std.proofs.lemmas.List.{take-append-drop}
use Rattle.sshneg.specs.declared.side.Side.{Side}
use Rattle.sshpacket.specs.Parse.{Refusal}
use Rattle.sshpacket.specs.Places.{IsPrefix}
use Rattle.sshpacket.specs.Stream.{Units}
use Rattle.sshpacket.specs.Suite.{IsLawful, SuiteData}
use Rattle.sshcore.specs.declared.end.Fault.TheVariants as fault
use Rattle.sshcore.specs.declared.input.Input.{Input}
use Rattle.sshcore.specs.declared.session.Session.{Session}
use Rattle.sshcore.specs.ConfigParts.{ClientData, ServerData}
use Rattle.sshcore.specs.EndData.{AgreedData, Authenticated, EndData, Failed}
use Rattle.sshcore.specs.EndpointData.{EndpointData, endpoint_setup}
use Rattle.sshcore.specs.Endpoints.{endpoint_end}
use Rattle.sshcore.specs.History.{History}
use Rattle.sshcore.specs.Inputs.{EndpointStands}
use Rattle.sshcore.specs.StateData.{StateData}
use Rattle.sshcore.specs.EndpointParts.{ConfigData, DecisionsData, Setup, client_setup, config_of_client, config_of_server, server_setup, setup_with}
use Rattle.sshcore.specs.Replies.{Ends, ended, goes_on}
use Rattle.sshcore.specs.Sessions.{IsSession}
use Rattle.sshcore.proofs.AuthenticatedLemmas.{none_refused}
use Rattle.sshcore.proofs.LawsBelow.{Below}
use Rattle.sshcore.proofs.SessionLemmas.{uncut_end}
use Rattle.sshworld.specs.Conversed.{EachReplies}
use Rattle.sshworld.specs.CourseReceived.{BothReceive}
use Rattle.sshworld.specs.Joined.{AreCrosswise, AreJoined}
use Rattle.sshworld.specs.Laws.{Laws}
use Rattle.sshworld.specs.Wordings.{wording_of}
use Rattle.sshworld.specs.Worlds.{WorldData}
use Rattle.sshworld.proofs.CrosswiseLemmas.{all_received, crosswise}

module _ (setup : Setup) where
  unrefused : (units : Units) (refusal : Option Refusal) (agreed : AgreedData) → Ends setup units refusal (Authenticated agreed) → refusal ≡ None
  unrefused units refusal agreed (goes_on stays is) = absurd (none_refused refusal agreed is)
  unrefused units refusal agreed (ended before last units_are stays is shut none) = none

  -- an endpoint that ended authenticated was refused nothing
  pub history_so : (kept : StateData) (i : Input) (h s : List ℕ) (p : EndpointStands setup kept i h s) (agreed : AgreedData) → kept.end ≡ Authenticated agreed
      → History setup p.units p.sizes p.rest None p.answers (Authenticated agreed) h s
  history_so kept i h s p agreed is =
      let now : History setup p.units p.sizes p.rest p.refusal p.answers (Authenticated agreed) h s =
      subst (λ (e : EndData). History setup p.units p.sizes p.rest p.refusal p.answers e h s) (uncut_end p.received_end kept.end agreed p.ends is) p.history in
      subst (λ (r : Option Refusal). History setup p.units p.sizes p.rest r p.answers (Authenticated agreed) h s) (unrefused p.units p.refusal agreed now.replies.ends) now

module _ {S D : Type 0} (meaning : S → SuiteData) (policy : D → DecisionsData) where
  module _ (laws : Laws) (below : Below) (c : ClientData) (s : ServerData) (client server : EndpointData S D) (client_received client_sent server_received server_sent : List ℕ)
      (lawful : IsLawful (meaning client.suite)) (receive : BothReceive (meaning client.suite) (policy client.decisions) c s (wording_of (meaning client.suite) (policy client.decisions) c s))
      (j : AreJoined meaning policy c s client server client_received client_sent server_received server_sent) (a b : AgreedData)
      (is : endpoint_end client ≡ Authenticated a) (other_is : endpoint_end server ≡ Authenticated b) where
    client_history : History (client_setup (meaning client.suite) (policy client.decisions) c) j.client_after.units j.client_after.sizes j.client_after.rest None j.client_after.answers (Authenticated a) client_received client_sent
    client_history =
        let p = j.client_after in
        subst (λ (r : Side). History (setup_with (meaning client.suite) (policy client.decisions) r (config_of_client c)) p.units p.sizes p.rest None p.answers (Authenticated a) client_received client_sent) j.is_client
        (subst (λ (q : ConfigData). History (setup_with (meaning client.suite) (policy client.decisions) client.role q) p.units p.sizes p.rest None p.answers (Authenticated a) client_received client_sent) j.of_client
        (history_so (endpoint_setup meaning policy client) _ client.input client_received client_sent p a is))

    server_history : History (server_setup (meaning client.suite) (policy client.decisions) s) j.server_after.units j.server_after.sizes j.server_after.rest None j.server_after.answers (Authenticated b) server_received server_sent
    server_history =
        let p = j.server_after in
        subst (λ (r : Side). History (setup_with (meaning client.suite) (policy client.decisions) r (config_of_server s)) p.units p.sizes p.rest None p.answers (Authenticated b) server_received server_sent) j.is_server
        (subst (λ (q : ConfigData). History (setup_with (meaning client.suite) (policy client.decisions) server.role q) p.units p.sizes p.rest None p.answers (Authenticated b) server_received server_sent) j.of_server
        (subst (λ (k : S). History (setup_with (meaning k) (policy client.decisions) server.role server.config) p.units p.sizes p.rest None p.answers (Authenticated b) server_received server_sent) j.one_suite
        (subst (λ (k : D). History (setup_with (meaning server.suite) (policy k) server.role server.config) p.units p.sizes p.rest None p.answers (Authenticated b) server_received server_sent) j.same_decisions
        (history_so (endpoint_setup meaning policy server) _ server.input server_received server_sent p b other_is))))

    pub joined_received : (client_received ≡ server_sent) × (server_received ≡ client_sent) × (a ≡ b)
    joined_received =
        let p = j.client_after in
        let q = j.server_after in
        all_received laws below (meaning client.suite) (policy client.decisions) lawful c s (wording_of (meaning client.suite) (policy client.decisions) c s) receive p.units p.answers p.sizes p.rest client_received client_sent a client_history
        q.units q.answers q.sizes q.rest server_received server_sent b server_history j.to_client j.to_server

    pub joined_crosswise : (one other : Session) → IsSession (endpoint_setup meaning policy client) j.client_after.units j.client_after.answers j.client_after.sizes a one
        → IsSession (endpoint_setup meaning policy server) j.server_after.units j.server_after.answers j.server_after.sizes b other → AreCrosswise one other
    joined_crosswise one other t u =
        let p = j.client_after in
        let q = j.server_after in
        crosswise laws below (meaning client.suite) (policy client.decisions) lawful c s (wording_of (meaning client.suite) (policy client.decisions) c s) receive p.units p.answers p.sizes p.rest client_received client_sent a client_history
        q.units q.answers q.sizes q.rest server_received server_sent b server_history j.to_client j.to_server one other
        (subst (λ (r : Side). IsSession (setup_with (meaning client.suite) (policy client.decisions) r (config_of_client c)) p.units p.answers p.sizes a one) j.is_client
        (subst (λ (x : ConfigData). IsSession (setup_with (meaning client.suite) (policy client.decisions) client.role x) p.units p.answers p.sizes a one) j.of_client t))
        (subst (λ (r : Side). IsSession (setup_with (meaning client.suite) (policy client.decisions) r (config_of_server s)) q.units q.answers q.sizes b other) j.is_server
        (subst (λ (x : ConfigData). IsSession (setup_with (meaning client.suite) (policy client.decisions) server.role x) q.units q.answers q.sizes b other) j.of_server
        (subst (λ (k : S). IsSession (setup_with (meaning k) (policy client.decisions) server.role server.config) q.units q.answers q.sizes b other) j.one_suite
        (subst (λ (k : D). IsSession (setup_with (meaning server.suite) (policy k) server.role server.config) q.units q.answers q.sizes b other) j.same_decisions u))))

  had : (end : EndData) (a : AgreedData) → end ≡ Authenticated a → end ≢ Failed fault.Memory
  had end a is failed = cc (is, failed)

  some_taken : (n : ℕ) (sent : List ℕ) → IsPrefix (take n sent) sent
  some_taken n sent = record { rest = drop n sent; whole_is = sym (take-append-drop n sent) }

  -- the two endpoints of a world
  pub of_world : (w : WorldData S D) (a b : AgreedData) → EachReplies meaning policy w → w.client.end ≡ Authenticated a → w.server.end ≡ Authenticated b
      → (client : EndpointData S D) × (server : EndpointData S D) × (endpoint_end client ≡ w.client.end) × (endpoint_end server ≡ w.server.end) × (client.suite ≡ w.suite) × (client.decisions ≡ w.decisions)
      × AreJoined meaning policy w.client_config w.server_config client server (take w.client.used w.server.sent) w.client.sent (take w.server.used w.client.sent) w.server.sent
  of_world w a b r is other_is =
      let x = r.client.replies (had w.client.end a is) in
      let y = r.server.replies (had w.server.end b other_is) in (
        x.endpoint,
        y.endpoint,
        x.is_end,
        y.is_end,
        x.is_suite,
        x.is_decisions,
        record {
          is_client = x.is_role;
          is_server = y.is_role;
          of_client = x.is_config;
          of_server = y.is_config;
          one_suite = y.is_suite ∙ sym x.is_suite;
          same_decisions = y.is_decisions ∙ sym x.is_decisions;
          client_after = x.after;
          server_after = y.after;
          to_client = some_taken w.client.used w.server.sent;
          to_server = some_taken w.server.used w.client.sent;
        },
      )
