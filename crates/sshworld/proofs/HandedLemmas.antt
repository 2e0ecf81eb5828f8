-- What the two endpoints of a world hand over.

use Rattle.std.proofs.Common.{◌≡◌, ◌≢◌, ◌⊎◌, inl, inr, ℕ, List, [], Option, None, Some, take, drop, refl, sym, ap, subst, ◌∙◌}
use Rattle.std.proofs.lemmas.List.{take-append-drop}
use Rattle.std.specs.Option.{option_zip}
use Rattle.sshpacket.specs.Places.{IsPrefix}
use Rattle.sshpacket.specs.Suite.{SuiteData}
use Rattle.sshcore.specs.declared.end.Fault.TheVariants as fault
use Rattle.sshcore.specs.declared.session.Session.{Session}
use Rattle.sshcore.specs.ConfigParts.{ClientData, ServerData}
use Rattle.sshcore.specs.EndData.{AgreedData, Authenticated, Closed, Disconnected, EndData, Failed, Open}
use Rattle.sshcore.specs.Endpoints.{EndpointAfter, endpoint_end}
use Rattle.sshcore.specs.EndpointParts.{ConfigData, DecisionsData}
use Rattle.sshcore.specs.Sessions.{IsSession}
use Rattle.sshcore.specs.EndpointData.{endpoint_setup}
use Rattle.sshworld.specs.declared.node.Node.{Node}
use Rattle.sshworld.specs.Joined.{AreCrosswise, AreJoined, HandOver}
use Rattle.sshworld.specs.Nodes.{NodesStand, seen}
use Rattle.sshworld.specs.Compatible.{AreCompatible}

some_taken : (n : ℕ) (sent : List ℕ) → IsPrefix (take n sent) sent
some_taken n sent = record { rest = drop n sent; whole_is = sym (take-append-drop n sent) }

had : (end : EndData) (a : AgreedData) → end ≡ Authenticated a → end ≢ Failed fault.Memory
had end a is failed = cc

-- authenticated or not
is_authenticated : (x : EndData) → ((a : AgreedData) × (x ≡ Authenticated a)) ⊎ ((a : AgreedData) → x ≢ Authenticated a)
is_authenticated Open = inr (λ a e. cc)
is_authenticated (Authenticated a) = inl (a, refl)
is_authenticated (Failed f) = inr (λ a e. cc)
is_authenticated (Closed reason) = inr (λ a e. cc)
is_authenticated (Disconnected reason) = inr (λ a e. cc)

-- where not both are, one hands over nothing
pub not_both : (x y : EndData) (r q : Option Session) → (((a : AgreedData) → x ≢ Authenticated a) → r ≡ None) → (((a : AgreedData) → y ≢ Authenticated a) → q ≡ None)
    → ((a b : AgreedData) → x ≡ Authenticated a → y ≢ Authenticated b) → option_zip r q ≡ None
not_both x y r q first second off = by (is_authenticated x) (is_authenticated y)
  where
    none_after : (o : Option Session) → option_zip {U = Session} o None ≡ None
    none_after None = refl
    none_after (Some s) = refl

    by : ((a : AgreedData) × (x ≡ Authenticated a)) ⊎ ((a : AgreedData) → x ≢ Authenticated a) → ((b : AgreedData) × (y ≡ Authenticated b)) ⊎ ((b : AgreedData) → y ≢ Authenticated b) → option_zip r q ≡ None
    by (inl (a, is)) (inl (b, other_is)) = absurd (off a b is other_is)
    by (inl a) (inr not) = ap (option_zip r) (second not) ∙ none_after r
    by (inr not) b = ap (λ (o : Option Session). option_zip o q) (first not)

-- where both are handed over
zip_both : (r q : Option Session) (x y : Session) → r ≡ Some x → q ≡ Some y → Some (x, y) ≡ option_zip r q
zip_both r q x y e f = rw (e, f) refl

module _ {S D : Type 0} (meaning : S → SuiteData) (policy : D → DecisionsData) (c : ClientData) (s : ServerData) (suite : S) (decisions : D) (client server : Node S D)
    (stands : NodesStand meaning policy c s suite decisions client server) (a b : AgreedData) (is : endpoint_end client.endpoint ≡ Authenticated a) (other_is : endpoint_end server.endpoint ≡ Authenticated b) where
  pub client_after : EndpointAfter meaning policy client.endpoint (take client.used server.sent.items) client.sent.items
  client_after = stands.client_stands.after (had (endpoint_end client.endpoint) a is)

  pub server_after : EndpointAfter meaning policy server.endpoint (take server.used client.sent.items) server.sent.items
  server_after = stands.server_stands.after (had (endpoint_end server.endpoint) b other_is)

  pub nodes_joined : AreJoined meaning policy c s client.endpoint server.endpoint (take client.used server.sent.items) client.sent.items (take server.used client.sent.items) server.sent.items
  nodes_joined =
      let x = stands.client_stands in
      let y = stands.server_stands in
      record {
        is_client = x.is_role;
        is_server = y.is_role;
        of_client = x.is_config;
        of_server = y.is_config;
        one_suite = y.is_suite ∙ sym x.is_suite;
        same_decisions = y.is_decisions ∙ sym x.is_decisions;
        client_after = client_after;
        server_after = server_after;
        to_client = some_taken client.used server.sent.items;
        to_server = some_taken server.used client.sent.items;
      }

  -- what is handed over by both, of which the law of sessions says that it matches
  pub handed : (r q : Option Session)
      → (x : Session) × (r ≡ Some x) × IsSession (endpoint_setup meaning policy client.endpoint) client_after.units client_after.answers client_after.sizes a x × (client_after.rest ≡ [])
      → (y : Session) × (q ≡ Some y) × IsSession (endpoint_setup meaning policy server.endpoint) server_after.units server_after.answers server_after.sizes b y × (server_after.rest ≡ [])
      → ((x y : Session) → AreCompatible (meaning client.endpoint.suite) (policy client.endpoint.decisions) c s
      → IsSession (endpoint_setup meaning policy client.endpoint) nodes_joined.client_after.units nodes_joined.client_after.answers nodes_joined.client_after.sizes a x
      → IsSession (endpoint_setup meaning policy server.endpoint) nodes_joined.server_after.units nodes_joined.server_after.answers nodes_joined.server_after.sizes b y → AreCrosswise x y)
      → HandOver meaning policy (AreCompatible (meaning suite) (policy decisions) c s) (seen c s suite decisions client server) a b (option_zip r q)
  unfolding client_after server_after nodes_joined
  handed r q (x, rx, sx, _) (y, qy, sy, _) law =
      subst (λ (t : Option (Session × Session)). HandOver meaning policy (AreCompatible (meaning suite) (policy decisions) c s) (seen c s suite decisions client server) a b t) (zip_both r q x y rx qy) (record {
        of_client = client.endpoint;
        of_server = server.endpoint;
        client_end = refl;
        server_end = refl;
        one_suite = stands.client_stands.is_suite;
        same_decisions = stands.client_stands.is_decisions;
        joined = nodes_joined;
        client_session = sx;
        server_session = sy;
        client_agreed = sx.agreed_is;
        server_agreed = sy.agreed_is;
        client_version = sx.own_version ∙ ap (λ (q : ConfigData). q.version) stands.client_stands.is_config;
        server_version = sy.own_version ∙ ap (λ (q : ConfigData). q.version) stands.server_stands.is_config;
        crosswise = λ u. law x y (compatible u) sx sy;
      })
    where
      compatible : AreCompatible (meaning suite) (policy decisions) c s → AreCompatible (meaning client.endpoint.suite) (policy client.endpoint.decisions) c s
      compatible u =
          subst (λ (k : S). AreCompatible (meaning k) (policy client.endpoint.decisions) c s) (sym stands.client_stands.is_suite)
          (subst (λ (k : D). AreCompatible (meaning suite) (policy k) c s) (sym stands.client_stands.is_decisions) u)
