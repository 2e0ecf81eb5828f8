-- Two endpoints that were made and fed by hand.

use Rattle.std.proofs.Common.{◌≡◌, ◌∙◌, ◌++◌, ℕ, List, [], Result, Ok, ap, append_assoc, drop, subst, sym, take}
use Rattle.std.specs.Result.{IfOk}
use Rattle.std.proofs.lemmas.List.{take-append-drop}
use Rattle.sshneg.specs.declared.side.Side.TheVariants as role
use Rattle.sshpacket.specs.Places.{IsPrefix}
use Rattle.sshpacket.specs.Suite.{SuiteData}
use Rattle.sshcore.specs.ConfigParts.{ClientData, ServerData}
use Rattle.sshcore.specs.EndpointData.{EndpointData}
use Rattle.sshcore.specs.Endpoints.{EndpointMade, Fed}
use Rattle.sshcore.specs.EndpointParts.{DecisionsData, config_of_client, config_of_server}
use Rattle.sshpromises.specs.Claims.{AreJoinedSomehow}
use Rattle.sshwire.proofs.OwnedLemmas.{there}

-- the first n of some bytes are a prefix of these and more
front : (n : ℕ) (bytes sent : List ℕ) → sent ≡ bytes → IsPrefix (take n bytes) sent
front n bytes sent e = record { rest = drop n bytes; whole_is = e ∙ sym (take-append-drop n bytes) }

front_more : (n : ℕ) (bytes first more : List ℕ) → bytes ≡ first → IsPrefix (take n bytes) (first ++ more)
front_more n bytes first more e = record {
  rest = drop n bytes ++ more;
  whole_is = ap (λ (b : List ℕ). b ++ more) (sym e ∙ sym (take-append-drop n bytes)) ∙ append_assoc (take n bytes) (drop n bytes) more;
}

module _ {S D E : Type 0} (meaning : S → SuiteData) (policy : D → DecisionsData) (cc : ClientData) (sc : ServerData) (suite : S) (decisions : D) (first c0 c1 s0 s1 : EndpointData S D)
    (made : Result (EndpointData S D) E) (p q a b : List ℕ) (none : p ≡ []) (nothing : q ≡ []) (is_first : c0 ≡ first) (is_made : made ≡ Ok s0)
    (of_first : EndpointMade meaning policy role.Client (config_of_client cc) suite decisions first p a) (of_made : IfOk made (λ e. EndpointMade meaning policy role.Server (config_of_server sc) suite decisions e q b))
    (used other : ℕ) (t x : List ℕ) (fs : Fed meaning policy s0 s1 (take used a) b t) (fc : Fed meaning policy c0 c1 (take other t) a x) where
  mc : EndpointMade meaning policy role.Client (config_of_client cc) suite decisions c0 p a
  mc = subst (λ (e : EndpointData S D). EndpointMade meaning policy role.Client (config_of_client cc) suite decisions e p a) (sym is_first) of_first

  ms : EndpointMade meaning policy role.Server (config_of_server sc) suite decisions s0 q b
  ms = there made (λ e. EndpointMade meaning policy role.Server (config_of_server sc) suite decisions e q b) s0 is_made of_made

  of_a : a ≡ mc.added
  of_a = mc.appended ∙ ap (λ (l : List ℕ). l ++ mc.added) none

  of_b : b ≡ ms.added
  of_b = ms.appended ∙ ap (λ (l : List ℕ). l ++ ms.added) nothing

  pub hand_joined : AreJoinedSomehow meaning policy cc sc c1 s1
  hand_joined = record {
    client_received = take other t;
    client_sent = mc.added ++ fc.added;
    server_received = take used a;
    server_sent = ms.added ++ fs.added;
    joined = record {
      is_client = fc.same.same_role ∙ mc.is_role;
      is_server = fs.same.same_role ∙ ms.is_role;
      of_client = fc.same.same_config ∙ mc.is_config;
      of_server = fs.same.same_config ∙ ms.is_config;
      one_suite = (fs.same.same_suite ∙ ms.is_suite) ∙ sym (fc.same.same_suite ∙ mc.is_suite);
      same_decisions = (fs.same.same_decisions ∙ ms.is_decisions) ∙ sym (fc.same.same_decisions ∙ mc.is_decisions);
      client_after = fc.follows [] mc.added mc.begins;
      server_after = fs.follows [] ms.added ms.begins;
      to_client = front other t (ms.added ++ fs.added) (ap (λ (l : List ℕ). l ++ fs.added) (sym of_b) ∙ sym fs.appended);
      to_server = front_more used a mc.added fc.added of_a;
    };
  }
