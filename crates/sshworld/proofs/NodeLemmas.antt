-- The two nodes of a world on the course of their configs, after a delivery.

use Rattle.std.proofs.Common.{◌≡◌, ℕ, false, List, take, sym, subst}
use Rattle.sshneg.specs.declared.side.Side.{Side}
use Rattle.sshpacket.specs.Suite.{IsLawful, SuiteData}
use Rattle.sshcore.specs.EndData.{by_owner}
use Rattle.sshcore.specs.EndpointData.{EndpointData, endpoint_setup}
use Rattle.sshcore.specs.Endpoints.{EndpointAfter, endpoint_end}
use Rattle.sshcore.specs.StateData.{state_data}
use Rattle.sshcore.specs.EndpointParts.{ConfigData, DecisionsData, setup_with}
use Rattle.sshworld.specs.declared.node.Node.{Node}
use Rattle.sshworld.specs.Partners.{BothOnCourse, HasHistory, NodeReplies, Partner, ReceivesCourse}
use Rattle.sshworld.specs.Laws.{Laws}
use Rattle.sshworld.specs.Nodes.{NodeStands, Receives, ReceivesInto, ReceivesNone, ReceivesSome, node_data}
use Rattle.sshworld.proofs.PartnerLemmas.{delivered, from_standing}
use Rattle.sshworld.proofs.StandsLemmas.{sent_on}

module _ {S D : Type 0} (meaning : S → SuiteData) (policy : D → DecisionsData) where
  -- an endpoint of this role, config, suite and decisions, as its history
  endpoint_history : (e : EndpointData S D) (role : Side) (config : ConfigData) (suite : S) (decisions : D) (h s : List ℕ) → e.role ≡ role → e.config ≡ config → e.suite ≡ suite → e.decisions ≡ decisions
      → by_owner (endpoint_end e) ≡ false → EndpointAfter meaning policy e h s → HasHistory (setup_with (meaning suite) (policy decisions) role config) (endpoint_end e) h s
  endpoint_history e role config suite decisions h s is_role is_config is_suite is_decisions whole a =
      subst (λ (k : Side). HasHistory (setup_with (meaning suite) (policy decisions) k config) (endpoint_end e) h s) is_role
      (subst (λ (k : ConfigData). HasHistory (setup_with (meaning suite) (policy decisions) e.role k) (endpoint_end e) h s) is_config
      (subst (λ (k : S). HasHistory (setup_with (meaning k) (policy decisions) e.role e.config) (endpoint_end e) h s) is_suite
      (subst (λ (k : D). HasHistory (setup_with (meaning e.suite) (policy k) e.role e.config) (endpoint_end e) h s) is_decisions
      (from_standing (endpoint_setup meaning policy e) (state_data e.state) e.input h s a whole))))

  pub node_history : (role : Side) (config : ConfigData) (suite : S) (decisions : D) (node other_node : Node S D) → NodeStands meaning policy role config suite decisions node other_node.sent.items
      → by_owner (endpoint_end node.endpoint) ≡ false → NodeReplies (setup_with (meaning suite) (policy decisions) role config) (node_data node) (node_data other_node)
  node_history role config suite decisions node other_node r whole = record {
    used_within = r.used_within;
    moved_within = r.moved_within;
    all_used = r.all_used;
    replies = λ had. endpoint_history node.endpoint role config suite decisions (take node.used other_node.sent.items) node.sent.items r.is_role r.is_config r.is_suite r.is_decisions whole (r.after had);
  }

  -- The two nodes stay on their course, whatever the one receives.
  pub stays_on_course : (laws : Laws) (suite : S) (decisions : D) → IsLawful (meaning suite) → (own their : Partner) → ReceivesCourse (meaning suite) (policy decisions) own their
      → (old new other_node : Node S D) → BothOnCourse (meaning suite) (policy decisions) own their (node_data old) (node_data other_node)
      → NodeStands meaning policy own.role own.config suite decisions new other_node.sent.items → by_owner (endpoint_end new.endpoint) ≡ false
      → Receives meaning policy other_node.sent.items old new → BothOnCourse (meaning suite) (policy decisions) own their (node_data new) (node_data other_node)
  stays_on_course laws suite decisions lawful own their receives old new other_node on stands whole (ReceivesNone e) =
      subst (λ (n : Node S D). BothOnCourse (meaning suite) (policy decisions) own their (node_data n) (node_data other_node)) (sym e) on
  stays_on_course laws suite decisions lawful own their receives old new other_node on stands whole (ReceivesSome n f) =
      delivered laws (meaning suite) (policy decisions) lawful own their receives (node_data old) (node_data new) (node_data other_node) on (λ failed. cc (failed, f.was_open))
      (node_history own.role own.config suite decisions new other_node stands whole) (sent_on meaning policy other_node.sent.items old new (ReceivesSome n f))
  stays_on_course laws suite decisions lawful own their receives old new other_node on stands whole (ReceivesInto n b) =
      delivered laws (meaning suite) (policy decisions) lawful own their receives (node_data old) (node_data new) (node_data other_node) on (λ failed. cc (failed, b.was_open))
      (node_history own.role own.config suite decisions new other_node stands whole) (sent_on meaning policy other_node.sent.items old new (ReceivesInto n b))
