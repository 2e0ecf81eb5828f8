-- How an endpoint ends, by what it received.

use Rattle.std.proofs.Common.{◌≡◌, ℕ, true, false, List, [], ◌++◌, Option, sym, ap, ◌∙◌, subst}
use Rattle.std.proofs.lemmas.Bool.{true≢false}
use Rattle.sshneg.specs.declared.side.Side.{Side}
use Rattle.sshpacket.specs.Parse.{Refusal}
use Rattle.sshpacket.specs.Stream.{Units}
use Rattle.sshpacket.specs.Suite.{SuiteData}
use Rattle.sshcore.specs.Authenticated.{IsAuthenticated}
use Rattle.sshcore.specs.Before.{strict_at}
use Rattle.sshcore.specs.Directions.{payloads_in}
use Rattle.sshcore.specs.EndData.{AgreedData, EndData, Open, by_owner}
use Rattle.sshcore.specs.EndpointData.{EndpointData, endpoint_setup}
use Rattle.sshcore.specs.Endpoints.{EndpointAfter, IsSameEndpoint, endpoint_end}
use Rattle.sshcore.specs.History.{History, IsOneHistory}
use Rattle.sshcore.specs.Inputs.{AsReceived, CutOff, Left, StandsSo}
use Rattle.sshcore.specs.EndpointParts.{ConfigData, DecisionsData, Setup, setup_with}
use Rattle.sshcore.specs.Phases.{past_newkeys}
use Rattle.sshcore.specs.Replies.{Ends}
use Rattle.sshcore.specs.StrictClause.{KeepsStrict}
use Rattle.sshcore.specs.StrictSequence.{BeginsStrictly}
use Rattle.sshcore.proofs.UncutLemmas.{uncut_received}

-- an endpoint that its owner didn't end stands as what it received left it
pub as_received : (received_end end : EndData) → StandsSo received_end end → by_owner end ≡ false → received_end ≡ end
as_received received_end end (AsReceived e) uncut = sym e
as_received received_end end (CutOff h e) uncut = absurd (true≢false (sym (ap by_owner e) ∙ uncut))
as_received received_end end (Left reason h e) uncut = absurd (true≢false (sym (ap by_owner e) ∙ uncut))

module _ (setup : Setup) where
  -- an endpoint that its owner ended stood open
  pub cut_open : (units : Units) (r : Option Refusal) (received_end end : EndData) → Ends setup units r received_end → StandsSo received_end end → by_owner end ≡ true → received_end ≡ Open
  cut_open units r received_end end e (AsReceived same) owned = absurd (true≢false (sym (ap by_owner (sym same) ∙ owned) ∙ uncut_received setup units r received_end e))
  cut_open units r received_end end e (CutOff is_open is) owned = is_open
  cut_open units r received_end end e (Left reason is_open is) owned = is_open

-- the law of histories' clause of joined inputs
abbrev pub Joined : Type 0
Joined = (setup : Setup) (units other_units : Units) (sizes other_sizes rest other_rest : List ℕ) (r other_r : Option Refusal) (answers other_answers : Units)
    (end other_end : EndData) (h g s t x y : List ℕ) → History setup units sizes rest r answers end h s → History setup other_units other_sizes other_rest other_r other_answers other_end g t
    → h ++ x ≡ g ++ y → (end ≡ Open → x ≡ []) → (other_end ≡ Open → y ≡ [])
    → (h ≡ g) × IsOneHistory units other_units rest other_rest r other_r answers other_answers end other_end s t

module _ {S D : Type 0} (meaning : S → SuiteData) (policy : D → DecisionsData) where
  -- what another endpoint of the same config has received and sent is a history of this one's
  same_history : (one other : EndpointData S D) → IsSameEndpoint one other → (units : Units) (sizes rest : List ℕ) (r : Option Refusal) (answers : Units) (end : EndData) (h s : List ℕ)
      → History (endpoint_setup meaning policy other) units sizes rest r answers end h s
      → History (endpoint_setup meaning policy one) units sizes rest r answers end h s
  same_history one other same units sizes rest r answers end h s a =
      subst (λ (v : S). History (setup_with (meaning v) (policy one.decisions) one.role one.config) units sizes rest r answers end h s) same.same_suite
      (subst (λ (v : D). History (setup_with (meaning other.suite) (policy v) one.role one.config) units sizes rest r answers end h s) same.same_decisions
      (subst (λ (v : Side). History (setup_with (meaning other.suite) (policy other.decisions) v one.config) units sizes rest r answers end h s) same.same_role
      (subst (λ (v : ConfigData). History (setup_with (meaning other.suite) (policy other.decisions) other.role v) units sizes rest r answers end h s) same.same_config a)))

  -- endpoints that were given one input used the same bytes of it, and sent and came to the same by them
  pub joined_received : Joined → (one other : EndpointData S D) → IsSameEndpoint one other → (h g s t x y : List ℕ) → (a : EndpointAfter meaning policy one h s) → (b : EndpointAfter meaning policy other g t)
      → h ++ x ≡ g ++ y → (a.received_end ≡ Open → x ≡ []) → (b.received_end ≡ Open → y ≡ []) → (h ≡ g) × (s ≡ t) × (a.received_end ≡ b.received_end)
  joined_received law one other same h g s t x y a b e f k =
      let j = law (endpoint_setup meaning policy one) a.units b.units a.sizes b.sizes a.rest b.rest a.refusal b.refusal a.answers b.answers a.received_end b.received_end h g s t x y
      a.history (same_history one other same b.units b.sizes b.rest b.refusal b.answers b.received_end g t b.history) e f k in
      (j.0, j.1.same_sent, j.1.same_end)

  -- and where neither was ended by its owner, they end the same
  pub joined_ends : Joined → (one other : EndpointData S D) → IsSameEndpoint one other → by_owner (endpoint_end one) ≡ false → by_owner (endpoint_end other) ≡ false → (h g s t x y : List ℕ)
      → EndpointAfter meaning policy one h s → EndpointAfter meaning policy other g t → h ++ x ≡ g ++ y → (endpoint_end one ≡ Open → x ≡ []) → (endpoint_end other ≡ Open → y ≡ [])
      → (h ≡ g) × (s ≡ t) × (endpoint_end one ≡ endpoint_end other)
  joined_ends law one other same p q h g s t x y a b e f k =
      let one_end = as_received a.received_end (endpoint_end one) a.ends p in
      let other_end = as_received b.received_end (endpoint_end other) b.ends q in
      let j = joined_received law one other same h g s t x y a b e (λ o. f (sym one_end ∙ o)) (λ o. k (sym other_end ∙ o)) in
      (j.0, j.1, sym one_end ∙ j.2 ∙ other_end)

-- an endpoint that ended authenticated was in phase auth, so a strict one was given a strict sequence first
pub authenticated_strictly : (setup : Setup) (units : Units) (g : AgreedData) (end : EndData) → KeepsStrict setup.role setup.config units end
    → IsAuthenticated setup units g → strict_at setup.role setup.config (payloads_in units) ≡ true → BeginsStrictly setup.role setup.config.offer (payloads_in units)
authenticated_strictly setup units g end keeps is strict = keeps.sequence strict (ap past_newkeys is.stays_in_auth)
