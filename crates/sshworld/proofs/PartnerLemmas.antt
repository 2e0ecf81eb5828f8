-- A delivery, stated once for either role.

use Rattle.std.proofs.Common.{◌≡◌, ◌≢◌, ℕ, ◌-◌, false, List, [], ◌∷◌, ◌++◌, length, take, drop, Option, None, sym, ap, subst, ◌∙◌, arith, length-append}
use Rattle.std.proofs.lemmas.Bool.{true≢false}
use Rattle.std.proofs.lemmas.List.{take-append-drop, take-append-le, take_all}
use Rattle.sshpacket.specs.Parse.{Refusal}
use Rattle.sshpacket.specs.Places.{IsPrefix}
use Rattle.sshpacket.specs.Stream.{Linked, Received, ReceivedAll, Same, Units}
use Rattle.sshpacket.specs.Suite.{IsLawful, SuiteData}
use Rattle.sshpacket.proofs.Places.{prefix-through}
use Rattle.sshcore.specs.declared.end.Fault.TheVariants as fault
use Rattle.sshcore.specs.declared.input.Input.{Input}
use Rattle.sshcore.specs.Directions.{parsers}
use Rattle.sshcore.specs.EndData.{EndData, Failed, Open, by_owner}
use Rattle.sshcore.specs.History.{History}
use Rattle.sshcore.specs.Inputs.{AsReceived, CutOff, EndpointStands, Left, StandsSo}
use Rattle.sshcore.specs.StateData.{StateData}
use Rattle.sshcore.specs.EndpointParts.{DecisionsData, Setup}
use Rattle.sshcore.specs.Replies.{Replies}
use Rattle.sshworld.specs.Follows.{IsInPart}
use Rattle.sshworld.specs.Partners.{BothOnCourse, HasHistory, NodeReplies, OnCourse, Partner, ReceivesCourse, partner_setup, payloads_of, stream_of}
use Rattle.sshworld.specs.Laws.{Laws}
use Rattle.sshworld.specs.Worlds.{NodeData, waiting, waiting_at}
use Rattle.sshworld.proofs.HeadlineLemmas.{sent_prefix}
use Rattle.sshworld.proofs.LinkLemmas.{received_all, received_prefix}
use Rattle.sshworld.proofs.PartLemmas.{grows}

-- an endpoint that stands so, and wasn't ended by its owner, has a history
pub from_standing : (setup : Setup) (kept : StateData) (i : Input) (h s : List ℕ)
    → EndpointStands setup kept i h s → by_owner kept.end ≡ false → HasHistory setup kept.end h s
from_standing setup kept i h s a whole = record {
  units = a.units;
  sizes = a.sizes;
  rest = a.rest;
  refusal = a.refusal;
  answers = a.answers;
  history = subst (λ (e : EndData). History setup a.units a.sizes a.rest a.refusal a.answers e h s) (by a.received_end a.ends) a.history;
}
  where
    by : (e : EndData) → StandsSo e kept.end → e ≡ kept.end
    by e (AsReceived is) = sym is
    by e (CutOff was is) = absurd (true≢false (sym (ap by_owner is) ∙ whole))
    by e (Left reason was is) = absurd (true≢false (sym (ap by_owner is) ∙ whole))

module _ (laws : Laws) (m : SuiteData) (d : DecisionsData) (own their : Partner) where
  -- nothing was received of nothing
  received_none : (node opposite : NodeData) → node.used ≡ 0 → (a : HasHistory (partner_setup m d own) node.end (take node.used opposite.sent) node.sent)
      → IsPrefix a.units (stream_of their) × (a.refusal ≡ None)
  received_none node opposite none a =
      let parsers_of = parsers m own.role own.config in
      let received : Received (parsers m own.role own.config) [] a.units a.sizes a.rest a.refusal
      = subst (λ (k : ℕ). Received (parsers m own.role own.config) (take k opposite.sent) a.units a.sizes a.rest a.refusal) none a.history.received in
      let same : Same a.units [] a.rest [] a.refusal None
      = laws.one (parsers m own.role own.config) [] a.units [] a.sizes [] a.rest [] a.refusal None received (laws.nothing (parsers m own.role own.config) (laws.parsers m own.role own.config)) in
      (record { rest = stream_of their; whole_is = ap (λ (q : Units). q ++ stream_of their) (sym same.same_units) }, same.same_refusal)

  begins_at : (node opposite : NodeData) → node.used ≡ 0 → NodeReplies (partner_setup m d own) node opposite → OnCourse m d own their node opposite
  begins_at node opposite none r = record { replies = r; prefix = λ had other_had a. received_none node opposite none a }

pub begins : (laws : Laws) (m : SuiteData) (d : DecisionsData) (own their : Partner) (node opposite : NodeData) → node.used ≡ 0 → opposite.used ≡ 0
    → NodeReplies (partner_setup m d own) node opposite → NodeReplies (partner_setup m d their) opposite node → BothOnCourse m d own their node opposite
begins laws m d own their node opposite none other_none r q = record { own_side = begins_at laws m d own their node opposite none r; their_side = begins_at laws m d their own opposite node other_none q }

-- What a side that is on its course has received and sent: it stands in its part.
module _ (m : SuiteData) (d : DecisionsData) (own their : Partner) (receives : ReceivesCourse m d their own) (node opposite : NodeData) (on : OnCourse m d own their node opposite)
    (had : node.end ≢ Failed fault.Memory) (other_had : opposite.end ≢ Failed fault.Memory)
    (a : HasHistory (partner_setup m d own) node.end (take node.used opposite.sent) node.sent) where
  pub in_part : IsInPart own.part a.units a.answers node.end
  in_part =
      let f = on.prefix had other_had a in
      receives.keeps a.units a.answers node.end f.0 (subst (λ (r : Option Refusal). Replies (partner_setup m d own) a.units r a.answers node.end) f.1 a.history.replies)

  pub sent_prefix_of : IsPrefix a.answers (payloads_of own)
  sent_prefix_of = let is = in_part in subst (λ (q : Units). IsPrefix q (payloads_of own)) (sym is.sent) (grows own.part (length a.units) is.within)

-- What is received of a speaker that is on its course; the speaker's node is the opposite one, beside the own node as it was.
module _ (laws : Laws) (m : SuiteData) (d : DecisionsData) (lawful : IsLawful m) (own their : Partner) (receives : ReceivesCourse m d own their) (old opposite : NodeData)
    (on : OnCourse m d their own opposite old) (had : old.end ≢ Failed fault.Memory) (other_had : opposite.end ≢ Failed fault.Memory)
    (b : HasHistory (partner_setup m d their) opposite.end (take opposite.used old.sent) opposite.sent) where
  pub receives_prefix : (received more : List ℕ) (us : Units) (ns left : List ℕ) (r : Option Refusal) → opposite.sent ≡ received ++ more → Received (parsers m own.role own.config) received us ns left r
      → Linked us (their.config.version ∷ b.answers) r
  receives_prefix = received_prefix laws m d lawful own.role their.role own.config their.config (payloads_of own) (payloads_of their) receives.received b.units b.answers b.sizes b.rest (take opposite.used old.sent) opposite.sent b.refusal opposite.end
      b.history (on.prefix other_had had b).0 (sent_prefix_of m d their own receives opposite old on other_had had b)

  pub receives_all : (us : Units) (ns left : List ℕ) (r : Option Refusal) → Received (parsers m own.role own.config) opposite.sent us ns left r → ReceivedAll us (their.config.version ∷ b.answers) left r
  receives_all = received_all laws m d lawful own.role their.role own.config their.config (payloads_of own) (payloads_of their) receives.received b.units b.answers b.sizes b.rest (take opposite.used old.sent) opposite.sent b.refusal opposite.end
      b.history (on.prefix other_had had b).0 (sent_prefix_of m d their own receives opposite old on other_had had b)

  pub stream_prefix : IsPrefix (their.config.version ∷ b.answers) (stream_of their)
  stream_prefix = sent_prefix their.part b.units b.answers opposite.end (in_part m d their own receives opposite old on other_had had b) their.config.version

module _ (laws : Laws) (m : SuiteData) (d : DecisionsData) (lawful : IsLawful m) (own their : Partner) (receives : ReceivesCourse m d own their) (old new opposite : NodeData)
    (on : OnCourse m d their own opposite old) (had : old.end ≢ Failed fault.Memory) where
  -- the receiver, beside the speaker
  pub node_receives : NodeReplies (partner_setup m d own) new opposite → OnCourse m d own their new opposite
  node_receives r = record {
    replies = r;
    prefix = λ new_had other_had a.
        let b = on.replies.replies other_had in
        let l = receives_prefix laws m d lawful own their receives old opposite on had other_had b (take new.used opposite.sent) (drop new.used opposite.sent) a.units a.sizes a.rest a.refusal
        (sym (take-append-drop new.used opposite.sent)) a.history.received in
        (prefix-through a.units (their.config.version ∷ b.answers) (stream_of their) l.prefix (stream_prefix laws m d lawful own their receives old opposite on had other_had b), l.no_refusal);
  }

module _ (m : SuiteData) (d : DecisionsData) (own their : Partner) (old new opposite : NodeData) (on : OnCourse m d their own opposite old) (more : IsPrefix old.sent new.sent) where
  same_taken : take opposite.used new.sent ≡ take opposite.used old.sent
  same_taken = ap (take opposite.used) more.whole_is ∙ take-append-le opposite.used old.sent more.rest (omega (arith, on.replies.used_within, on.replies.moved_within))

  replies_on : NodeReplies (partner_setup m d their) opposite new
  replies_on = record {
    used_within = on.replies.used_within;
    moved_within = omega (arith, on.replies.moved_within, ap length more.whole_is, length-append old.sent more.rest);
    all_used = on.replies.all_used;
    replies = λ had. subst (λ (b : List ℕ). HasHistory (partner_setup m d their) opposite.end b opposite.sent) (sym same_taken) (on.replies.replies had);
  }

  -- the speaker, beside a receiver that had memory and sent more
  pub stays : old.end ≢ Failed fault.Memory → OnCourse m d their own opposite new
  stays had = record {
    replies = replies_on;
    prefix = λ other_had new_had. subst (λ (b : List ℕ). (a : HasHistory (partner_setup m d their) opposite.end b opposite.sent) → IsPrefix a.units (stream_of own) × (a.refusal ≡ None))
        (sym same_taken) (on.prefix other_had had);
  }

-- One delivery, to a side that had memory.
pub delivered : (laws : Laws) (m : SuiteData) (d : DecisionsData) → IsLawful m → (own their : Partner) → ReceivesCourse m d own their → (old new opposite : NodeData)
    → BothOnCourse m d own their old opposite → old.end ≢ Failed fault.Memory → NodeReplies (partner_setup m d own) new opposite → IsPrefix old.sent new.sent
    → BothOnCourse m d own their new opposite
delivered laws m d lawful own their receives old new opposite on had r more = record {
  own_side = node_receives laws m d lawful own their receives old new opposite on.their_side had r;
  their_side = stays m d own their old new opposite on.their_side more had;
}

-- Two sides on their course, neither of which ran out of memory.
module _ (laws : Laws) (m : SuiteData) (d : DecisionsData) (lawful : IsLawful m) (own their : Partner) (receives : ReceivesCourse m d own their) (node opposite : NodeData) (on : BothOnCourse m d own their node opposite)
    (had : node.end ≢ Failed fault.Memory) (other_had : opposite.end ≢ Failed fault.Memory)
    (a : HasHistory (partner_setup m d own) node.end (take node.used opposite.sent) node.sent)
    (b : HasHistory (partner_setup m d their) opposite.end (take opposite.used node.sent) opposite.sent) where
  -- what one has received is a prefix of what the other has sent
  pub received_of : IsPrefix a.units (their.config.version ∷ b.answers)
  received_of = (receives_prefix laws m d lawful own their receives node opposite on.their_side had other_had b (take node.used opposite.sent) (drop node.used opposite.sent) a.units a.sizes a.rest a.refusal
      (sym (take-append-drop node.used opposite.sent)) a.history.received).prefix

  -- and all of it, where it is open and nothing waits for it
  pub all_received_of : node.end ≡ Open → waiting node opposite ≡ 0 → a.units ≡ their.config.version ∷ b.answers
  all_received_of o w =
      let r = on.own_side.replies in
      let none : length opposite.sent - node.moved ≡ 0 = sym (ap (λ (e : EndData). waiting_at e (length opposite.sent) node.moved) o) ∙ w in
      let whole : take node.used opposite.sent ≡ opposite.sent = take_all node.used opposite.sent (omega (arith, none, r.all_used o, r.moved_within)) in
      (receives_all laws m d lawful own their receives node opposite on.their_side had other_had b a.units a.sizes a.rest a.refusal
      (subst (λ (h : List ℕ). Received (parsers m own.role own.config) h a.units a.sizes a.rest a.refusal) whole a.history.received)).all_units
