-- Asking endpoints beside each other, and beside one that asks at once.

use Rattle.std.proofs.Common.{◌≡◌, ◌≢◌, ℕ, ◌+◌, false, List, [], ◌∷◌, ◌++◌, length, Option, None, Some, inl, refl, sym, ap, ◌∙◌, subst, append_assoc, arith}
use Rattle.std.proofs.lemmas.List.{append-nil}
use Rattle.std.proofs.Math.Seq.{take-length}
use Rattle.sshneg.specs.declared.side.Side.{Side}
use Rattle.sshpacket.specs.PacketReaderData.{PacketReaderData, packet_reader_data}
use Rattle.sshpacket.specs.Parse.{Refusal, whole}
use Rattle.sshpacket.specs.Places.{IsPrefix, flat_places}
use Rattle.sshpacket.specs.Stream.{Received, Sent, Units}
use Rattle.sshpacket.specs.Suite.{SuiteData}
use Rattle.sshpacket.proofs.Places.{flat-append}
use Rattle.sshcore.specs.declared.input.Input.{Input}
use Rattle.sshcore.specs.declared.input.Input.TheVariants as input
use Rattle.sshcore.specs.AskedQuestions.{ComesLater, question_after}
use Rattle.sshcore.specs.Asking.{AskingAfter, IsSameAsking, asked_at, asked_by, asking_end}
use Rattle.sshcore.specs.AskingBeside.{IsBeside}
use Rattle.sshcore.specs.AskingData.{AskingData, WaitingData, asking_setup}
use Rattle.sshcore.specs.Dialogue.{AsksByPacket}
use Rattle.sshcore.specs.Directions.{parsers, payloads_in, spells, version_in}
use Rattle.sshcore.specs.EndData.{Authenticated, Closed, Disconnected, EndData, Failed, Open, by_owner}
use Rattle.sshcore.specs.EndpointData.{EndpointData}
use Rattle.sshcore.specs.EndpointParts.{ConfigData, DecisionsData, Setup, setup_with}
use Rattle.sshcore.specs.Endpoints.{EndpointAfter, IsSameEndpoint, endpoint_end}
use Rattle.sshcore.specs.History.{History}
use Rattle.sshcore.specs.Inputs.{EndpointStands, IsInput, IsInside}
use Rattle.sshcore.specs.QuestionAt.{question_at}
use Rattle.sshcore.specs.Questions.{QuestionData}
use Rattle.sshcore.specs.Replies.{answers_at, refusal_reply}
use Rattle.sshcore.specs.Standing.{Sits}
use Rattle.sshcore.specs.StateData.{StateData, state_data}
use Rattle.sshcore.specs.Unread.{AskingStands, IsUnread, ReadsPacket}
use Rattle.sshcore.specs.Work.{making}
use Rattle.sshcore.proofs.AskedOnceLemmas as asked
use Rattle.sshcore.proofs.AskedOnceLemmas.{Numbered}
use Rattle.sshcore.proofs.AskingLemmas.{stands_at_once}
use Rattle.sshcore.proofs.EndpointLemmas.{Joined, joined_ends}
use Rattle.sshcore.proofs.FeedLemmas.{none_refused, received_open}
use Rattle.sshcore.proofs.HistoryLemmas.{Streams, each}
use Rattle.sshcore.proofs.JoinedHistory.{before_last, read_after}
use Rattle.sshcore.proofs.ReadLemmas.{read_as}
use Rattle.sshcore.proofs.StreamLemmas.{sent_stays}

module _ {S : Type 0} (meaning : S → SuiteData) (d : DecisionsData) where
  -- it, as one that asks at once
  abbrev pub at_once : AskingData S → EndpointData S DecisionsData
  at_once e = record { role = e.role; config = e.config; suite = e.suite; decisions = d; input = e.input; state = e.state }

  same_at_once : (one other : AskingData S) → IsSameAsking one other → IsSameEndpoint (at_once one) (at_once other)
  same_at_once one other same = record { same_role = same.same_role; same_config = same.same_config; same_suite = same.same_suite; same_decisions = refl }

  -- endpoints that wait for nothing, and were given one input, used the same bytes of it, and sent and came to the same by them
  pub joined : Joined → (one other : AskingData S) → IsSameAsking one other → one.waiting ≡ None → other.waiting ≡ None → by_owner (asking_end one) ≡ false → by_owner (asking_end other) ≡ false
      → (h g s t x y : List ℕ) → AskingAfter meaning d one h s → AskingAfter meaning d other g t → h ++ x ≡ g ++ y → (asking_end one ≡ Open → x ≡ []) → (asking_end other ≡ Open → y ≡ [])
      → (h ≡ g) × (s ≡ t) × (asking_end one ≡ asking_end other)
  joined law one other same none other_none p q h g s t x y a b e f k =
      joined_ends meaning (λ (c : DecisionsData). c) law (at_once one) (at_once other) (same_at_once one other same) p q h g s t x y
      (stands_at_once meaning d one h s none a) (stands_at_once meaning d other g t other_none b) e f k

module _ {S D : Type 0} (meaning : S → SuiteData) (policy : D → DecisionsData) where
  -- an endpoint that asks at once, by what its decisions are
  abbrev decided_so : EndpointData S D → EndpointData S DecisionsData
  decided_so e = record { role = e.role; config = e.config; suite = e.suite; decisions = policy e.decisions; input = e.input; state = e.state }

  -- an asking endpoint that waits for nothing, and one that asks at once
  pub joined_beside : Joined → (one : AskingData S) (other : EndpointData S D) → IsBeside one other → one.waiting ≡ None → by_owner (asking_end one) ≡ false → by_owner (endpoint_end other) ≡ false
      → (h g s t x y : List ℕ) → AskingAfter meaning (policy other.decisions) one h s → EndpointAfter meaning policy other g t → h ++ x ≡ g ++ y → (asking_end one ≡ Open → x ≡ []) → (endpoint_end other ≡ Open → y ≡ [])
      → (h ≡ g) × (s ≡ t) × (asking_end one ≡ endpoint_end other)
  joined_beside law one other beside none p q h g s t x y a b e f k =
      joined_ends meaning (λ (c : DecisionsData). c) law (at_once meaning (policy other.decisions) one) (decided_so other)
      (record { same_role = beside.same_role; same_config = beside.same_config; same_suite = beside.same_suite; same_decisions = refl }) p q h g s t x y
      (stands_at_once meaning (policy other.decisions) one h s none a) b e f k

-- what came before the packet that waits is the front of what was received
unread_front : (m : SuiteData) (i j : Input) (earlier : List ℕ) (w : Option WaitingData) (h : List ℕ) → IsUnread m i earlier w j h → (taken : List ℕ) × (h ≡ earlier ++ taken)
unread_front m i j earlier None h u = ([], sym u.1 ∙ sym (append-nil earlier))
unread_front m i j earlier (Some w) h u = (u.0, u.1)

-- where nothing waits that is all
unread_all : (m : SuiteData) (i j : Input) (earlier : List ℕ) (w : Option WaitingData) (h : List ℕ) → w ≡ None → IsUnread m i earlier w j h → earlier ≡ h
unread_all m i j earlier None h none u = u.1
unread_all m i j earlier (Some w) h none u = absurd cc

module _ (streams : Streams) (setup : Setup) where
  -- what was sent to the front of an input is the front of what was sent to it
  sent_front : (units other_units : Units) (sizes other_sizes rest other_rest : List ℕ) (r other_r : Option Refusal) (answers other_answers : Units) (end other_end : EndData) (h z s t : List ℕ) → r ≡ None
      → History setup units sizes rest r answers end h s → History setup other_units other_sizes other_rest other_r other_answers other_end (h ++ z) t → IsPrefix s t
  sent_front units other_units sizes other_sizes rest other_rest r other_r answers other_answers end other_end h z s t none a b =
      record { rest = flat_places (spells setup.suite setup.role setup.config (units ++ front.rest)) (setup.config.version ∷ answers) added; whole_is = spelled }
    where
      front : IsPrefix units other_units
      front = streams.front (parsers setup.suite setup.role setup.config) (each streams setup.suite setup.role setup.config) h z units other_units sizes other_sizes rest other_rest r other_r a.received b.received

      added : Units
      added = flat_places (answers_at setup) units front.rest ++ (refusal_reply other_r).answers

      in_order : answers ≡ making setup.suite setup.role setup.config ++ flat_places (answers_at setup) [] units
      in_order = a.replies.in_order
          ∙ ap (λ (q : Option Refusal). making setup.suite setup.role setup.config ++ (flat_places (answers_at setup) [] units ++ (refusal_reply q).answers)) none
          ∙ ap (λ (l : Units). making setup.suite setup.role setup.config ++ l) (append-nil (flat_places (answers_at setup) [] units))

      more : other_answers ≡ answers ++ added
      more = b.replies.in_order
          ∙ ap (λ (us : Units). making setup.suite setup.role setup.config ++ (flat_places (answers_at setup) [] us ++ (refusal_reply other_r).answers)) front.whole_is
          ∙ ap (λ (l : Units). making setup.suite setup.role setup.config ++ (l ++ (refusal_reply other_r).answers)) (flat-append (answers_at setup) [] units front.rest)
          ∙ ap (λ (l : Units). making setup.suite setup.role setup.config ++ l) (append_assoc (flat_places (answers_at setup) [] units) (flat_places (answers_at setup) units front.rest) (refusal_reply other_r).answers)
          ∙ sym (append_assoc (making setup.suite setup.role setup.config) (flat_places (answers_at setup) [] units) added)
          ∙ ap (λ (l : Units). l ++ added) (sym in_order)

      stays : Sent (spells setup.suite setup.role setup.config (units ++ front.rest)) s (setup.config.version ∷ answers)
      stays = sent_stays setup.suite setup.role setup.config units front.rest answers s a.keyed a.sent

      spelled : t ≡ s ++ flat_places (spells setup.suite setup.role setup.config (units ++ front.rest)) (setup.config.version ∷ answers) added
      spelled = b.sent.spelled
          ∙ ap (λ (us : Units). flat_places (spells setup.suite setup.role setup.config us) [] (setup.config.version ∷ other_answers)) front.whole_is
          ∙ ap (λ (l : Units). flat_places (spells setup.suite setup.role setup.config (units ++ front.rest)) [] (setup.config.version ∷ l)) more
          ∙ flat-append (spells setup.suite setup.role setup.config (units ++ front.rest)) [] (setup.config.version ∷ answers) added
          ∙ ap (λ (l : List ℕ). l ++ flat_places (spells setup.suite setup.role setup.config (units ++ front.rest)) (setup.config.version ∷ answers) added) (sym stays.spelled)

  pub stands_front : (kept other_kept : StateData) (i other_i : Input) (w : Option WaitingData) (h more s t : List ℕ) → kept.end ≡ Open
      → AskingStands setup kept i w h s → EndpointStands setup other_kept other_i (h ++ more) t → IsPrefix s t
  stands_front kept other_kept i other_i w h more s t is a b =
      let u = unread_front setup.suite a.reader i a.earlier w h a.unread in
      let o = received_open a.stands.received_end kept.end a.stands.ends is in
      sent_front a.stands.units b.units a.stands.sizes b.sizes a.stands.rest b.rest a.stands.refusal b.refusal a.stands.answers b.answers a.stands.received_end b.received_end a.earlier (u.0 ++ more) s t
      (none_refused setup a.stands.units a.stands.refusal a.stands.received_end o a.stands.history.replies.ends) a.stands.history
      (subst (λ (l : List ℕ). History setup b.units b.sizes b.rest b.refusal b.answers b.received_end l t) (ap (λ (l : List ℕ). l ++ more) u.1 ∙ append_assoc a.earlier u.0 more) b.history)

-- of an endpoint that waits: what was received before the packet, and what the packet asks after that
pub record WaitsAfter (setup : Setup) (units : Units) (w : WaitingData) (h : List ℕ) : Type 0 where
  pub version : List ℕ
  pub before : Units
  pub units_are : units ≡ version ∷ before
  pub asks : question_after setup version before w.payload ≡ Some w.question
  pub sizes : List ℕ
  pub received : Received (parsers setup.suite setup.role setup.config) h (units ++ w.payload ∷ []) sizes [] None

module _ (streams : Streams) (setup : Setup) where
  pub waits_after : (kept : StateData) (j : Input) (w : WaitingData) (h s : List ℕ) → kept.end ≡ Open → question_at setup.suite setup.role setup.config kept w.payload ≡ Some w.question
      → (a : AskingStands setup kept j (Some w) h s) → WaitsAfter setup a.stands.units w h
  waits_after kept j w h s is asks a =
      record { version = at.0; before = at.1; units_are = at.2; asks = sym (asked.stands setup at.0 at.1 w.payload kept sits) ∙ asks; sizes = sizes; received = received }
    where
      taken : List ℕ
      taken = a.unread.0

      packet : ReadsPacket setup.suite a.reader j w taken
      packet = a.unread.2

      inside : IsInside setup a.stands.units a.stands.answers a.stands.sizes a.stands.rest kept a.reader
      inside = a.stands.inside (inl is)

      at : IsInput setup.suite setup.role setup.config a.stands.units a.stands.sizes a.stands.rest (input.Packets packet.before)
      at = subst (IsInput setup.suite setup.role setup.config a.stands.units a.stands.sizes a.stands.rest) packet.was inside.reads

      sits : Sits setup at.0 at.1 kept.phase kept.guess kept.known
      sits = subst (λ (us : Units). Sits setup (version_in us) (payloads_in us) kept.phase kept.guess kept.known) at.2 inside.sits

      seen : parsers setup.suite setup.role setup.config a.stands.units a.stands.sizes (a.stands.rest ++ taken) ≡ whole w.payload (length a.stands.rest + length taken)
      seen = read_as setup.suite setup.role setup.config a.stands.units at.0 at.1 a.stands.sizes a.stands.rest taken (packet_reader_data packet.before) at.2 at.3 ∙ packet.reads
          ∙ ap (λ (t : PacketReaderData). whole w.payload (length t.held + length taken)) at.3

      none : a.stands.refusal ≡ None
      none = none_refused setup a.stands.units a.stands.refusal a.stands.received_end (received_open a.stands.received_end kept.end a.stands.ends is) a.stands.history.replies.ends

      earlier : Received (parsers setup.suite setup.role setup.config) a.earlier a.stands.units a.stands.sizes a.stands.rest None
      earlier = subst (λ (r : Option Refusal). Received (parsers setup.suite setup.role setup.config) a.earlier a.stands.units a.stands.sizes a.stands.rest r) none a.stands.history.received

      sizes : List ℕ
      sizes = a.stands.sizes ++ (length a.stands.rest + length taken) ∷ []

      received : Received (parsers setup.suite setup.role setup.config) h (a.stands.units ++ w.payload ∷ []) sizes [] None
      received = subst (λ (l : List ℕ). Received (parsers setup.suite setup.role setup.config) l (a.stands.units ++ w.payload ∷ []) sizes [] None)
          (ap (λ (l : List ℕ). a.earlier ++ l) (take-length taken) ∙ sym a.unread.1)
          (streams.unit (parsers setup.suite setup.role setup.config) (each streams setup.suite setup.role setup.config) a.earlier taken a.stands.units a.stands.sizes a.stands.rest w.payload (length taken) earlier (omega arith) seen)

  -- what is asked after more was received comes later
  pub asks_later : Numbered → (units other_units : Units) (w other_w : WaitingData) (h more : List ℕ) → more ≢ [] → WaitsAfter setup units w h → WaitsAfter setup other_units other_w (h ++ more) → ComesLater w.question other_w.question
  asks_later numbers units other_units w other_w h more some a b = by front.rest front.whole_is
    where
      front : IsPrefix (units ++ w.payload ∷ []) (other_units ++ other_w.payload ∷ [])
      front = streams.front (parsers setup.suite setup.role setup.config) (each streams setup.suite setup.role setup.config) h more (units ++ w.payload ∷ []) (other_units ++ other_w.payload ∷ []) a.sizes b.sizes [] [] None None a.received b.received

      by : (rest : Units) → other_units ++ other_w.payload ∷ [] ≡ (units ++ w.payload ∷ []) ++ rest → ComesLater w.question other_w.question
      by [] e = absurd (some (read_after (parsers setup.suite setup.role setup.config) [] [] (h ++ more) (units ++ w.payload ∷ []) [] a.sizes b.sizes more []
          (streams.more (parsers setup.suite setup.role setup.config) (each streams setup.suite setup.role setup.config) [] [] h more (units ++ w.payload ∷ []) a.sizes [] a.received.read)
          (subst (λ (us : Units). Received (parsers setup.suite setup.role setup.config) (h ++ more) us b.sizes [] None) e b.received).read).2.1)
      by (u ∷ us) e =
          let p : IsPrefix (units ++ w.payload ∷ []) other_units = before_last other_units units other_w.payload w.payload u us (e ∙ append_assoc units (w.payload ∷ []) (u ∷ us)) in
          let versions : b.version ∷ b.before ≡ a.version ∷ ((a.before ++ w.payload ∷ []) ++ p.rest) =
          sym b.units_are ∙ p.whole_is ∙ ap (λ (l : Units). (l ++ w.payload ∷ []) ++ p.rest) a.units_are in
          let payloads : b.before ≡ (a.before ++ w.payload ∷ []) ++ p.rest = cc in
          asked.later numbers setup a.version b.version a.before p.rest w.payload other_w.payload w.question other_w.question a.asks
          (ap (λ (l : Units). question_after setup b.version l other_w.payload) (sym payloads) ∙ b.asks)

  pub waits_by : (kept : StateData) (j : Input) (v : Option WaitingData) (w : WaitingData) (h s : List ℕ) → v ≡ Some w → kept.end ≡ Open → question_at setup.suite setup.role setup.config kept w.payload ≡ Some w.question
      → (a : AskingStands setup kept j v h s) → WaitsAfter setup a.stands.units w h
  waits_by kept j None w h s e is asks a = absurd cc
  waits_by kept j (Some v) w h s e is asks a =
      let same : v ≡ w = cc in
      subst (λ (x : WaitingData). WaitsAfter setup a.stands.units x h) same
      (waits_after kept j v h s is (subst (λ (x : WaitingData). question_at setup.suite setup.role setup.config kept x.payload ≡ Some x.question) (sym same) asks) a)

-- it asks what its packet asks
pub asked_so : (end : EndData) (v : Option WaitingData) (q : QuestionData) → asked_at end v ≡ Some q → (end ≡ Open) × (w : WaitingData) × (v ≡ Some w) × (w.question ≡ q)
asked_so Open None q e = absurd cc
asked_so Open (Some w) q e = (refl, w, refl, cc)
asked_so (Authenticated a) v q e = absurd cc
asked_so (Failed f) v q e = absurd cc
asked_so (Closed reason) v q e = absurd cc
asked_so (Disconnected reason) v q e = absurd cc

module _ {S : Type 0} (meaning : S → SuiteData) where
  -- endpoints of one role, config and suite have one setup
  pub setup_same : (d : DecisionsData) (role other_role : Side) (config other_config : ConfigData) (suite other_suite : S) → other_role ≡ role → other_config ≡ config → other_suite ≡ suite
      → setup_with (meaning other_suite) d other_role other_config ≡ setup_with (meaning suite) d role config
  setup_same d role other_role config other_config suite other_suite a b e =
      ap (λ (x : S). setup_with (meaning x) d other_role other_config) e ∙ ap (λ (x : Side). setup_with (meaning suite) d x other_config) a ∙ ap (λ (x : ConfigData). setup_with (meaning suite) d role x) b

  module _ (d : DecisionsData) (streams : Streams) (one : AskingData S) where
    pub waits_here : AsksByPacket meaning one → (h s : List ℕ) (a : AskingAfter meaning d one h s) (w : WaitingData) → one.waiting ≡ Some w → asking_end one ≡ Open → WaitsAfter (asking_setup meaning d one) a.stands.units w h
    waits_here asks h s a w waits is = waits_by streams (asking_setup meaning d one) (state_data one.state) one.input one.waiting w h s waits is (asks w waits is) a

    module _ (other : AskingData S) (same : IsSameAsking one other) where
      one_setup : asking_setup meaning d other ≡ asking_setup meaning d one
      one_setup = setup_same d one.role other.role one.config other.config one.suite other.suite same.same_role same.same_config same.same_suite

      -- the same by what was received before an owner's end
      pub received_of : Joined → one.waiting ≡ None → other.waiting ≡ None → (h g s t x y : List ℕ) (a : AskingAfter meaning d one h s) (b : AskingAfter meaning d other g t)
          → h ++ x ≡ g ++ y → (a.stands.received_end ≡ Open → x ≡ []) → (b.stands.received_end ≡ Open → y ≡ [])
          → (h ≡ g) × (s ≡ t) × (a.stands.received_end ≡ b.stands.received_end)
      received_of law none other_none h g s t x y a b e f k =
          let here : a.earlier ≡ h = unread_all (meaning one.suite) a.reader one.input a.earlier one.waiting h none a.unread in
          let there : b.earlier ≡ g = unread_all (meaning other.suite) b.reader other.input b.earlier other.waiting g other_none b.unread in
          let j = law (asking_setup meaning d one) a.stands.units b.stands.units a.stands.sizes b.stands.sizes a.stands.rest b.stands.rest a.stands.refusal b.stands.refusal a.stands.answers b.stands.answers
          a.stands.received_end b.stands.received_end a.earlier b.earlier s t x y a.stands.history
          (subst (λ (z : Setup). History z b.stands.units b.stands.sizes b.stands.rest b.stands.refusal b.stands.answers b.stands.received_end b.earlier t) one_setup b.stands.history)
          (ap (λ (l : List ℕ). l ++ x) here ∙ e ∙ sym (ap (λ (l : List ℕ). l ++ y) there)) f k in
          (sym here ∙ j.0 ∙ there, j.1.same_sent, j.1.same_end)

      pub front_of : (h more s t : List ℕ) → asking_end one ≡ Open → other.waiting ≡ None → AskingAfter meaning d one h s → AskingAfter meaning d other (h ++ more) t → IsPrefix s t
      front_of h more s t is none a b =
          stands_front streams (asking_setup meaning d one) (state_data one.state) (state_data other.state) one.input other.input one.waiting h more s t is a
          (subst (λ (x : Setup). EndpointStands x (state_data other.state) other.input (h ++ more) t) one_setup (stands_at_once meaning d other (h ++ more) t none b))

      pub later_of : Numbered → AsksByPacket meaning one → AsksByPacket meaning other → (h more s t : List ℕ) → AskingAfter meaning d one h s → AskingAfter meaning d other (h ++ more) t → more ≢ []
          → (q r : QuestionData) → asked_by one ≡ Some q → asked_by other ≡ Some r → ComesLater q r
      later_of numbers asks other_asks h more s t a b some q r e f =
          let x = asked_so (asking_end one) one.waiting q e in
          let y = asked_so (asking_end other) other.waiting r f in
          let here : WaitsAfter (asking_setup meaning d one) a.stands.units x.1 h = waits_here asks h s a x.1 x.2 x.0 in
          let there : WaitsAfter (asking_setup meaning d other) b.stands.units y.1 (h ++ more) =
          waits_by streams (asking_setup meaning d other) (state_data other.state) other.input other.waiting y.1 (h ++ more) t y.2 y.0 (other_asks y.1 y.2 y.0) b in
          subst (λ (z : QuestionData). ComesLater z r) x.3 (subst (λ (z : QuestionData). ComesLater x.1.question z) y.3
          (asks_later streams (asking_setup meaning d one) numbers a.stands.units b.stands.units x.1 y.1 h more some here
          (subst (λ (z : Setup). WaitsAfter z b.stands.units y.1 (h ++ more)) one_setup there)))

-- beside one that asks at once
module _ {S D : Type 0} (meaning : S → SuiteData) (policy : D → DecisionsData) (streams : Streams) (one : AskingData S) (other : EndpointData S D) (beside : IsBeside one other) where
  pub front_beside : (h more s t : List ℕ) → asking_end one ≡ Open → AskingAfter meaning (policy other.decisions) one h s → EndpointAfter meaning policy other (h ++ more) t → IsPrefix s t
  front_beside h more s t is a b =
      stands_front streams (asking_setup meaning (policy other.decisions) one) (state_data one.state) (state_data other.state) one.input other.input one.waiting h more s t is a
      (subst (λ (x : Setup). EndpointStands x (state_data other.state) other.input (h ++ more) t)
      (setup_same meaning (policy other.decisions) one.role other.role one.config other.config one.suite other.suite beside.same_role beside.same_config beside.same_suite) b)
