-- Calls of an asking endpoint, one after another.

use Rattle.std.proofs.Common.{◌≡◌, inl, inr, ℕ, ◌+◌, ◌-◌, ◌≤◌, Bool, false, List, [], ◌∷◌, ◌++◌, length, take, drop, Option, None, Some, refl, sym, ap, subst, ◌∙◌, append_assoc, arith}
use Rattle.std.specs.Prelude.{◌%◌, ◌^◌, is_some, true}
use Rattle.std.proofs.lemmas.Bool.{true≢false}
use Rattle.std.proofs.lemmas.List.{append-nil, length-drop, length-take-le}
use Rattle.std.proofs.Math.Seq.{take-add, take-append-add, take-length}
use Rattle.sshneg.specs.declared.side.Side.{Side}
use Rattle.sshpacket.specs.declared.reader.PacketReader.{PacketReader}
use Rattle.sshpacket.specs.KeysData.{KeysData}
use Rattle.sshpacket.specs.PacketReaderData.{PacketReaderData, ahead, packet_reader_data, protection_at}
use Rattle.sshpacket.specs.Parse.{parse_packet, whole}
use Rattle.sshpacket.specs.Stream.{IsIncremental}
use Rattle.sshpacket.specs.Suite.{SuiteData, next_keys}
use Rattle.sshcore.specs.declared.input.Input.{Input}
use Rattle.sshcore.specs.declared.input.Input.TheVariants as input
use Rattle.sshcore.specs.declared.state.State.{State}
use Rattle.sshcore.specs.Asking.{Answered, AskingAfter, AskingBreaks, AskingFed, AskingLeaves, BrokenBefore, IsSameAsking, asked_at, asking_end}
use Rattle.sshcore.specs.AskingData.{AskingData, WaitingData, asking_setup}
use Rattle.sshcore.specs.Brings.{Brings, Gives}
use Rattle.sshcore.specs.EndData.{AgreedData, Authenticated, Closed, Disconnected, EndData, Failed, Open, by_owner, disconnects, end_data, parting}
use Rattle.sshcore.specs.EndpointParts.{ConfigData, DecisionsData, Setup, setup_with}
use Rattle.sshcore.specs.Exchanged.{HasForm}
use Rattle.sshcore.specs.History.{BrokenOff}
use Rattle.sshcore.specs.Inputs.{EndpointStands, Steps, turns_left}
use Rattle.sshcore.specs.Output.{sent_from}
use Rattle.sshcore.specs.QuestionAt.{question_at}
use Rattle.sshcore.specs.Questions.{AnswerData, HostKeyQuestion, QuestionData, SignatureQuestion, UserQuestion, decided, decided_by, found_in, is_yes, taken, taken_by}
use Rattle.sshcore.specs.StateData.{StateData, keys_due, state_data}
use Rattle.sshcore.specs.Unread.{AnswerSteps, AskingStands, AskingSteps, IsAskingEndpoint, IsTurned, IsUnread, ReadsPacket, Turns, reads_with}
use Rattle.sshcore.proofs.LawsBelow.{Below}
use Rattle.sshcore.proofs.FeedLemmas.{SentMore, sent_last, stands_left}
use Rattle.sshcore.proofs.HistoryLemmas.{Streams, broken}
use Rattle.sshcore.proofs.ReadLemmas.{packets_unit, reader_with}

-- what the reader answered is what the packet's own bytes read as
module _ (m : SuiteData) (r p : PacketReader) (inc : IsIncremental (parse_packet (protection_at m (packet_reader_data r)))) where
  pub reads_packet : (piece : List ℕ) (used : ℕ) (w : WaitingData) → used ≤ length piece → ahead m (packet_reader_data r) piece ≡ whole w.payload (length (packet_reader_data r).held + used)
      → packet_reader_data p ≡ record (packet_reader_data r) { keys = next_keys m (packet_reader_data r).keys (length (packet_reader_data r).held + used); held = []; seq = ((packet_reader_data r).seq + 1) % 2 ^ 32 }
      → ReadsPacket m (input.Packets r) (input.Packets p) w (take used piece)
  reads_packet piece used w low e left = record {
    before = r;
    after = p;
    was = refl;
    is = refl;
    reads = sym (ap (parse_packet (protection_at m (packet_reader_data r))) (take-append-add (packet_reader_data r).held piece used))
        ∙ inc.whole_again ((packet_reader_data r).held ++ piece) w.payload (length (packet_reader_data r).held + used) e
        ∙ ap (λ (n : ℕ). whole w.payload (length (packet_reader_data r).held + n)) (sym (length-take-le used piece low));
    left = left
        ∙ ap (λ (n : ℕ). record (packet_reader_data r) { keys = next_keys m (packet_reader_data r).keys (length (packet_reader_data r).held + n); held = []; seq = ((packet_reader_data r).seq + 1) % 2 ^ 32 })
        (sym (length-take-le used piece low));
  }

-- An endpoint where no packet waits stands as one that asks at once.
module _ (setup : Setup) (kept : StateData) (i : Input) (h s : List ℕ) where
  pub at_once : AskingStands setup kept i None h s → EndpointStands setup kept i h s
  at_once a = subst (λ (x : Input). EndpointStands setup kept x h s) a.unread.0 (subst (λ (l : List ℕ). EndpointStands setup kept a.reader l s) a.unread.1 a.stands)

  pub at_once_by : (w : Option WaitingData) → w ≡ None → AskingStands setup kept i w h s → EndpointStands setup kept i h s
  at_once_by w e a = at_once (subst (λ (x : Option WaitingData). AskingStands setup kept i x h s) e a)

  pub asks_none : EndpointStands setup kept i h s → AskingStands setup kept i None h s
  asks_none a = record { earlier = h; reader = i; stands = a; unread = (refl, refl) }

  broken_at : (w : Option WaitingData) → AskingStands setup kept i w h s → BrokenBefore setup w h s
  broken_at None a = record {
    earlier = a.earlier;
    unread = [];
    received = sym a.unread.1 ∙ sym (append-nil a.earlier);
    all = λ e. refl;
    broken = broken setup a.stands.units a.stands.sizes a.stands.rest a.stands.refusal a.stands.answers a.stands.received_end a.earlier s a.stands.history;
  }
  broken_at (Some w) a = record {
    earlier = a.earlier;
    unread = a.unread.0;
    received = a.unread.1;
    all = λ e. absurd cc;
    broken = broken setup a.stands.units a.stands.sizes a.stands.rest a.stands.refusal a.stands.answers a.stands.received_end a.earlier s a.stands.history;
  }

-- the answer that decisions give is of the question's kind
pub decided_kind : (d : DecisionsData) (q : QuestionData) → taken q (decided d q) ≡ decided d q
decided_kind d (HostKeyQuestion algorithm blob) = refl
decided_kind d (UserQuestion number user service proof signed) = refl
decided_kind d (SignatureQuestion number algorithm blob input) = refl

-- decisions that answer a question so
abbrev pub answered_with : QuestionData → AnswerData → DecisionsData
answered_with q answer = record { host_key = λ algorithm blob. is_yes answer; user = λ number user service proof. is_yes answer; signature = λ number algorithm blob input. found_in answer }

pub answered_so : (q : QuestionData) (answer : AnswerData) → decided (answered_with q (taken q answer)) q ≡ taken q answer
answered_so (HostKeyQuestion algorithm blob) answer = refl
answered_so (UserQuestion number user service proof signed) answer = refl
answered_so (SignatureQuestion number algorithm blob input) answer = refl

-- decisions that say no to all, by which is told what depends on none
pub no_decisions : DecisionsData
no_decisions = record { host_key = λ algorithm blob. false; user = λ number user service proof. false; signature = λ number algorithm blob input. None }

reads_as : (k : Option KeysData) (strict : Bool) (r : PacketReaderData) → reads_with k strict r ≡ reader_with k strict r
reads_as None strict r = refl
reads_as (Some keys) strict r = refl

-- A packet was answered, by these decisions.
module _ (below : Below) (streams : Streams) (m : SuiteData) (role : Side) (config : ConfigData) (old new last : StateData) (before after : List ℕ) (is : old.end ≡ Open) where
  pub unit_steps : (r p q : PacketReader) (piece payload : List ℕ) (used packet : ℕ) → used ≤ length piece
      → ahead m (packet_reader_data r) piece ≡ whole payload (length (packet_reader_data r).held + used) → packet ≡ (packet_reader_data r).seq
      → packet_reader_data p ≡ record (packet_reader_data r) { keys = next_keys m (packet_reader_data r).keys (length (packet_reader_data r).held + used); held = []; seq = ((packet_reader_data r).seq + 1) % 2 ^ 32 }
      → (d : DecisionsData) → (HasForm m old → Brings (setup_with m d role config) old new packet payload before after) → Turns new last p q
      → Steps (setup_with m d role config) (input.Packets r) old (input.Packets q) last (take used piece) before after
  unit_steps r p q piece payload used packet low reads number left d brings turns =
      packets_unit below streams (setup_with m d role config) r q old piece before after is p new last used packet payload low reads number left
      brings
      (ap (λ (k : StateData). k.end) turns.left) (ap (λ (k : StateData). k.phase) turns.left) (ap (λ (k : StateData). k.guess) turns.left) (ap (λ (k : StateData). k.known) turns.left)
      (ap (λ (k : StateData). k.sending) turns.left) (ap (λ (k : StateData). k.carried) turns.left)
      (turns.reads ∙ reads_as (keys_due new.phase new.carried.pending) new.known.strict (packet_reader_data p))

-- A packet that waited is answered so.
module _ (below : Below) (streams : Streams) (m : SuiteData) (role : Side) (config : ConfigData) (answer : AnswerData) (w : WaitingData) (old new last : StateData) (before after : List ℕ) (is : old.end ≡ Open)
    (brings : (d : DecisionsData) (packet : ℕ) → decided d w.question ≡ answer → HasForm m old → Brings (setup_with m d role config) old new packet w.payload before after) where
  answer_packets : (p q : PacketReader) → Turns new last p q → AnswerSteps m role config answer w (input.Packets p) old (input.Packets q) last before after
  answer_packets p q turns d agrees i taken r =
      let same : p ≡ r.after = cc in
      subst (λ (x : Input). Steps (setup_with m d role config) x old (input.Packets q) last taken before after) (sym r.was)
      (subst (λ (l : List ℕ). Steps (setup_with m d role config) (input.Packets r.before) old (input.Packets q) last l before after) (take-length taken)
      (unit_steps below streams m role config old new last before after is r.before p q taken w.payload (length taken) (packet_reader_data r.before).seq (omega arith) r.reads refl
      (ap (λ (x : PacketReader). packet_reader_data x) same ∙ r.left) d (brings d (packet_reader_data r.before).seq agrees) turns))

  pub answer_steps : (j k : Input) → IsTurned new last j k → AnswerSteps m role config answer w j old k last before after
  answer_steps (input.Packets p) (input.Packets q) turned = answer_packets p q turned
  answer_steps (input.Packets p) (input.Lines q) turned = absurd turned
  answer_steps (input.Lines p) k turned = absurd turned

-- and what follows is packets
module _ (new last : StateData) where
  pub answered_turns : (j k : Input) (e : EndData) → IsTurned new last j k → turns_left e k ≤ turns_left Open j
  answered_turns (input.Packets p) (input.Packets q) e turned = few e
    where
      few : (e : EndData) → turns_left e (input.Packets q) ≤ 1
      few Open = omega arith
      few (Authenticated a) = omega arith
      few (Failed f) = omega arith
      few (Closed reason) = omega arith
      few (Disconnected reason) = omega arith
  answered_turns (input.Packets p) (input.Lines q) e turned = absurd turned
  answered_turns (input.Lines p) k e turned = absurd turned

-- what an open endpoint asks is what the packet asks that waits
pub asks_packet : (m : SuiteData) (role : Side) (config : ConfigData) (kept : StateData) (j : Input) (w : Option WaitingData) → IsAskingEndpoint m role config kept j w
    → (x : WaitingData) → w ≡ Some x → kept.end ≡ Open → question_at m role config kept x.payload ≡ Some x.question
asks_packet m role config kept j None is x e o = absurd cc
asks_packet m role config kept j (Some w) is x e o =
    let same : w ≡ x = cc in
    subst (λ (y : WaitingData). question_at m role config kept y.payload ≡ Some y.question) same (is.asked (inl o)).asks

-- who asks is open
pub asks_open : (e : EndData) (w : Option WaitingData) → is_some (asked_at e w) ≡ true → e ≡ Open
asks_open Open w some = refl
asks_open (Authenticated a) w some = absurd cc
asks_open (Failed f) w some = absurd cc
asks_open (Closed reason) w some = absurd cc
asks_open (Disconnected reason) w some = absurd cc

-- an endpoint that ended authenticated waits for nothing
pub asks_nothing : (m : SuiteData) (role : Side) (config : ConfigData) (kept : StateData) (j : Input) (w : Option WaitingData) → IsAskingEndpoint m role config kept j w
    → (a : AgreedData) → kept.end ≡ Authenticated a → w ≡ None
asks_nothing m role config kept j None is a e = refl
asks_nothing m role config kept j (Some w) is a e =
    let o : kept.end ≡ Open = (is.asked (inr (a, e))).is_open in
    absurd cc

pub unread_none : (m : SuiteData) (i j : Input) (earlier h : List ℕ) (w : Option WaitingData) → w ≡ None → IsUnread m i earlier w j h → (i ≡ j) × (earlier ≡ h)
unread_none m i j earlier h w none unread = subst (λ (x : Option WaitingData). IsUnread m i earlier x j h) none unread

module _ {S : Type 0} where
  pub same_none : (e : AskingData S) → IsSameAsking e e
  same_none e = record { same_role = refl; same_config = refl; same_suite = refl }

  pub same_then : (old mid new : AskingData S) → IsSameAsking old mid → IsSameAsking mid new → IsSameAsking old new
  same_then old mid new a b = record {
    same_role = b.same_role ∙ a.same_role;
    same_config = b.same_config ∙ a.same_config;
    same_suite = b.same_suite ∙ a.same_suite;
  }

module _ {S : Type 0} (meaning : S → SuiteData) where
  -- the same of an endpoint
  pub stands_at_once : (d : DecisionsData) (e : AskingData S) (h s : List ℕ) → e.waiting ≡ None → AskingAfter meaning d e h s → EndpointStands (asking_setup meaning d e) (state_data e.state) e.input h s
  stands_at_once d e h s none a = at_once_by (asking_setup meaning d e) (state_data e.state) e.input h s e.waiting none a

  pub fed_none : (e : AskingData S) (out : List ℕ) → AskingFed meaning e e [] out out
  fed_none e out = record {
    added = [];
    appended = sym (append-nil out);
    follows = λ d h s a. subst (λ (x : List ℕ). AskingAfter meaning d e x (s ++ [])) (sym (append-nil h)) (subst (λ (x : List ℕ). AskingAfter meaning d e h x) (sym (append-nil s)) a);
    uncut = λ d h s a owned. refl;
    same = same_none e;
  }

  pub fed_then : (old mid new : AskingData S) (t u o0 o1 o2 : List ℕ) → AskingFed meaning old mid t o0 o1 → AskingFed meaning mid new u o1 o2 → AskingFed meaning old new (t ++ u) o0 o2
  fed_then old mid new t u o0 o1 o2 f g = record {
    added = f.added ++ g.added;
    appended = g.appended ∙ ap (λ (x : List ℕ). x ++ g.added) f.appended ∙ append_assoc o0 f.added g.added;
    follows = λ d h s a. subst (λ (x : List ℕ). AskingAfter meaning d new x (s ++ (f.added ++ g.added))) (append_assoc h t u)
        (subst (λ (x : List ℕ). AskingAfter meaning d new ((h ++ t) ++ u) x) (append_assoc s f.added g.added) (g.follows d (h ++ t) (s ++ f.added) (f.follows d h s a)));
    uncut = λ d h s a owned.
        let stays : asking_end mid ≡ asking_end new = g.uncut d (h ++ t) (s ++ f.added) (f.follows d h s a) owned in
        f.uncut d h s a (ap by_owner stays ∙ owned) ∙ stays;
    same = same_then old mid new f.same g.same;
  }

  pub fed_as : (old new : AskingData S) (t u o0 o1 : List ℕ) → t ≡ u → AskingFed meaning old new t o0 o1 → AskingFed meaning old new u o0 o1
  fed_as old new t u o0 o1 e f = subst (λ (x : List ℕ). AskingFed meaning old new x o0 o1) e f

  -- memory runs out before anything is sent
  breaks_none : (e new : AskingData S) (piece out : List ℕ) → IsSameAsking e new → AskingBreaks meaning e new piece out out
  breaks_none e new piece out same = record {
    used = 0;
    within = omega arith;
    added = [];
    appended = sym (append-nil out);
    follows = λ d h s a. subst (λ (x : List ℕ). BrokenBefore (asking_setup meaning d e) e.waiting x (s ++ [])) (sym (append-nil h))
        (subst (λ (x : List ℕ). BrokenBefore (asking_setup meaning d e) e.waiting h x) (sym (append-nil s))
        (broken_at (asking_setup meaning d e) (state_data e.state) e.input h s e.waiting a));
    same = same;
  }

  pub breaks_same : (e new : AskingData S) (piece before after : List ℕ) → IsSameAsking e new → after ≡ before → AskingBreaks meaning e new piece before after
  breaks_same e new piece before after same is = subst (λ (l : List ℕ). AskingBreaks meaning e new piece before l) (sym is) (breaks_none e new piece before same)

  broken_as : (m n : SuiteData) (d : DecisionsData) (r q : Side) (p o : ConfigData) (h s t : List ℕ) → m ≡ n → r ≡ q → p ≡ o → s ≡ t → BrokenOff (setup_with m d r p) h s → BrokenOff (setup_with n d q o) h t
  broken_as m n d r q p o h s t em er ep es x =
      subst (λ (m : SuiteData). BrokenOff (setup_with m d q o) h t) em (subst (λ (r : Side). BrokenOff (setup_with m d r o) h t) er
      (subst (λ (p : ConfigData). BrokenOff (setup_with m d r p) h t) ep (subst (λ (s : List ℕ). BrokenOff (setup_with m d r p) h s) es x)))

  -- memory runs out after what went well
  pub breaks_then : (old mid new : AskingData S) (piece : List ℕ) (n : ℕ) (o0 o1 o2 : List ℕ) → n ≤ length piece → mid.waiting ≡ None → AskingFed meaning old mid (take n piece) o0 o1
      → AskingBreaks meaning mid new (drop n piece) o1 o2 → AskingBreaks meaning old new piece o0 o2
  breaks_then old mid new piece n o0 o1 o2 low none f b =
      let left : b.used ≤ length (drop n piece) = b.within in
      let size : length (drop n piece) ≡ length piece - n = length-drop n piece in
      record {
        used = n + b.used;
        within = omega arith;
        added = f.added ++ b.added;
        appended = b.appended ∙ ap (λ (x : List ℕ). x ++ b.added) f.appended ∙ append_assoc o0 f.added b.added;
        follows = λ d h s a.
            let x = b.follows d (h ++ take n piece) (s ++ f.added) (f.follows d h s a) in
            record {
              earlier = x.earlier;
              unread = [];
              received = ap (λ (l : List ℕ). h ++ l) (take-add n b.used piece) ∙ sym (append_assoc h (take n piece) (take b.used (drop n piece))) ∙ x.received
                  ∙ ap (λ (l : List ℕ). x.earlier ++ l) (x.all none);
              all = λ e. refl;
              broken = broken_as (meaning mid.suite) (meaning old.suite) d mid.role old.role mid.config old.config x.earlier ((s ++ f.added) ++ b.added) (s ++ (f.added ++ b.added))
                  (ap meaning f.same.same_suite) f.same.same_role f.same.same_config (append_assoc s f.added b.added) x.broken;
            };
        same = same_then old mid new f.same b.same;
      }

  module _ (role : Side) (config : ConfigData) (suite : S) where
    abbrev asking : Input → State → Option WaitingData → AskingData S
    asking i x w = record { role = role; config = config; suite = suite; input = i; state = x; waiting = w }

    -- a step of what an endpoint keeps is a call that used these bytes
    fed_by : (i j : Input) (x y : State) (w : Option WaitingData) (taken before after : List ℕ)
        → (added : List ℕ) × (after ≡ before ++ added) × AskingSteps (meaning suite) role config i (state_data x) j (state_data y) w taken [] added
        → AskingFed meaning (asking i x None) (asking j y w) taken before after
    fed_by i j x y None taken before after step = record {
      added = step.0;
      appended = step.1;
      follows = λ d h s a.
          let setup = setup_with (meaning suite) d role config in
          let g = step.2 d h s (at_once setup (state_data x) i h s a) in
          asks_none setup (state_data y) j (h ++ taken) (s ++ step.0) (subst (λ (l : List ℕ). EndpointStands setup (state_data y) j (h ++ taken) (s ++ l)) (sym g.appended) g.stands);
      uncut = λ d h s a owned. absurd (true≢false (sym owned ∙ (step.2 d h s (at_once (setup_with (meaning suite) d role config) (state_data x) i h s a)).uncut));
      same = record { same_role = refl; same_config = refl; same_suite = refl };
    }
    fed_by i j x y (Some w) taken before after step = record {
      added = step.0;
      appended = step.1;
      follows = λ d h s a.
          let setup = setup_with (meaning suite) d role config in
          record {
            earlier = h;
            reader = i;
            stands = subst (λ (k : StateData). EndpointStands setup k i h (s ++ step.0)) (sym step.2.same)
                (subst (λ (l : List ℕ). EndpointStands setup (state_data x) i h (s ++ l)) (sym step.2.nothing_sent)
                (subst (λ (l : List ℕ). EndpointStands setup (state_data x) i h l) (sym (append-nil s)) (at_once setup (state_data x) i h s a)));
            unread = (taken, refl, step.2.reads);
          };
      uncut = λ d h s a owned. ap (λ (k : StateData). k.end) (sym step.2.same);
      same = record { same_role = refl; same_config = refl; same_suite = refl };
    }

    pub fed_from : (i j : Input) (x y : State) (w v : Option WaitingData) (taken before after : List ℕ) → w ≡ None
        → (added : List ℕ) × (after ≡ before ++ added) × AskingSteps (meaning suite) role config i (state_data x) j (state_data y) v taken [] added
        → AskingFed meaning (asking i x w) (asking j y v) taken before after
    fed_from i j x y w v taken before after none step =
        subst (λ (u : Option WaitingData). AskingFed meaning (asking i x u) (asking j y v) taken before after) (sym none) (fed_by i j x y v taken before after step)

    asked_open : (e : EndData) (w : WaitingData) → e ≡ Open → asked_at e (Some w) ≡ Some w.question
    asked_open e w is = ap (λ (x : EndData). asked_at x (Some w)) is

    -- a packet that waited is answered by a step that used its bytes
    answered_by : (answer : AnswerData) (w : WaitingData) (i j : Input) (x y : State) (before after : List ℕ) → end_data x.end ≡ Open
        → (added : List ℕ) × (after ≡ before ++ added) × AnswerSteps (meaning suite) role config answer w i (state_data x) j (state_data y) [] added
        → Answered meaning answer (asking i x (Some w)) (asking j y None) before after
    answered_by answer w i j x y before after is step = record {
      added = step.0;
      appended = step.1;
      follows = λ d agrees h s a.
          let setup = setup_with (meaning suite) d role config in
          let g = step.2 d (sym (ap (decided_by d) (asked_open (end_data x.end) w is)) ∙ agrees) a.reader a.unread.0 a.unread.2 a.earlier s a.stands in
          asks_none setup (state_data y) j h (s ++ step.0)
          (subst (λ (k : List ℕ). EndpointStands setup (state_data y) j k (s ++ step.0)) (sym a.unread.1)
          (subst (λ (l : List ℕ). EndpointStands setup (state_data y) j (a.earlier ++ a.unread.0) (s ++ l)) (sym g.appended) g.stands));
      uncut = λ d agrees h s a. (step.2 d (sym (ap (decided_by d) (asked_open (end_data x.end) w is)) ∙ agrees) a.reader a.unread.0 a.unread.2 a.earlier s a.stands).uncut;
      waits_for_none = refl;
      same = record { same_role = refl; same_config = refl; same_suite = refl };
    }

    pub answered_from : (answer : AnswerData) (w : WaitingData) (u v : Option WaitingData) (i j : Input) (x y : State) (before after : List ℕ) → u ≡ Some w → v ≡ None → end_data x.end ≡ Open
        → (added : List ℕ) × (after ≡ before ++ added) × AnswerSteps (meaning suite) role config (taken w.question answer) w i (state_data x) j (state_data y) [] added
        → Answered meaning (taken_by (asked_at (end_data x.end) u) answer) (asking i x u) (asking j y v) before after
    answered_from answer w u v i j x y before after some none is step =
        subst (λ (a : Option WaitingData). Answered meaning (taken_by (asked_at (end_data x.end) a) answer) (asking i x a) (asking j y v) before after) (sym some)
        (subst (λ (b : Option WaitingData). Answered meaning (taken_by (asked_at (end_data x.end) (Some w)) answer) (asking i x (Some w)) (asking j y b) before after) (sym none)
        (subst (λ (q : Option QuestionData). Answered meaning (taken_by q answer) (asking i x (Some w)) (asking j y None) before after) (sym (asked_open (end_data x.end) w is))
        (answered_by (taken w.question answer) w i j x y before after is step)))

    -- what was sent for its owner, at an endpoint that stood open, is a call that ended it
    pub leaves_by : SentMore → (i : Input) (x y : State) (w : Option WaitingData) (reason : ℕ) (description before after : List ℕ) (strict : Bool) (next : KeysData)
        → end_data x.end ≡ Open → Gives (meaning suite) config.seed strict next (state_data x) (state_data y) before after (disconnects reason description)
        → AskingLeaves meaning (asking i x w) (asking i y w) reason description before after
    leaves_by more i x y w reason description before after strict next is gives = record {
      left = gives.ends;
      added = sent_from (meaning suite) config.seed strict next (state_data x).sending (parting reason description ∷ []);
      appended = gives.output;
      follows = λ d h s a. record {
        earlier = a.earlier;
        reader = a.reader;
        stands = stands_left (setup_with (meaning suite) d role config) (state_data x) a.reader a.earlier s is a.stands (state_data y) reason gives.ends;
        unread = a.unread;
      };
      sent = λ d h s a. sent_last (setup_with (meaning suite) d role config) (state_data x) a.reader a.earlier s is a.stands more reason description strict next;
      same = record { same_role = refl; same_config = refl; same_suite = refl };
    }
