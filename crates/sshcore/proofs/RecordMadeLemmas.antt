-- What is made of the record of an endpoint is the same endpoint.

use Rattle.std.proofs.Common.{◌≡◌, ◌∙◌, ◌-◌, ℕ, List, [], Bool, Option, None, Some, ap, drop, inl, length, option_map, refl, subst, sym}
use Rattle.sshneg.specs.declared.side.Side.{Side}
use Rattle.sshpacket.specs.Suite.{SuiteData}
use Rattle.sshcore.specs.declared.record_parts.RecordParts.{RecordParts}
use Rattle.sshcore.specs.declared.state.State.{State}
use Rattle.sshwire.specs.LineReaderData.{Progress, Waits, others_left, unfinished}
use Rattle.sshwire.specs.declared.line_form.LineForm.{LineForm}
use Rattle.sshpacket.specs.PacketReaderData.{PacketReaderData, packet_reader_data}
use Rattle.sshpacket.specs.Parse.{protection}
use Rattle.sshpacket.specs.ReaderSteps.{needed}
use Rattle.sshpacket.specs.declared.fault.PacketFault.{PacketFault}
use Rattle.sshcore.specs.declared.input.Input.{Input}
use Rattle.sshcore.specs.declared.input.Input.TheVariants as input
use Rattle.sshcore.specs.AskingData.{WaitingData}
use Rattle.sshcore.specs.Brings.{IsOngoing}
use Rattle.sshcore.specs.ConfigParts.{AttemptData}
use Rattle.sshcore.specs.Inputs.{CanRead}
use Rattle.sshcore.specs.Unread.{IsAsked, IsAskedBy, IsIdle}
use Rattle.sshcore.specs.EndData.{EndData, Open}
use Rattle.sshcore.specs.EndpointParts.{ConfigData}
use Rattle.sshcore.specs.Exchanged.{HasForm}
use Rattle.sshcore.specs.Paused.{PausedData, kept_by, kept_with, with_left}
use Rattle.sshcore.specs.QuestionAt.{question_at}
use Rattle.sshcore.specs.Record.{HasLine, missing_by, payload_of, reader_of, record_of, wanted}
use Rattle.sshcore.specs.RecordData.{OfLines, OfPackets, ReaderRecord, RecordData}
use Rattle.sshcore.specs.RecordMade.{FitsState, IsInputOf, IsReaderOf, IsReading, IsRecorded, IsSameInput, IsSameWaiting, missing_in, state_in, wants}
use Rattle.sshcore.specs.RecordView.{reader_record, record_data}
use Rattle.sshcore.specs.StateData.{StateData, left_of, state_data}

pub none_some : {A : Type 0} (o : Option A) (a : A) → o ≡ None → o ≡ Some a → ⊥
none_some o a is e = cc

pub some_is : {A : Type 0} (a b : A) → ◌≡◌ {A = Option A} (Some a) (Some b) → a ≡ b
some_is a b e = cc

pub mapped_none : {A B : Type 0} (f : A → B) (o : Option A) → o ≡ None → option_map f o ≡ None
mapped_none f o is = ap (λ x. option_map f x) is

-- the bytes that a reader of packets holds are of an unfinished one
reads_so : (m : SuiteData) (i : Input) → CanRead m i → IsReaderOf m (reader_of i)
reads_so m (input.Lines q) reads = tt
reads_so m (input.Packets q) reads = reads.unfinished_is

-- a reader of packets wants as many bytes more as its record says
missing_at : (m : SuiteData) (i : Input) (w : Option WaitingData) → CanRead m i → missing_by i w ≡ missing_in m (reader_of i) (option_map payload_of w)
missing_at m (input.Lines q) None reads = refl
missing_at m (input.Packets q) None reads = ap (λ (n : ℕ). n - length (packet_reader_data q).held) reads.knows
missing_at m i (Some w) reads = refl

pub wanted_so : (m : SuiteData) (form : LineForm) (r : ReaderRecord) (i : Input) → CanRead m i → IsInputOf form r i → wanted i ≡ wants m r
wanted_so m form (OfLines left line) (input.Lines q) reads is = refl
wanted_so m form (OfLines left line) (input.Packets q) reads is = absurd is
wanted_so m form (OfPackets keys number held) (input.Lines q) reads is = absurd is
wanted_so m form (OfPackets keys number held) (input.Packets q) reads is =
    ap (λ (n : ℕ). n - length (packet_reader_data q).held) reads.knows
    ∙ ap (λ (x : PacketReaderData). needed (protection m x.keys x.seq) x.held - length x.held) is

-- a reader that is as another holds nothing where that does
idle_so : (form : LineForm) (i j : Input) → IsInputOf form (reader_of i) j → IsIdle i → IsIdle j
idle_so form (input.Lines q) j is idle = absurd idle
idle_so form (input.Packets q) (input.Lines t) is idle = absurd is
idle_so form (input.Packets q) (input.Packets t) is idle = ap (λ (x : PacketReaderData). x.held) is ∙ idle

pub same_input : (m : SuiteData) (form : LineForm) (i j : Input) → CanRead m i → IsReading i → IsInputOf form (reader_of i) j → IsSameInput form i j
same_input m form (input.Lines q) (input.Lines t) reads reading is =
    (is.0 ∙ (ap (λ (x : Progress). Waits (others_left x) (unfinished x)) reading.2 ∙ sym reading.2), is.1)
same_input m form (input.Lines q) (input.Packets t) reads reading is = absurd is
same_input m form (input.Packets q) (input.Lines t) reads reading is = absurd is
same_input m form (input.Packets q) (input.Packets t) reads reading is =
    is ∙ ap (λ (f : Option PacketFault). record (packet_reader_data q) { fault = f }) (sym reads.no_fault)

-- the packet for which an open endpoint waits, by its record
pub waits_for : (m : SuiteData) (role : Side) (config : ConfigData) (kept : StateData) (j : Input) (v : Option WaitingData) (payload : List ℕ) → kept.end ≡ Open → IsAskedBy m role config kept j v
    → option_map payload_of v ≡ Some payload → (w : WaitingData) × (v ≡ Some w) × (w.payload ≡ payload) × IsAsked m role config kept j w
waits_for m role config kept j None payload is_open asked told = absurd cc
waits_for m role config kept j (Some w) payload is_open asked told = (w, refl, cc, asked (inl is_open))

-- the same packet waits, since it asks one question
pub waits_for_same : (m : SuiteData) (role : Side) (config : ConfigData) (kept : StateData) (v : Option WaitingData) (w x : WaitingData) → v ≡ Some w → w.payload ≡ x.payload
    → question_at m role config kept w.payload ≡ Some w.question → question_at m role config kept x.payload ≡ Some x.question → IsSameWaiting v (Some x)
waits_for_same m role config kept v w x is payload asks asked =
    subst (λ (o : Option WaitingData). IsSameWaiting o (Some x)) (sym is) (
      sym payload,
      some_is x.question w.question (sym asked ∙ ap (question_at m role config kept) (sym payload) ∙ asks),
    )

asked_by : (m : SuiteData) (role : Side) (config : ConfigData) (old new : StateData) (i j : Input) (v : Option WaitingData) → old ≡ new → (IsIdle i → IsIdle j)
    → IsAskedBy m role config old i v → IsAskedBy m role config new j v
asked_by m role config old new i j None same idle asked = tt
asked_by m role config old new i j (Some w) same idle asked = λ ongoing.
    let a = asked (subst (λ (k : StateData). IsOngoing k.end) (sym same) ongoing) in
    let b = subst (λ (k : StateData). IsAsked m role config k i w) same a in
    record { is_open = b.is_open; idle = idle b.idle; short = b.short; asks = b.asks; keeps = b.keeps }

module _ {S : Type 0} (meaning : S → SuiteData) (role : Side) (config : ConfigData) (suite : S) (bytes : List ℕ) (p : PausedData S) (r : IsRecorded meaning role config suite bytes p) where
  pub fits_state : FitsState (record_of p)
  fits_state = record {
    exchange = record {
      version = p.state.version_short;
      kexinit = p.state.kexinit_short;
      session = p.state.session_short;
      chosen = p.state.chosen;
      names = r.is_record.texts.algorithms;
    };
    authentication = record { request = p.state.granted r.is_record.is_open; user = r.is_record.texts.user; service = r.is_record.texts.service };
    carried = record { pending = r.is_record.texts.pending; user_key = r.is_record.texts.user_key };
    keys = r.is_record.texts.keys;
  }

  pub state_is : with_left [] (state_data p.state) ≡ state_in (record_of p)
  state_is = ap (λ (e : EndData). record (with_left [] (state_data p.state)) { end = e }) r.is_record.is_open

  -- what is kept by the parts of the record, but for attempts
  pub kept_is : (parts : RecordParts) (s : State) → record_data parts ≡ record_of p → with_left [] (state_data s) ≡ state_in (record_data parts)
      → with_left [] (state_data s) ≡ with_left [] (state_data p.state)
  kept_is parts s told made = made ∙ (ap state_in told ∙ sym state_is)

  pub has_form : (parts : RecordParts) (s : State) → record_data parts ≡ record_of p → with_left [] (state_data s) ≡ state_in (record_data parts)
      → HasForm (meaning suite) (state_data s)
  has_form parts s told made =
      let form = (r.fits.fits.keeps (inl r.is_record.is_open)).form in
      let same : HasForm (meaning suite) (with_left [] (state_data p.state)) = record { form = form.form; clear = form.clear } in
      let made_so = subst (λ (k : StateData). HasForm (meaning suite) k) (sym (kept_is parts s told made)) same in
      record { form = made_so.form; clear = made_so.clear }

  -- and with the attempts that are left
  pub kept_so : (parts : RecordParts) (s t : State) → record_data parts ≡ record_of p → with_left [] (state_data s) ≡ state_in (record_data parts)
      → (plan left : List AttemptData) → plan ≡ config.plan → left ≡ drop (length plan - parts.left) plan
      → state_data t ≡ with_left (left_of parts.confirmed left) (state_data s) → state_data t ≡ kept_by config p
  kept_so parts s t told made plan left plan_is left_is is =
      is ∙ ap (λ (k : StateData). with_left (left_of parts.confirmed left) k) (kept_is parts s told made)
      ∙ ap (λ (l : List AttemptData). with_left l (state_data p.state)) (
      ap (λ (b : Bool). left_of b left) (ap (λ (x : RecordData). x.confirmed) told)
      ∙ ap (left_of p.state.confirmed) (left_is ∙ ap (λ (l : List AttemptData). drop (length l - parts.left) l) plan_is
      ∙ ap (λ (n : ℕ). drop (length config.plan - n) config.plan) (ap (λ (x : RecordData). x.left) told)))

  pub reader_so : (parts : RecordParts) → record_data parts ≡ record_of p → HasLine (reader_record parts.reader) × IsReaderOf (meaning suite) (reader_record parts.reader)
  reader_so parts told =
      let same = sym (ap (λ (x : RecordData). x.reader) told) in (
        subst HasLine same r.is_record.texts.line,
        subst (λ (x : ReaderRecord). IsReaderOf (meaning suite) x) same (reads_so (meaning suite) p.input (r.fits.fits.reads (inl r.is_record.is_open))),
      )

  pub missing_so : (parts : RecordParts) → record_data parts ≡ record_of p
      → parts.missing ≡ missing_in (meaning suite) (reader_record parts.reader) (option_map (λ payload. payload.now) parts.waiting)
  missing_so parts told =
      ap (λ (x : RecordData). x.missing) told ∙ (missing_at (meaning suite) p.input p.waiting (r.fits.fits.reads (inl r.is_record.is_open))
      ∙ sym (ap (λ (x : RecordData). missing_in (meaning suite) x.reader x.waiting) told))

  pub input_so : (parts : RecordParts) (form : LineForm) (i : Input) → record_data parts ≡ record_of p → IsInputOf form (reader_record parts.reader) i → IsInputOf form (reader_of p.input) i
  input_so parts form i told is = subst (λ (x : ReaderRecord). IsInputOf form x i) (ap (λ (x : RecordData). x.reader) told) is

  -- what waits is asked by what was made
  pub asked_so : (kept : StateData) (form : LineForm) (i : Input) → kept ≡ kept_by config p → IsInputOf form (reader_of p.input) i
      → IsAskedBy (meaning suite) role config kept i p.waiting
  asked_so kept form i same is = asked_by (meaning suite) role config (kept_by config p) kept p.input i p.waiting (sym same) (idle_so form p.input i is) r.fits.fits.asked

  pub kept_last : (parts : RecordParts) (t : State) → record_data parts ≡ record_of p → t.confirmed ≡ parts.confirmed → state_data t ≡ kept_by config p
      → kept_with config.plan t parts.left ≡ kept_by config p
  kept_last parts t told confirmed same =
      ap (with_left (left_of t.confirmed (drop (length config.plan - parts.left) config.plan))) same
      ∙ ap (λ (l : List AttemptData). with_left l (state_data p.state)) (
      ap (λ (b : Bool). left_of b (drop (length config.plan - parts.left) config.plan)) (confirmed ∙ ap (λ (x : RecordData). x.confirmed) told)
      ∙ ap (λ (n : ℕ). left_of p.state.confirmed (drop (length config.plan - n) config.plan)) (ap (λ (x : RecordData). x.left) told))
