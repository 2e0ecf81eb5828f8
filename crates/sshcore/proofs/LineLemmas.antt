-- What the line reader of an endpoint brings, at an endpoint that stands open.

use Rattle.std.proofs.Common.{◌≡◌, ℕ, ◌+◌, ◌≤◌, Bool, false, List, [], ◌∷◌, ◌++◌, length, length-append, take, drop, Option, None, refl, sym, ap, ◌∙◌, subst, append_assoc}
use Rattle.std.proofs.lemmas.Bool.{true≢false}
use Rattle.std.proofs.lemmas.List.{append-nil, length-take-le, take-append-drop}
use Rattle.std.proofs.Math.Seq.{take-length}
use Rattle.sshwire.specs.Feeding.{StandsOpen}
use Rattle.sshwire.specs.LineReaderData.{Finished, PeerLineReaderData, Progress, Refused, Waits}
use Rattle.sshwire.specs.Lines.{LineRefusedBy, PreambleBy}
use Rattle.sshwire.specs.declared.fault.WireFault.{WireFault}
use Rattle.sshwire.specs.declared.line_form.LineForm.{LineForm}
use Rattle.sshneg.specs.declared.side.Side.{Side}
use Rattle.sshneg.specs.Markers.{other}
use Rattle.sshpacket.specs.declared.reader.PacketReader.{PacketReader}
use Rattle.sshpacket.specs.KeysData.{KeysData}
use Rattle.sshpacket.specs.Parse.{OfLine, Parse, refused, unfinished, whole}
use Rattle.sshpacket.specs.PreambleParser.{PreambleMeansBy, preamble_parser_by}
use Rattle.sshpacket.specs.PacketReaderData.{packet_reader_data}
use Rattle.sshpacket.specs.Stream.{Units}
use Rattle.sshpacket.specs.Suite.{SuiteData}
use Rattle.sshcore.specs.declared.end.Fault.TheVariants as fault
use Rattle.sshcore.specs.declared.input.Received.{Received}
use Rattle.sshcore.specs.declared.input.Received.TheVariants as received
use Rattle.sshcore.specs.declared.input.Input.{Input}
use Rattle.sshcore.specs.declared.input.Input.TheVariants as input
use Rattle.sshcore.specs.declared.phase_table.Phase.{Phase}
use Rattle.sshcore.specs.declared.phase_table.Phase.TheVariants as phase
use Rattle.sshcore.specs.Brings.{Gives}
use Rattle.sshcore.specs.Counting.{number_in, switched_out}
use Rattle.sshcore.specs.Directions.{form_of, keys_in, others_of, parsers, payloads_in, version_in}
use Rattle.sshcore.specs.EndData.{Failed, Open, fails}
use Rattle.sshcore.specs.Exchange.{keys_at}
use Rattle.sshcore.specs.ReceivesLines.{ReceivesLines}
use Rattle.sshcore.specs.History.{History}
use Rattle.sshcore.specs.Inputs.{AsReceived, EndpointStands, GoesOn, Steps, pending_at}
use Rattle.sshcore.specs.StateData.{StateData}
use Rattle.sshcore.specs.KnownBefore.{Known}
use Rattle.sshcore.specs.Phases.{past_exchange}
use Rattle.sshcore.specs.Output.{Speaks, sending_from, sent_from}
use Rattle.sshcore.specs.EndpointParts.{ConfigData, Setup}
use Rattle.sshcore.specs.Standing.{Sits, nothing_known}
use Rattle.sshcore.proofs.LawsBelow.{Below}
use Rattle.sshcore.proofs.FeedLemmas.{open_history, stands_part, stands_refused, within}
use Rattle.sshcore.proofs.HistoryLemmas as history
use Rattle.sshcore.proofs.HistoryLemmas.{Streams}
use Rattle.sshcore.proofs.OutputLemmas.{speaks_received}
use Rattle.sshcore.proofs.PlanLemmas.{last_successful_key, no_successful_key}
use Rattle.sshcore.proofs.PhaseLemmas.{tied_none, tied_phase}
use Rattle.sshcore.proofs.StandingLemmas as standing
use Rattle.sshcore.proofs.UncutLemmas.{open_stays}

-- the laws of lines that the lemmas here rest on
pub record LineLaws : Type 0 where
  pub only : (form : LineForm) (k : ℕ) (bytes : List ℕ) (f : Parse) → PreambleMeansBy form k bytes f → preamble_parser_by form k bytes ≡ f
  pub preamble : (form : LineForm) (k : ℕ) (text bytes more : List ℕ) → PreambleBy form k text bytes → preamble_parser_by form k (bytes ++ more) ≡ whole text (length bytes)

-- lines at which a reader stands open are unfinished
open_unfinished : (laws : LineLaws) (form : LineForm) (k : ℕ) (bytes : List ℕ) (progress : Progress) → StandsOpen k bytes progress → preamble_parser_by form k bytes ≡ unfinished
open_unfinished laws form k bytes (Waits left line) o = laws.only form k bytes unfinished (left, line, o)
open_unfinished laws form k bytes Finished o = absurd o
open_unfinished laws form k bytes (Refused code) o = absurd o

-- nothing sent
gives_nothing : (m : SuiteData) (seed : List ℕ) (strict : Bool) (next : KeysData) (kept : StateData) (before : List ℕ)
    → Gives m seed strict next kept (record kept { end = Failed fault.Version }) before before (fails fault.Version)
unfolding sent_from sending_from
gives_nothing m seed strict next kept before = record { ends = refl; output = sym (append-nil before); sends = refl; fits = tt }

number_none : (role : Side) (config : ConfigData) → number_in role config [] ≡ 0
number_none role config = rw ((tied_none role config.offer).newkeys) refl

keys_none : (m : SuiteData) (role : Side) (config : ConfigData) (version sizes : List ℕ) → keys_in m role config version [] sizes ≡ None
keys_none m role config version sizes = rw ((tied_none role config.offer).newkeys) refl

-- where an endpoint stands that has received no line
first_phase : (setup : Setup) (p : Phase) (g : Bool) (k : Known) → Sits setup [] [] p g k → p ≡ phase.KexInit
first_phase setup p g k s = sym (tied_phase setup.role setup.config.offer [] p s.tied) ∙ tied_phase setup.role setup.config.offer [] phase.KexInit (tied_none setup.role setup.config.offer)

first_guess : (setup : Setup) (p : Phase) (g : Bool) (k : Known) → Sits setup [] [] p g k → g ≡ false
first_guess setup p g k s = sym s.due ∙ (standing.begins setup []).due

first_known : (setup : Setup) (p : Phase) (g : Bool) (k : Known) → Sits setup [] [] p g k → k ≡ nothing_known setup.config []
first_known setup p g k s = sym s.knows ∙ (standing.begins setup []).knows

-- a version line is answered by nothing
module _ (below : Below) (streams : Streams) (setup : Setup) (h s : List ℕ) where
  at_first : (sizes rest : List ℕ) (answers : Units) → History setup [] sizes rest None answers Open h s → (piece version : List ℕ) (used : ℕ) → used ≤ length piece
      → parsers setup.suite setup.role setup.config [] sizes (rest ++ piece) ≡ whole version (length rest + used)
      → History setup (version ∷ []) (sizes ++ (length rest + used) ∷ []) [] None (answers ++ []) Open (h ++ take used piece) (s ++ [])
  at_first sizes rest answers a piece version used low seen = history.unit below streams setup [] sizes rest answers h s a piece version used low seen tt

  version_history : (units : Units) (sizes rest : List ℕ) (answers : Units) → units ≡ [] → History setup units sizes rest None answers Open h s → (piece version : List ℕ) (used : ℕ) → used ≤ length piece
      → parsers setup.suite setup.role setup.config units sizes (rest ++ piece) ≡ whole version (length rest + used)
      → History setup (units ++ version ∷ []) (sizes ++ (length rest + used) ∷ []) [] None (answers ++ []) Open (h ++ take used piece) (s ++ [])
  version_history [] sizes rest answers none a piece version used low seen = at_first sizes rest answers a piece version used low seen
  version_history (u ∷ us) sizes rest answers none a piece version used low seen = absurd cc

module _ (laws : LineLaws) (below : Below) (streams : Streams) (setup : Setup) (kept : StateData) (i : Input) (h s : List ℕ) (is : kept.end ≡ Open) (a : EndpointStands setup kept i h s) (none : a.units ≡ []) where
  abbrev pub form : LineForm
  form = form_of setup.config.reading setup.role

  lines_are : (bytes : List ℕ) → parsers setup.suite setup.role setup.config a.units a.sizes bytes ≡ preamble_parser_by form (others_of setup.role) bytes
  lines_are bytes = ap (λ (us : Units). parsers setup.suite setup.role setup.config us a.sizes bytes) none

  pub part_goes : (old new : PeerLineReaderData) (piece before : List ℕ) → StandsOpen (others_of setup.role) (a.rest ++ piece) new.state.progress → new.form ≡ form
      → GoesOn setup kept (input.Lines new) h s (take (length piece) piece) before before
  part_goes old new piece before stands by_form = record {
    added = [];
    appended = sym (append-nil before);
    stands = subst (λ (t : List ℕ). EndpointStands setup kept (input.Lines new) (h ++ t) (s ++ [])) (sym (take-length piece))
        (subst (λ (t : List ℕ). EndpointStands setup kept (input.Lines new) (h ++ piece) t) (sym (append-nil s))
        (stands_part below streams setup kept i h s is a (input.Lines new) piece
        (lines_are (a.rest ++ piece) ∙ open_unfinished laws form (others_of setup.role) (a.rest ++ piece) new.state.progress stands) (none, stands, by_form)));
    uncut = open_stays kept.end is;
  }

  pub refused_goes : (next : KeysData) (j : Input) (piece before : List ℕ) (used place : ℕ) (code : WireFault) → used ≤ length piece → place + 1 ≡ length a.rest + used
      → LineRefusedBy form (others_of setup.role) (a.rest ++ piece) place code
      → GoesOn setup (record kept { end = Failed fault.Version }) j h s (take used piece) before before
  refused_goes next j piece before used place code low at refusal =
      let seen : parsers setup.suite setup.role setup.config a.units a.sizes (a.rest ++ piece) ≡ refused (OfLine code) (length a.rest + used) =
      lines_are (a.rest ++ piece) ∙ laws.only form (others_of setup.role) (a.rest ++ piece) (refused (OfLine code) (length a.rest + used)) (place, sym at, refusal) in
      stands_refused below streams setup kept i h s is a (record kept { end = Failed fault.Version }) j piece used (OfLine code) before before false next low seen
      (gives_nothing setup.suite setup.config.seed false next kept before)

  pub version_goes : (q : PacketReader) (piece before version : List ℕ) (used : ℕ) → used ≤ length piece → PreambleBy form (others_of setup.role) version (a.rest ++ take used piece)
      → packet_reader_data q ≡ record { keys = None; seq = 0; held = []; fault = None }
      → GoesOn setup (record kept { known = record kept.known { version = version } }) (input.Packets q) h s (take used piece) before before
  version_goes q piece before version used low preamble fresh =
      let bytes : List ℕ = a.rest ++ take used piece in
      let all : bytes ++ drop used piece ≡ a.rest ++ piece = append_assoc a.rest (take used piece) (drop used piece) ∙ ap (λ (l : List ℕ). a.rest ++ l) (take-append-drop used piece) in
      let size : length bytes ≡ length a.rest + used = length-append a.rest (take used piece) ∙ ap (λ n. length a.rest + n) (length-take-le used piece low) in
      let seen : parsers setup.suite setup.role setup.config a.units a.sizes (a.rest ++ piece) ≡ whole version (length a.rest + used) =
      lines_are (a.rest ++ piece) ∙ ap (λ (l : List ℕ). preamble_parser_by form (others_of setup.role) l) (sym all)
      ∙ laws.preamble form (others_of setup.role) version bytes (drop used piece) preamble ∙ ap (λ n. whole version n) size in
      let w = within below streams setup kept i h s is a in
      let sits : Sits setup [] [] kept.phase kept.guess kept.known = subst (λ (us : Units). Sits setup (version_in us) (payloads_in us) kept.phase kept.guess kept.known) none w.sits in
      let p = first_phase setup kept.phase kept.guess kept.known sits in
      let g = first_guess setup kept.phase kept.guess kept.known sits in
      let k = first_known setup kept.phase kept.guess kept.known sits in
      let after : a.units ++ version ∷ [] ≡ version ∷ [] = ap (λ (us : Units). us ++ version ∷ []) none in
      record {
        added = [];
        appended = sym (append-nil before);
        stands = record {
          units = a.units ++ version ∷ [];
          sizes = a.sizes ++ (length a.rest + used) ∷ [];
          rest = [];
          refusal = None;
          answers = a.answers ++ [];
          received_end = Open;
          history = version_history below streams setup h s a.units a.sizes a.rest a.answers none (open_history below streams setup kept i h s is a) piece version used low seen;
          ends = AsReceived is;
          inside = λ o. record {
            sits = subst (λ (us : Units). Sits setup (version_in us) (payloads_in us) kept.phase kept.guess (record kept.known { version = version })) (sym after)
                (subst (λ (x : Phase). Sits setup version [] x kept.guess (record kept.known { version = version })) (sym p)
                (subst (λ (x : Bool). Sits setup version [] phase.KexInit x (record kept.known { version = version })) (sym g)
                (subst (λ (x : Known). Sits setup version [] phase.KexInit false (record x { version = version })) (sym k) (standing.begins setup version))));
            form = record { form = w.form.form; clear = w.form.clear };
            reads = (
              version,
              [],
              after,
              fresh ∙ ap (λ (x : Option KeysData). record { keys = x; seq = 0; held = []; fault = None }) (sym (keys_none setup.suite setup.role setup.config version (a.sizes ++ (length a.rest + used) ∷ [])))
                  ∙ ap (λ (n : ℕ). record { keys = keys_in setup.suite setup.role setup.config version [] (a.sizes ++ (length a.rest + used) ∷ []); seq = n; held = []; fault = None }) (sym (number_none setup.role setup.config)),
            );
            carries = record {
              pending = w.carries.pending ∙ ap (λ (x : Phase). pending_at x (keys_at setup.suite setup.role setup.config (version_in a.units) (payloads_in a.units) (other setup.role))) p
                  ∙ ap (λ (x : Phase). pending_at x (keys_at setup.suite setup.role setup.config (version_in (a.units ++ version ∷ [])) (payloads_in (a.units ++ version ∷ [])) (other setup.role))) (sym p);
              own_version = λ past. absurd (true≢false (sym past ∙ ap past_exchange p));
              host_key = λ past. absurd (true≢false (sym past ∙ ap past_exchange p));
              user_key = w.carries.user_key ∙ ap (λ (us : Units). last_successful_key setup (version_in us) (payloads_in us)) none ∙ no_successful_key setup []
                  ∙ sym (no_successful_key setup version) ∙ sym (ap (λ (us : Units). last_successful_key setup (version_in us) (payloads_in us)) after);
            };
            speaks = speaks_received setup.suite setup.role setup.config a.units (version ∷ []) (a.answers ++ []) kept.sending
                (λ on. a.history.keyed (sym (ap switched_out (append-nil a.answers)) ∙ on))
                (subst (λ (us : Units). Speaks setup.suite setup.role setup.config a.units us kept.sending) (sym (append-nil a.answers)) w.speaks);
          };
        };
        uncut = open_stays kept.end is;
      }

-- what came of lines is that of the same reader and answer by other names
pub named_lines : (k : ℕ) (bytes : List ℕ) (new : PeerLineReaderData) (kept last : StateData) (piece : List ℕ) {r q : PeerLineReaderData} {x y : Received} → r ≡ q → x ≡ y
    → ReceivesLines r.form k bytes new.state kept last piece x → ReceivesLines q.form k bytes new.state kept last piece y
named_lines k bytes new kept last piece {r = r} {y = y} e f came =
    subst (λ (z : PeerLineReaderData). ReceivesLines z.form k bytes new.state kept last piece y) e
    (subst (λ (z : Received). ReceivesLines r.form k bytes new.state kept last piece z) f came)

module _ (laws : LineLaws) (below : Below) (streams : Streams) (setup : Setup) (next : KeysData) (old : PeerLineReaderData) (kept : StateData) (piece before : List ℕ) (is : kept.end ≡ Open) where
  goes_as : (new last : StateData) (j : Input) (h s : List ℕ) (n k : ℕ) → last ≡ new → k ≡ n → GoesOn setup new j h s (take n piece) before before → GoesOn setup last j h s (take k piece) before before
  goes_as new last j h s n k e f g =
      subst (λ (x : ℕ). GoesOn setup last j h s (take x piece) before before) (sym f) (subst (λ (x : StateData). GoesOn setup x j h s (take n piece) before before) (sym e) g)

  -- the version line hasn't come
  pub lines_part : (new : PeerLineReaderData) (last : StateData) (used : ℕ) → ((k : ℕ) (bytes : List ℕ) → StandsOpen k bytes old.state.progress → ReceivesLines old.form k bytes new.state kept last piece (received.Part used)) → new.form ≡ old.form
      → Steps setup (input.Lines old) kept (input.Lines new) last (take used piece) before before
  lines_part new last used receives same h s a =
      let w = within below streams setup kept (input.Lines old) h s is a in
      let x = receives (others_of setup.role) a.rest w.reads.1 in
      goes_as kept last (input.Lines new) h s (length piece) used x.2 x.1
      (part_goes laws below streams setup kept (input.Lines old) h s is a w.reads.0 old new piece before x.0 (same ∙ w.reads.2))

  -- a line is refused
  pub lines_refused : (new : PeerLineReaderData) (j : Input) (last : StateData) (used : ℕ) → ((k : ℕ) (bytes : List ℕ) → StandsOpen k bytes old.state.progress → ReceivesLines old.form k bytes new.state kept last piece (received.Refused used))
      → Steps setup (input.Lines old) kept j last (take used piece) before before
  lines_refused new j last used receives h s a =
      let w = within below streams setup kept (input.Lines old) h s is a in
      let x = receives (others_of setup.role) a.rest w.reads.1 in
      goes_as (record kept { end = Failed fault.Version }) last j h s used used x.5 refl
      (refused_goes laws below streams setup kept (input.Lines old) h s is a w.reads.0 next j piece before used x.0 x.1 x.4 x.2 (subst (λ (f : LineForm). LineRefusedBy f (others_of setup.role) (a.rest ++ piece) x.0 x.1) w.reads.2 x.3))

  -- the version line has come
  pub lines_whole : (new : PeerLineReaderData) (q : PacketReader) (last : StateData) (used : ℕ) → ((k : ℕ) (bytes : List ℕ) → StandsOpen k bytes old.state.progress → ReceivesLines old.form k bytes new.state kept last piece (received.Whole used))
      → packet_reader_data q ≡ record { keys = None; seq = 0; held = []; fault = None }
      → Steps setup (input.Lines old) kept (input.Packets q) last (take used piece) before before
  lines_whole new q last used receives fresh h s a =
      let w = within below streams setup kept (input.Lines old) h s is a in
      let x = receives (others_of setup.role) a.rest w.reads.1 in
      goes_as (record kept { known = record kept.known { version = x.0 } }) last (input.Packets q) h s used used x.3 refl
      (version_goes laws below streams setup kept (input.Lines old) h s is a w.reads.0 q piece before x.0 used x.2 (subst (λ (f : LineForm). PreambleBy f (others_of setup.role) x.0 (a.rest ++ take used piece)) w.reads.2 x.1) fresh)
