-- An endpoint that stands open, and a piece of what it receives.

use Rattle.std.proofs.Common.{◌≡◌, ◌≢◌, ◌⊎◌, inl, inr, ℕ, ◌+◌, ◌≤◌, Bool, true, false, List, [], ◌∷◌, ◌++◌, length, take, Option, None, Some, refl, sym, ap, ◌∙◌, append_assoc}
use Rattle.std.proofs.lemmas.Bool.{true≢false}
use Rattle.std.proofs.lemmas.List.{append-nil}
use Rattle.sshneg.specs.declared.side.Side.{Side}
use Rattle.sshpacket.specs.Parse.{ProtectionData, Refusal, parse_packet, refused, unfinished, whole}
use Rattle.sshpacket.specs.Places.{EachPlace, IsPrefix, flat_places}
use Rattle.sshwire.specs.declared.line_form.LineForm.{LineForm}
use Rattle.sshpacket.specs.PreambleParser.{preamble_parser_by}
use Rattle.sshpacket.specs.Stream.{IsIncremental, Parsers, Read, Received, Same, Sent, Units}
use Rattle.sshpacket.specs.Suite.{SuiteData}
use Rattle.sshpacket.proofs.Places.{each-append, each-push, flat-push}
use Rattle.sshcore.specs.declared.end.Fault.{Fault}
use Rattle.sshcore.specs.declared.phase_table.Phase.TheVariants as phase
use Rattle.sshcore.specs.Counting.{switched_out}
use Rattle.sshcore.specs.Directions.{form_of, others_of, parsers, payloads_in, protection_in, spells}
use Rattle.sshcore.specs.EndData.{Authenticated, Closed, Disconnected, EndData, Failed, Open, disconnect}
use Rattle.sshcore.specs.History.{AllFit, BrokenOff, FitsPacket, History, IsReady}
use Rattle.sshcore.specs.EndpointParts.{ConfigData, Setup}
use Rattle.sshcore.specs.Replies.{Ends, Replies, StaysOpen, answers_at, end_at, ended, fault_of, goes_on, refusal_reply}
use Rattle.sshcore.specs.Work.{making}
use Rattle.sshcore.proofs.LawsBelow.{Below}
use Rattle.sshcore.proofs.KeyedLemmas.{keyed, still_fails, still_making}
use Rattle.sshcore.proofs.StreamLemmas.{ready_units, sent_stays, switched_append}
use Rattle.sshcore.proofs.StrictLaws.{begun_none, stands}

-- the laws of streams that the lemmas here rest on
pub record Streams : Type 0 where
  pub packets : (w : ProtectionData) → IsIncremental (parse_packet w)
  pub lines : (form : LineForm) (k : ℕ) → IsIncremental (preamble_parser_by form k)
  pub nothing : (parsers : Parsers) → ((us : Units) (ns : List ℕ) → IsIncremental (parsers us ns)) → Received parsers [] [] [] [] None
  pub unit : (parsers : Parsers) → ((us : Units) (ns : List ℕ) → IsIncremental (parsers us ns)) → (stream piece : List ℕ) (us : Units) (ns rest u : List ℕ) (used : ℕ)
      → Received parsers stream us ns rest None → used ≤ length piece → parsers us ns (rest ++ piece) ≡ whole u (length rest + used)
      → Received parsers (stream ++ take used piece) (us ++ u ∷ []) (ns ++ (length rest + used) ∷ []) [] None
  pub refusal : (parsers : Parsers) → ((us : Units) (ns : List ℕ) → IsIncremental (parsers us ns)) → (stream piece : List ℕ) (us : Units) (ns rest : List ℕ) (r : Refusal) (used : ℕ)
      → Received parsers stream us ns rest None → used ≤ length piece → parsers us ns (rest ++ piece) ≡ refused r (length rest + used) → Received parsers (stream ++ take used piece) us ns (rest ++ take used piece) (Some r)
  pub part : (parsers : Parsers) → ((us : Units) (ns : List ℕ) → IsIncremental (parsers us ns)) → (stream piece : List ℕ) (us : Units) (ns rest : List ℕ)
      → Received parsers stream us ns rest None → parsers us ns (rest ++ piece) ≡ unfinished → Received parsers (stream ++ piece) us ns (rest ++ piece) None
  pub one : (parsers : Parsers) (stream : List ℕ) (us vs : Units) (ns ms x y : List ℕ) (r q : Option Refusal)
      → Received parsers stream us ns x r → Received parsers stream vs ms y q → Same us vs x y r q
  pub front : (parsers : Parsers) → ((us : Units) (ns : List ℕ) → IsIncremental (parsers us ns)) → (stream more : List ℕ) (us vs : Units) (ns ms x y : List ℕ) (r q : Option Refusal)
      → Received parsers stream us ns x r → Received parsers (stream ++ more) vs ms y q → IsPrefix us vs
  pub more : (parsers : Parsers) → ((us : Units) (ns : List ℕ) → IsIncremental (parsers us ns)) → (before : Units) (passed bytes more : List ℕ) (us : Units) (ns rest : List ℕ)
      → Read parsers before passed bytes us ns rest → Read parsers before passed (bytes ++ more) us ns (rest ++ more)
  pub sent : (spells : Units → List ℕ → List ℕ) (stream : List ℕ) (us more : Units) → Sent spells stream us → Sent spells (stream ++ flat_places spells us more) (us ++ more)

fit_anywhere : (b c us : Units) → EachPlace (λ before payload. FitsPacket payload) b us → EachPlace (λ before payload. FitsPacket payload) c us
fit_anywhere b c [] fit = tt
fit_anywhere b c (u ∷ us) fit = (fit.0, fit_anywhere (b ++ u ∷ []) (c ++ u ∷ []) us fit.1)

pub fit_both : (answers more : Units) → AllFit answers → AllFit more → AllFit (answers ++ more)
fit_both answers more a b = each-append (λ before payload. FitsPacket payload) [] answers more a (fit_anywhere [] answers more b)

failed_shut : (f : Fault) → Failed f ≢ Open
failed_shut f e = absurd cc

pub no_refusal : (r : Option Refusal) → (refusal_reply r).end ≡ Open → r ≡ None
no_refusal None e = refl
no_refusal (Some r) e = absurd cc

is_open : (e : EndData) → (e ≡ Open) ⊎ (e ≢ Open)
is_open Open = inl refl
is_open (Authenticated a) = inr (λ e. absurd cc)
is_open (Failed f) = inr (λ e. absurd cc)
is_open (Closed reason) = inr (λ e. absurd cc)
is_open (Disconnected reason) = inr (λ e. absurd cc)

module _ (streams : Streams) (m : SuiteData) (role : Side) (config : ConfigData) where
  pub each : (us : Units) (ns : List ℕ) → IsIncremental (parsers m role config us ns)
  each [] ns = streams.lines (form_of config.reading role) (others_of role)
  each (version ∷ before) ns = streams.packets (protection_in m role config version before ns)

module _ (below : Below) (streams : Streams) (setup : Setup) where
  open_stays : (units : Units) (r : Option Refusal) (end : EndData) → end ≡ Open → Ends setup units r end → StaysOpen setup units
  open_stays units r end is (goes_on stays e) = stays
  open_stays units r end is (ended before last units_are stays e shut none) = absurd (shut is)

  -- before any byte
  pub begins : AllFit (making setup.suite setup.role setup.config)
      → History setup [] [] [] None (making setup.suite setup.role setup.config) Open [] (flat_places (spells setup.suite setup.role setup.config []) [] (setup.config.version ∷ making setup.suite setup.role setup.config))
  begins fit = record {
    received = streams.nothing (parsers setup.suite setup.role setup.config) (each streams setup.suite setup.role setup.config);
    sent = record { spelled = refl };
    replies = record { in_order = sym (append-nil (making setup.suite setup.role setup.config)); ends = goes_on tt refl };
    fits = fit;
    keyed = λ on. absurd (true≢false (sym on ∙ still_making setup.suite setup.role setup.config));
    last = λ shut. absurd (shut refl);
  }

  -- the packet after an open history is answered by NEWKEYS only where the exchange is received with it
  keyed_unit : (units : Units) (u : List ℕ) → StaysOpen setup units → switched_out (answers_at setup units u) ≡ true → IsReady setup.role setup.config (payloads_in (units ++ u ∷ []))
  unfolding switched_out
  keyed_unit [] u stays on = absurd (true≢false (sym on))
  keyed_unit (version ∷ before) u stays on =
      let f = stands below setup version [] before phase.KexInit (begun_none below setup) stays.1 in
      keyed below setup version before u f.0 f.1.tied on

  module _ (units : Units) (sizes rest : List ℕ) (answers : Units) (h s : List ℕ) (a : History setup units sizes rest None answers Open h s) where
    all_open : StaysOpen setup units
    all_open = open_stays units None Open refl a.replies.ends

    in_order : answers ≡ making setup.suite setup.role setup.config ++ flat_places (answers_at setup) [] units
    in_order = a.replies.in_order ∙ ap (λ (l : Units). making setup.suite setup.role setup.config ++ l) (append-nil (flat_places (answers_at setup) [] units))

    -- more bytes of an unfinished unit
    pub part : (piece : List ℕ) → parsers setup.suite setup.role setup.config units sizes (rest ++ piece) ≡ unfinished → History setup units sizes (rest ++ piece) None answers Open (h ++ piece) s
    part piece e = record {
      received = streams.part (parsers setup.suite setup.role setup.config) (each streams setup.suite setup.role setup.config) h piece units sizes rest a.received e;
      sent = a.sent;
      replies = record { in_order = a.replies.in_order; ends = goes_on all_open refl };
      fits = a.fits;
      keyed = a.keyed;
      last = λ shut. absurd (shut refl);
    }

    -- the bytes are refused
    pub refusal : (piece : List ℕ) (used : ℕ) (r : Refusal) → used ≤ length piece → parsers setup.suite setup.role setup.config units sizes (rest ++ piece) ≡ refused r (length rest + used) → AllFit (disconnect (fault_of r))
        → History setup units sizes (rest ++ take used piece) (Some r) (answers ++ disconnect (fault_of r)) (Failed (fault_of r)) (h ++ take used piece)
        (s ++ flat_places (spells setup.suite setup.role setup.config units) (setup.config.version ∷ answers) (disconnect (fault_of r)))
    refusal piece used r low e fit = record {
      received = streams.refusal (parsers setup.suite setup.role setup.config) (each streams setup.suite setup.role setup.config) h piece units sizes rest r used a.received low e;
      sent = streams.sent (spells setup.suite setup.role setup.config units) s (setup.config.version ∷ answers) (disconnect (fault_of r)) a.sent;
      replies = record {
        in_order = ap (λ (l : Units). l ++ disconnect (fault_of r)) in_order ∙ append_assoc (making setup.suite setup.role setup.config) (flat_places (answers_at setup) [] units) (disconnect (fault_of r));
        ends = goes_on all_open refl;
      };
      fits = fit_both answers (disconnect (fault_of r)) a.fits fit;
      keyed = λ on. a.keyed (told (switched_out answers) refl on);
      last = λ _ n. absurd cc;
    }
      where
        told : (b : Bool) → switched_out answers ≡ b → switched_out (answers ++ disconnect (fault_of r)) ≡ true → switched_out answers ≡ true
        told true e on = e
        told false e on = absurd (true≢false (sym on ∙ (switched_append answers (disconnect (fault_of r)) ∙ rw e (still_fails (fault_of r)))))

    replies_after : (u : List ℕ) → Replies setup (units ++ u ∷ []) None (answers ++ answers_at setup units u) (end_at setup units u)
    replies_after u =
        let more = answers_at setup units u in
        record {
          in_order = ap (λ (l : Units). l ++ more) in_order
              ∙ append_assoc (making setup.suite setup.role setup.config) (flat_places (answers_at setup) [] units) more
              ∙ ap (λ (l : Units). making setup.suite setup.role setup.config ++ l) (sym (flat-push (answers_at setup) [] units u) ∙ sym (append-nil (flat_places (answers_at setup) [] (units ++ u ∷ []))));
          ends = pushed (is_open (end_at setup units u));
        }
      where
        pushed : (end_at setup units u ≡ Open) ⊎ (end_at setup units u ≢ Open) → Ends setup (units ++ u ∷ []) None (end_at setup units u)
        pushed (inl o) = goes_on (each-push (λ before unit. end_at setup before unit ≡ Open) [] units u all_open o) o
        pushed (inr shut) = ended units u refl all_open refl shut refl

    -- a whole unit, with its answers
    pub unit : (piece u : List ℕ) (used : ℕ) → used ≤ length piece → parsers setup.suite setup.role setup.config units sizes (rest ++ piece) ≡ whole u (length rest + used) → AllFit (answers_at setup units u)
        → History setup (units ++ u ∷ []) (sizes ++ (length rest + used) ∷ []) [] None (answers ++ answers_at setup units u) (end_at setup units u) (h ++ take used piece)
        (s ++ flat_places (spells setup.suite setup.role setup.config (units ++ u ∷ [])) (setup.config.version ∷ answers) (answers_at setup units u))
    unit piece u used low e fit =
        let more = answers_at setup units u in
        record {
          received = streams.unit (parsers setup.suite setup.role setup.config) (each streams setup.suite setup.role setup.config) h piece units sizes rest u used a.received low e;
          sent = streams.sent (spells setup.suite setup.role setup.config (units ++ u ∷ [])) s (setup.config.version ∷ answers) more (sent_stays setup.suite setup.role setup.config units (u ∷ []) answers s a.keyed a.sent);
          replies = replies_after u;
          fits = fit_both answers more a.fits fit;
          keyed = λ on. keyed_by (switched_out answers) refl on;
          last = λ _ _. refl;
        }
      where
        keyed_by : (b : Bool) → switched_out answers ≡ b → switched_out (answers ++ answers_at setup units u) ≡ true → IsReady setup.role setup.config (payloads_in (units ++ u ∷ []))
        keyed_by true e on = ready_units setup.role setup.config units (u ∷ []) (a.keyed e)
        keyed_by false e on = keyed_unit units u all_open (sym (switched_append answers (answers_at setup units u) ∙ rw e refl) ∙ on)

    -- memory runs out while the answers to a unit are sent
    pub breaks : (piece u : List ℕ) (used : ℕ) (some : Units) → used ≤ length piece → parsers setup.suite setup.role setup.config units sizes (rest ++ piece) ≡ whole u (length rest + used) → IsPrefix some (answers_at setup units u)
        → BrokenOff setup (h ++ take used piece) (s ++ flat_places (spells setup.suite setup.role setup.config (units ++ u ∷ [])) (setup.config.version ∷ answers) some)
    breaks piece u used some low e prefix =
        let more = answers_at setup units u in
        record {
          units = units ++ u ∷ [];
          sizes = sizes ++ (length rest + used) ∷ [];
          rest = [];
          refusal = None;
          answers = answers ++ more;
          end = end_at setup units u;
          some_answers = answers ++ some;
          received = streams.unit (parsers setup.suite setup.role setup.config) (each streams setup.suite setup.role setup.config) h piece units sizes rest u used a.received low e;
          replies = replies_after u;
          prefix = record { rest = prefix.rest; whole_is = ap (λ (l : Units). answers ++ l) prefix.whole_is ∙ sym (append_assoc answers some prefix.rest) };
          sent = streams.sent (spells setup.suite setup.role setup.config (units ++ u ∷ [])) s (setup.config.version ∷ answers) some (sent_stays setup.suite setup.role setup.config units (u ∷ []) answers s a.keyed a.sent);
        }

-- and before any of them
pub broken : (setup : Setup) (units : Units) (sizes rest : List ℕ) (refusal : Option Refusal) (answers : Units) (end : EndData) (h s : List ℕ)
    → History setup units sizes rest refusal answers end h s → BrokenOff setup h s
broken setup units sizes rest refusal answers end h s a = record {
  units = units;
  sizes = sizes;
  rest = rest;
  refusal = refusal;
  answers = answers;
  end = end;
  some_answers = answers;
  received = a.received;
  replies = a.replies;
  prefix = record { rest = []; whole_is = sym (append-nil answers) };
  sent = a.sent;
}
