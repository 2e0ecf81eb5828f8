-- An endpoint before any byte.

use Rattle.std.proofs.Common.{◌≡◌, ℕ, Bool, true, false, List, [], ◌∷◌, ◌++◌, None, refl, sym, ap, ◌∙◌, subst}
use Rattle.std.proofs.lemmas.Bool.{true≢false}
use Rattle.sshneg.specs.declared.side.Side.{Side}
use Rattle.sshneg.specs.Markers.{other}
use Rattle.sshpacket.specs.KeysData.{KeysData}
use Rattle.sshpacket.specs.Places.{flat_places}
use Rattle.sshpacket.specs.Suite.{SuiteData}
use Rattle.sshcore.specs.declared.input.Input.{Input}
use Rattle.sshcore.specs.declared.input.Input.TheVariants as input
use Rattle.sshcore.specs.declared.phase_table.Phase.{Phase}
use Rattle.sshcore.specs.declared.phase_table.Phase.TheVariants as phase
use Rattle.sshcore.specs.Before.{strict_at}
use Rattle.sshcore.specs.Brings.{Gives}
use Rattle.sshcore.specs.Directions.{form_of, preamble_of, spells}
use Rattle.sshcore.specs.EndData.{Open, goes}
use Rattle.sshcore.specs.Exchange.{keys_at}
use Rattle.sshcore.specs.History.{History}
use Rattle.sshcore.specs.Inputs.{AsReceived, Begins, EndpointStands, IsInput, pending_at}
use Rattle.sshcore.specs.StateData.{StateData, begun}
use Rattle.sshcore.specs.KnownBefore.{Known}
use Rattle.sshcore.specs.Output.{Sending, Speaks, sent_from}
use Rattle.sshcore.specs.EndpointParts.{ConfigData, Setup}
use Rattle.sshcore.specs.Phases.{past_exchange, past_kexinit}
use Rattle.sshcore.specs.Standing.{Sits}
use Rattle.sshcore.specs.Work.{making}
use Rattle.sshcore.proofs.LawsBelow.{Below}
use Rattle.sshcore.proofs.FeedLemmas.{clear_before, none_sent}
use Rattle.sshcore.proofs.HistoryLemmas as history
use Rattle.sshcore.proofs.HistoryLemmas.{Streams}
use Rattle.sshcore.proofs.KeyedLemmas.{still_making}
use Rattle.sshcore.proofs.OutputLemmas.{sent_quiet}
use Rattle.sshcore.proofs.PlanLemmas.{no_successful_key}
use Rattle.sshcore.proofs.SendingLemmas as sending_lemmas
use Rattle.sshcore.proofs.StandingLemmas as standing

first_input : (m : SuiteData) (role : Side) (config : ConfigData) (i : Input) → Begins role (form_of config.reading role) i → IsInput m role config [] [] [] i
first_input m role config (input.Lines reader) b = (refl, b.0, b.1)
first_input m role config (input.Packets reader) b = absurd b

-- nothing was sent, and nothing is sealed
speaks_first : (m : SuiteData) (role : Side) (config : ConfigData) → Speaks m role config [] [] (record { keys = None; number = 0 })
speaks_first m role config =
    let none = sending_lemmas.none_sent (strict_at role config []) in
    record { keys = rw none.0 refl; number = sym none.1 }

not_past : (p : Phase) → p ≡ phase.KexInit → past_kexinit p ≡ true → ⊥
not_past p e past = true≢false (sym past ∙ ap past_kexinit e)

module _ (below : Below) (streams : Streams) (setup : Setup) (new : StateData) (i : Input) (lines sent : List ℕ) (strict : Bool) (next : KeysData) where
  pub begins_stands : new ≡ record (begun setup.config) { sending = new.sending } → Gives setup.suite setup.config.seed strict next (begun setup.config) new lines sent (goes (making setup.suite setup.role setup.config)) → lines ≡ preamble_of setup.config → Begins setup.role (form_of setup.config.reading setup.role) i
      → EndpointStands setup new i [] sent
  begins_stands is gives lines_are reads =
      let first = making setup.suite setup.role setup.config in
      let spoken = sent_quiet setup.suite setup.role setup.config [] strict next [] first (record { keys = None; number = 0 }) (none_sent first (still_making setup.suite setup.role setup.config)) (speaks_first setup.suite setup.role setup.config) in
      let bytes : sent ≡ flat_places (spells setup.suite setup.role setup.config []) [] (setup.config.version ∷ first) =
      gives.output ∙ ap (λ (l : List ℕ). l ++ sent_from setup.suite setup.config.seed strict next (record { keys = None; number = 0 }) first) lines_are
      ∙ ap (λ (l : List ℕ). preamble_of setup.config ++ l) spoken.0 in
      let begin = history.begins below streams setup gives.fits in
      let speaks : Speaks setup.suite setup.role setup.config [] first new.sending = subst (λ (o : Sending). Speaks setup.suite setup.role setup.config [] first o) (sym gives.sends) spoken.1 in
      let phase_is : new.phase ≡ phase.KexInit = ap (λ (k : StateData). k.phase) is in
      record {
        units = [];
        sizes = [];
        rest = [];
        refusal = None;
        answers = first;
        received_end = Open;
        history = subst (λ (l : List ℕ). History setup [] [] [] None first Open [] l) (sym bytes) begin;
        ends = AsReceived (ap (λ (k : StateData). k.end) is);
        inside = λ o. record {
          sits = subst (λ (p : Phase). Sits setup [] [] p new.guess new.known) (sym phase_is)
              (subst (λ (b : Bool). Sits setup [] [] phase.KexInit b new.known) (sym (ap (λ (k : StateData). k.guess) is))
              (subst (λ (k : Known). Sits setup [] [] phase.KexInit false k) (sym (ap (λ (k : StateData). k.known) is)) (standing.begins setup [])));
          form = record {
            form = λ past. absurd (not_past new.phase phase_is past);
            clear = λ not. clear_before setup.suite setup.role setup.config [] first phase.KexInit new.sending ((standing.begins setup []).tied.exchange) speaks begin.keyed refl;
          };
          reads = first_input setup.suite setup.role setup.config i reads;
          carries = record {
            pending = ap (λ (k : StateData). k.carried.pending) is ∙ ap (λ (p : Phase). pending_at p (keys_at setup.suite setup.role setup.config [] [] (other setup.role))) (sym phase_is);
            own_version = λ past. absurd (true≢false (sym past ∙ ap past_exchange phase_is));
            host_key = λ past. absurd (true≢false (sym past ∙ ap past_exchange phase_is));
            user_key = ap (λ (k : StateData). k.carried.user_key) is ∙ sym (no_successful_key setup []);
          };
          speaks = speaks;
        };
      }
