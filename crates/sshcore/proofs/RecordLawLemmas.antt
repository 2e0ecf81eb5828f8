-- An endpoint that was made of the record of another has received and sent the same.

use Rattle.std.proofs.Common.{◌≡◌, ◌∙◌, ◌+◌, length, List, ℕ, Option, None, Some, Result, Ok, Err, ap, inl, refl, subst, sym}
use Rattle.sshwire.specs.Feeding.{StandsOpen}
use Rattle.sshwire.specs.LineReaderData.{Finished, Progress, Refused, Waits}
use Rattle.sshwire.specs.declared.line_form.LineForm.{LineForm}
use Rattle.sshneg.specs.declared.side.Side.{Side}
use Rattle.sshpacket.specs.declared.reader.PacketReader.{PacketReader}
use Rattle.sshpacket.specs.PacketReaderData.{ahead, packet_reader_data}
use Rattle.sshpacket.specs.Parse.{whole}
use Rattle.sshpacket.specs.Stream.{Units}
use Rattle.sshpacket.specs.Suite.{SuiteData}
use Rattle.sshcore.specs.declared.input.Input.{Input}
use Rattle.sshcore.specs.declared.record_fault.RecordFault.{RecordFault}
use Rattle.sshcore.specs.declared.record_fault.RecordFault.TheVariants as fault
use Rattle.sshcore.specs.declared.input.Input.TheVariants as input
use Rattle.sshcore.specs.Asking.{asked_at}
use Rattle.sshcore.specs.EndData.{Authenticated, Closed, Disconnected, EndData, Failed, Open}
use Rattle.sshcore.specs.AskingData.{WaitingData}
use Rattle.sshcore.specs.Directions.{form_of, others_of}
use Rattle.sshcore.specs.EndpointParts.{ConfigData, Setup, setup_with}
use Rattle.sshcore.specs.Inputs.{EndpointStands, IsInput}
use Rattle.sshcore.specs.Paused.{PausedAfter, PausedData, kept_by}
use Rattle.sshcore.specs.Record.{IsMadeSo}
use Rattle.sshcore.specs.RecordMade.{GoesOnFrom, IsAsFar, IsReading, IsRecorded, IsSameInput, IsSamePaused, IsSameWaiting}
use Rattle.sshcore.specs.StateData.{StateData}
use Rattle.sshcore.specs.Unread.{AskingStands}

input_as : (m : SuiteData) (role : Side) (config : ConfigData) (units : Units) (sizes rest : List ℕ) (i j : Input) → IsSameInput (form_of config.reading role) i j
    → IsInput m role config units sizes rest i → IsInput m role config units sizes rest j
input_as m role config units sizes rest (input.Lines r) (input.Lines q) same is =
    (is.0, subst (λ (p : Progress). StandsOpen (others_of role) rest p) (sym same.0) is.1, same.1)
input_as m role config units sizes rest (input.Lines r) (input.Packets q) same is = absurd same
input_as m role config units sizes rest (input.Packets r) (input.Lines q) same is = absurd same
input_as m role config units sizes rest (input.Packets r) (input.Packets q) same is = (is.0, is.1, is.2, same ∙ is.3)

stands_as : (setup : Setup) (kept : StateData) (i j : Input) (h s : List ℕ) → IsSameInput (form_of setup.config.reading setup.role) i j
    → EndpointStands setup kept i h s → EndpointStands setup kept j h s
stands_as setup kept i j h s same a = record {
  units = a.units;
  sizes = a.sizes;
  rest = a.rest;
  refusal = a.refusal;
  answers = a.answers;
  received_end = a.received_end;
  history = a.history;
  ends = a.ends;
  inside = λ o. let x = a.inside o in record {
    sits = x.sits;
    form = x.form;
    reads = input_as setup.suite setup.role setup.config a.units a.sizes a.rest i j same x.reads;
    carries = x.carries;
    speaks = x.speaks;
  };
}

packets_as : (form : LineForm) (j k : Input) (after : PacketReader) → IsSameInput form j k → j ≡ input.Packets after
    → (other : PacketReader) × (k ≡ input.Packets other) × (packet_reader_data other ≡ packet_reader_data after)
packets_as form (input.Lines r) (input.Lines q) after same is = absurd cc
packets_as form (input.Lines r) (input.Packets q) after same is = absurd same
packets_as form (input.Packets r) (input.Lines q) after same is = absurd same
packets_as form (input.Packets r) (input.Packets q) after same is = (q, refl, same ∙ ap packet_reader_data (reader_is r after is))
  where
    reader_is : (r after : PacketReader) → ◌≡◌ {A = Input} (input.Packets r) (input.Packets after) → r ≡ after
    reader_is r after e = cc

-- where nothing waits, and where a packet does
asking_as_here : (setup : Setup) (kept : StateData) (i j : Input) (v w : Option WaitingData) (h s : List ℕ) → IsSameInput (form_of setup.config.reading setup.role) i j → IsSameWaiting v w
    → AskingStands setup kept i v h s → AskingStands setup kept j w h s
asking_as_here setup kept i j None None h s same waits a = record {
  earlier = a.earlier;
  reader = j;
  stands = stands_as setup kept i j a.earlier s same (subst (λ (x : Input). EndpointStands setup kept x a.earlier s) a.unread.0 a.stands);
  unread = (refl, a.unread.1);
}
asking_as_here setup kept i j None (Some w) h s same waits a = absurd waits
asking_as_here setup kept i j (Some v) None h s same waits a = absurd waits
asking_as_here setup kept i j (Some v) (Some w) h s same waits a =
    let read = a.unread.2 in
    let other = packets_as (form_of setup.config.reading setup.role) i j read.after same read.is in
    record {
      earlier = a.earlier;
      reader = a.reader;
      stands = a.stands;
      unread = (
        a.unread.0,
        a.unread.1,
        record {
          before = read.before;
          after = other.0;
          was = read.was;
          is = other.1;
          reads = subst (λ (payload : List ℕ). ahead setup.suite (packet_reader_data read.before) a.unread.0 ≡ whole payload (length (packet_reader_data read.before).held + length a.unread.0)) (sym waits.0) read.reads;
          left = other.2 ∙ read.left;
        },
      );
    }

pub asking_as : (setup : Setup) (old new : StateData) (i j : Input) (v w : Option WaitingData) (h s : List ℕ) → new ≡ old → IsSameInput (form_of setup.config.reading setup.role) i j → IsSameWaiting v w
    → AskingStands setup old i v h s → AskingStands setup new j w h s
asking_as setup old new i j v w h s kept same waits a = asking_as_here setup new i j v w h s same waits (subst (λ (k : StateData). AskingStands setup k i v h s) (sym kept) a)

-- what waits asks the same
asked_here : (end : EndData) (v w : Option WaitingData) → IsSameWaiting v w → asked_at end w ≡ asked_at end v
asked_here Open None None same = refl
asked_here Open None (Some w) same = absurd same
asked_here Open (Some v) None same = absurd same
asked_here Open (Some v) (Some w) same = ap Some same.1
asked_here (Authenticated a) v w same = refl
asked_here (Failed f) v w same = refl
asked_here (Closed n) v w same = refl
asked_here (Disconnected n) v w same = refl

pub asked_as : (end other : EndData) (v w : Option WaitingData) → other ≡ end → IsSameWaiting v w → asked_at other w ≡ asked_at end v
asked_as end other v w is same = ap (λ (e : EndData). asked_at e w) is ∙ asked_here end v w same

waits_at : (k : ℕ) (received : List ℕ) (p : Progress) → StandsOpen k received p → (left : ℕ) × (line : List ℕ) × (p ≡ Waits left line)
waits_at k received (Waits left line) stands = (left, line, refl)
waits_at k received Finished stands = absurd stands
waits_at k received (Refused code) stands = absurd stands

reading_in : (m : SuiteData) (role : Side) (config : ConfigData) (units : Units) (sizes rest : List ℕ) (i : Input) → IsInput m role config units sizes rest i → IsReading i
reading_in m role config units sizes rest (input.Lines r) is = waits_at (others_of role) rest r.state.progress is.1
reading_in m role config units sizes rest (input.Packets r) is = tt

-- an open endpoint with a history reads on
pub reading_of : (setup : Setup) (kept : StateData) (i : Input) (v : Option WaitingData) (h s : List ℕ) → kept.end ≡ Open → AskingStands setup kept i v h s → IsReading i
reading_of setup kept i None h s is a =
    subst IsReading a.unread.0 (reading_in setup.suite setup.role setup.config a.stands.units a.stands.sizes a.stands.rest a.reader (a.stands.inside (inl is)).reads)
reading_of setup kept i (Some w) h s is a = subst IsReading (sym a.unread.2.is) tt

-- what was made of a record goes on from there
pub goes_on : {S : Type 0} (meaning : S → SuiteData) (role : Side) (config : ConfigData) (suite : S) (bytes : List ℕ) (result : Result (PausedData S) RecordFault)
    → ((p : PausedData S) → IsRecorded meaning role config suite bytes p → IsMadeSo (λ q. IsSamePaused role config p q) result)
    → GoesOnFrom meaning role config suite bytes result
goes_on {S} meaning role config suite bytes result made = λ p d h s is fits after.
    let setup = setup_with (meaning suite) d role config in
    let reading = reading_of setup (kept_by config p) p.input p.waiting h s is.is_open after in
    as_far setup h s p after result (made p (record { fits = fits; reading = reading; is_record = is }))
  where
    as_far : (setup : Setup) (h s : List ℕ) (p : PausedData S) → PausedAfter setup p h s → (result : Result (PausedData S) RecordFault)
        → IsMadeSo (λ q. IsSamePaused setup.role setup.config p q) result → IsMadeSo (IsAsFar setup h s p) result
    as_far setup h s p after (Ok q) same = record {
      after = asking_as setup (kept_by setup.config p) (kept_by setup.config q) p.input q.input p.waiting q.waiting h s same.kept same.input same.waiting after;
      asks = asked_as _ _ p.waiting q.waiting (ap (λ (k : StateData). k.end) same.kept) same.waiting;
    }
    as_far setup h s p after (Err fault.Memory) same = tt
    as_far setup h s p after (Err fault.Version) same = absurd same
    as_far setup h s p after (Err fault.Unreadable) same = absurd same
