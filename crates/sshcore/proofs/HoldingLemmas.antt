-- A paused endpoint that has received more, of which nothing has come yet.

use Rattle.std.proofs.Common.{◌≡◌, ◌∙◌, ◌<◌, ◌≤◌, ◌-◌, ◌^◌, ℕ, List, [], ◌++◌, Option, None, Some, ap, arith, inl, length, refl, subst, sym}
use Rattle.sshneg.specs.declared.side.Side.{Side}
use Rattle.sshpacket.specs.PacketReaderData.{PacketReaderData, ReaderWaits, missing_of, packet_reader_data}
use Rattle.sshpacket.specs.Suite.{SuiteData}
use Rattle.sshpacket.proofs.WaitLemmas as wait
use Rattle.sshcore.specs.declared.input.Input.{Input}
use Rattle.sshcore.specs.declared.input.Input.TheVariants as input
use Rattle.sshcore.specs.declared.record_fault.TheConstants.{RECORD_LIMIT}
use Rattle.sshcore.specs.AskingData.{WaitingData}
use Rattle.sshcore.specs.EndpointParts.{ConfigData, setup_with}
use Rattle.sshcore.specs.Inputs.{EndpointStands}
use Rattle.sshcore.specs.Paused.{FitsPaused, PausedData, kept_by, paused_end}
use Rattle.sshcore.specs.Record.{HasLine, IsRecordOf, packets_of, record_of}
use Rattle.sshcore.specs.RecordData.{held_in}
use Rattle.sshcore.specs.RecordHolding.{IsHolding}
use Rattle.sshcore.specs.RecordText.{FitsReader, IsShort, body_text, record_bytes, waits_text}
use Rattle.sshcore.proofs.AskedNothing.{asked_none}
use Rattle.sshcore.proofs.LawsBelow.{Below}
use Rattle.sshcore.proofs.HistoryLemmas.{Streams}
use Rattle.sshcore.proofs.ReadLemmas.{packets_held}

module _ {S : Type 0} (below : Below) (streams : Streams) (meaning : S → SuiteData) (role : Side) (config : ConfigData) (suite : S) (piece new : List ℕ) (base : PausedData S) where
  -- with this reader, and where this packet waits
  abbrev pub with_input : Input → Option WaitingData → PausedData S
  with_input i w = record base { input = i; waiting = w }

  holding_at : (i : Input) (w : Option WaitingData) (text : List ℕ) → IsRecordOf text (with_input i w) → FitsPaused meaning role config suite (with_input i w)
      → length piece < (record_of (with_input i w)).missing
      → new ≡ waits_text ((record_of (with_input i w)).missing - length piece) (held_in (record_of (with_input i w)).reader ++ piece) (body_text (record_of (with_input i w)) [])
      → IsShort (held_in (record_of (with_input i w)).reader ++ piece) → length new ≤ RECORD_LIMIT → IsHolding meaning role config suite piece new (with_input i w)
  holding_at (input.Lines r) None text is fits few new_is short limit = absurd (omega arith)
  holding_at i (Some w) text is fits few new_is short limit = absurd (omega arith)
  holding_at (input.Packets r) None text is fits few new_is short limit =
      let m = meaning suite in
      let waits : ReaderWaits m r = fits.fits.reads (inl is.is_open) in
      let q = wait.holding m r piece waits few in
      let more : packet_reader_data q ≡ record (packet_reader_data r) { held = (packet_reader_data r).held ++ piece } = wait.holding_more m r piece waits few in
      let fewer : missing_of q ≡ missing_of r - length piece = wait.holding_fewer m r piece waits few in
      let low : missing_of r < 2 ^ 32 = is.written.missing in
      let kept = kept_by config base in
      record {
        endpoint = with_input (input.Packets q) None;
        is_record = record {
          is_open = is.is_open;
          written = record {
            missing = omega arith;
            held = subst (λ (t : PacketReaderData). IsShort t.held) (sym more) short;
            left = is.written.left;
            exchange = is.written.exchange;
            authentication = is.written.authentication;
            carried = is.written.carried;
            sending = is.written.sending;
            reader = subst (λ (t : PacketReaderData). FitsReader (packets_of t)) (sym more) is.written.reader;
            waiting = tt;
          };
          texts = record {
            algorithms = is.texts.algorithms;
            user = is.texts.user;
            service = is.texts.service;
            pending = is.texts.pending;
            user_key = is.texts.user_key;
            keys = is.texts.keys;
            line = subst (λ (t : PacketReaderData). HasLine (packets_of t)) (sym more) is.texts.line;
          };
          bytes_are = new_is
              ∙ (ap (λ (t : PacketReaderData). record_bytes (record (record_of (with_input (input.Packets r) None)) { missing = missing_of r - length piece; reader = packets_of t })) (sym more)
              ∙ ap (λ (n : ℕ). record_bytes (record (record_of (with_input (input.Packets r) None)) { missing = n; reader = packets_of (packet_reader_data q) })) (sym fewer));
          short = limit;
        };
        fits = record {
          is_role = fits.is_role;
          is_config = fits.is_config;
          is_suite = fits.is_suite;
          fits = record { reads = λ ongoing. wait.holding_waits m r piece waits few; asked = tt; keeps = fits.fits.keeps };
        };
        after = λ d h s a.
            let setup = setup_with m d role config in
            let stands = subst (λ (x : Input). EndpointStands setup kept x h s) a.unread.0 (subst (λ (x : List ℕ). EndpointStands setup kept a.reader x s) a.unread.1 a.stands) in
            record {
              earlier = h ++ piece;
              reader = input.Packets q;
              stands = packets_held below streams setup r q kept piece [] [] is.is_open (wait.fewer_unfinished m r piece waits few) more h s stands;
              unread = (refl, refl);
            };
        asks = asked_none (paused_end base);
      }

-- of the record of an endpoint
pub holding_so : {S : Type 0} → Below → Streams → (meaning : S → SuiteData) (role : Side) (config : ConfigData) (suite : S) (piece new : List ℕ) (p : PausedData S) (text : List ℕ) → IsRecordOf text p → FitsPaused meaning role config suite p
    → length piece < (record_of p).missing → new ≡ waits_text ((record_of p).missing - length piece) (held_in (record_of p).reader ++ piece) (body_text (record_of p) [])
    → IsShort (held_in (record_of p).reader ++ piece) → length new ≤ RECORD_LIMIT → IsHolding meaning role config suite piece new p
holding_so below streams meaning role config suite piece new p text is fits few new_is short limit =
    holding_at below streams meaning role config suite piece new p p.input p.waiting text is fits few new_is short limit

-- the same front
pub same_waits : (n m : ℕ) (a b : List ℕ) (x y : List ℕ) → n ≡ m → a ≡ b → x ≡ y → waits_text n a x ≡ waits_text m b y
same_waits n m a b x y e f g =
    ap (λ (k : ℕ). waits_text k a x) e ∙ (ap (λ (l : List ℕ). waits_text m l x) f ∙ ap (λ (l : List ℕ). waits_text m b l) g)
