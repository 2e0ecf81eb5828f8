-- What the reader of an endpoint answers, at an endpoint that stands open.

use Rattle.std.proofs.Common.{◌≡◌, ℕ, zero, suc, ◌+◌, ◌<◌, ◌≤◌, List, [], ◌∷◌, ◌++◌, length, take, Option, None, Some, refl, sym, ap, ◌∙◌, subst, arith}
use Rattle.std.specs.Prelude.{◌%◌, ◌^◌, Bool, if◌then◌else◌}
use Rattle.std.proofs.lemmas.List.{append-nil}
use Rattle.std.proofs.Math.Seq.{take-append-add, take-length}
use Rattle.sshneg.specs.declared.side.Side.{Side}
use Rattle.sshpacket.specs.declared.fault.PacketFault.{PacketFault}
use Rattle.sshpacket.specs.declared.reader.PacketReader.{PacketReader}
use Rattle.sshpacket.specs.KeysData.{KeysData}
use Rattle.sshpacket.specs.Parse.{OfPacket, Refusal, refused, unfinished, whole}
use Rattle.sshpacket.specs.PacketReaderData.{PacketReaderData, ahead, packet_reader_data}
use Rattle.sshpacket.specs.Stream.{IsIncremental, Parser, Units}
use Rattle.sshpacket.specs.Suite.{SuiteData, next_keys}
use Rattle.sshcore.specs.declared.input.Input.TheVariants as input
use Rattle.sshcore.specs.Brings.{Brings, Gives}
use Rattle.sshcore.specs.Counting.{number_in}
use Rattle.sshcore.specs.Directions.{keys_in, parsers}
use Rattle.sshcore.specs.EndData.{Open, fails}
use Rattle.sshcore.specs.Exchanged.{HasForm}
use Rattle.sshcore.specs.Inputs.{EndpointStands, Steps}
use Rattle.sshcore.specs.StateData.{StateData, keys_due, keys_left}
use Rattle.sshcore.specs.EndpointParts.{ConfigData, Setup}
use Rattle.sshcore.specs.Replies.{fault_of}
use Rattle.sshcore.proofs.LawsBelow.{Below}
use Rattle.sshcore.proofs.FeedLemmas.{stands_part, stands_refused, stands_unit, within}
use Rattle.sshcore.proofs.HistoryLemmas.{Streams}
use Rattle.sshcore.proofs.MoveLemmas.{keys_with, number_with}
use Rattle.sshcore.proofs.UncutLemmas.{open_stays}

-- the reader after a packet, once the keys that are due are set
abbrev pub reader_with : Option KeysData → Bool → PacketReaderData → PacketReaderData
reader_with None strict r = r
reader_with (Some keys) strict r = record r { keys = Some keys; seq = if strict then 0 else r.seq }

-- what is read after these units is read as the reader reads
pub read_as : (m : SuiteData) (role : Side) (config : ConfigData) (units : Units) (version : List ℕ) (before : Units) (sizes rest piece : List ℕ) (r : PacketReaderData) → units ≡ version ∷ before
    → r ≡ record { keys = keys_in m role config version before sizes; seq = number_in role config before; held = rest; fault = None }
    → parsers m role config units sizes (rest ++ piece) ≡ ahead m r piece
read_as m role config units version before sizes rest piece r e f =
    ap (λ (us : Units). parsers m role config us sizes (rest ++ piece)) e ∙ sym (ap (λ (t : PacketReaderData). ahead m t piece) f)

-- what is refused after unfinished bytes, is refused for some bytes of the piece
pub refused_some : (parser : Parser) → IsIncremental parser → (rest piece : List ℕ) (used : ℕ) (r : Refusal) → parser rest ≡ unfinished → parser (rest ++ piece) ≡ refused r (length rest + used) → 0 < used
refused_some parser inc rest piece zero r e f =
    let again : parser (take (length rest + zero) (rest ++ piece)) ≡ refused r (length rest + zero) = (inc.refused_again (rest ++ piece) r (length rest + zero) f).1 in
    let same : take (length rest + zero) (rest ++ piece) ≡ rest = take-append-add rest piece zero ∙ append-nil rest in
    absurd (apart r (length rest + zero) (sym e ∙ sym (ap parser same) ∙ again))
  where
    apart : (r : Refusal) (n : ℕ) → unfinished ≡ refused r n → ⊥
    apart r n e = absurd cc
refused_some parser inc rest piece (suc used) r e f = omega arith

module _ (below : Below) (streams : Streams) (setup : Setup) (r q : PacketReader) (kept : StateData) (piece before after : List ℕ) (is : kept.end ≡ Open) where
  -- more bytes are wanted: all that came are held
  pub packets_held : ahead setup.suite (packet_reader_data r) piece ≡ unfinished → packet_reader_data q ≡ record (packet_reader_data r) { held = (packet_reader_data r).held ++ piece }
      → (h s : List ℕ) → EndpointStands setup kept (input.Packets r) h s → EndpointStands setup kept (input.Packets q) (h ++ piece) s
  packets_held e left h s a =
      let i = within below streams setup kept (input.Packets r) h s is a in
      let x = i.reads in
      let seen : parsers setup.suite setup.role setup.config a.units a.sizes (a.rest ++ piece) ≡ unfinished = read_as setup.suite setup.role setup.config a.units x.0 x.1 a.sizes a.rest piece (packet_reader_data r) x.2 x.3 ∙ e in
      let held : packet_reader_data q ≡ record { keys = keys_in setup.suite setup.role setup.config x.0 x.1 a.sizes; seq = number_in setup.role setup.config x.1; held = a.rest ++ piece; fault = None } =
      left ∙ ap (λ (t : PacketReaderData). record t { held = t.held ++ piece }) x.3 in
      stands_part below streams setup kept (input.Packets r) h s is a (input.Packets q) piece seen (x.0, x.1, x.2, held)

  pub packets_part : ahead setup.suite (packet_reader_data r) piece ≡ unfinished → packet_reader_data q ≡ record (packet_reader_data r) { held = (packet_reader_data r).held ++ piece }
      → Steps setup (input.Packets r) kept (input.Packets q) kept (take (length piece) piece) before before
  packets_part e left h s a =
      record {
        added = [];
        appended = sym (append-nil before);
        stands = subst (λ (t : List ℕ). EndpointStands setup kept (input.Packets q) (h ++ t) (s ++ [])) (sym (take-length piece))
            (subst (λ (t : List ℕ). EndpointStands setup kept (input.Packets q) (h ++ piece) t) (sym (append-nil s))
            (packets_held e left h s a));
        uncut = open_stays kept.end is;
      }

  -- the packet is refused
  pub packets_refused : (new : StateData) (used : ℕ) (f : PacketFault) (strict : Bool) (next : KeysData) → used ≤ length piece
      → ahead setup.suite (packet_reader_data r) piece ≡ refused (OfPacket f) (length (packet_reader_data r).held + used) → Gives setup.suite setup.config.seed strict next kept new before after (fails (fault_of (OfPacket f)))
      → Steps setup (input.Packets r) kept (input.Packets q) new (take used piece) before after
  packets_refused new used f strict next low e gives h s a =
      let i = within below streams setup kept (input.Packets r) h s is a in
      let x = i.reads in
      let seen : parsers setup.suite setup.role setup.config a.units a.sizes (a.rest ++ piece) ≡ refused (OfPacket f) (length a.rest + used) =
      read_as setup.suite setup.role setup.config a.units x.0 x.1 a.sizes a.rest piece (packet_reader_data r) x.2 x.3 ∙ e ∙ ap (λ (t : PacketReaderData). refused (OfPacket f) (length t.held + used)) x.3 in
      stands_refused below streams setup kept (input.Packets r) h s is a new (input.Packets q) piece used (OfPacket f) before after strict next low seen gives

  -- a packet was read, and answered
  pub packets_unit : (p : PacketReader) (new last : StateData) (used packet : ℕ) (payload : List ℕ) → used ≤ length piece
      → ahead setup.suite (packet_reader_data r) piece ≡ whole payload (length (packet_reader_data r).held + used) → packet ≡ (packet_reader_data r).seq
      → packet_reader_data p ≡ record (packet_reader_data r) { keys = next_keys setup.suite (packet_reader_data r).keys (length (packet_reader_data r).held + used); held = []; seq = ((packet_reader_data r).seq + 1) % 2 ^ 32 }
      → (HasForm setup.suite kept → Brings setup kept new packet payload before after)
      → last.end ≡ new.end → last.phase ≡ new.phase → last.guess ≡ new.guess → last.known ≡ new.known → last.sending ≡ new.sending
      → last.carried ≡ record new.carried { pending = keys_left new.phase new.carried.pending }
      → packet_reader_data q ≡ reader_with (keys_due new.phase new.carried.pending) new.known.strict (packet_reader_data p)
      → Steps setup (input.Packets r) kept (input.Packets q) last (take used piece) before after
  packets_unit p new last used packet payload low e number left brings same_end same_phase same_guess same_known same_sending carried set h s a =
      let i = within below streams setup kept (input.Packets r) h s is a in
      let x = i.reads in
      let seen : parsers setup.suite setup.role setup.config a.units a.sizes (a.rest ++ piece) ≡ whole payload (length a.rest + used) =
      read_as setup.suite setup.role setup.config a.units x.0 x.1 a.sizes a.rest piece (packet_reader_data r) x.2 x.3 ∙ e ∙ ap (λ (t : PacketReaderData). whole payload (length t.held + used)) x.3 in
      let number_is : packet ≡ number_in setup.role setup.config x.1 = number ∙ ap (λ (t : PacketReaderData). t.seq) x.3 in
      let size : ℕ = length a.rest + used in
      let keys : Option KeysData = next_keys setup.suite (keys_in setup.suite setup.role setup.config x.0 x.1 a.sizes) size in
      let held : packet_reader_data p ≡ record { keys = keys; seq = (number_in setup.role setup.config x.1 + 1) % 2 ^ 32; held = []; fault = None } =
      left ∙ ap (λ (t : PacketReaderData). record t { keys = next_keys setup.suite t.keys (length t.held + used); held = []; seq = (t.seq + 1) % 2 ^ 32 }) x.3 in
      stands_unit below streams setup kept (input.Packets r) h s is a x.0 x.1 x.2 new last (input.Packets q) piece payload used packet before after low seen number_is
      (brings i.form) same_end same_phase same_guess same_known same_sending carried
      (λ keys_are seq_is. (
        x.0,
        x.1 ++ payload ∷ [],
        ap (λ (us : Units). us ++ payload ∷ []) x.2,
        set ∙ ap (λ (t : PacketReaderData). reader_with (keys_due new.phase new.carried.pending) new.known.strict t) held
            ∙ with_keys (keys_due new.phase new.carried.pending) new.known.strict keys (number_in setup.role setup.config x.1)
            ∙ ap (λ (k : Option KeysData). record { keys = k; seq = number_with (keys_due new.phase new.carried.pending) new.known.strict (number_in setup.role setup.config x.1); held = []; fault = None }) (sym keys_are)
            ∙ ap (λ (n : ℕ). record { keys = keys_in setup.suite setup.role setup.config x.0 (x.1 ++ payload ∷ []) (a.sizes ++ size ∷ []); seq = n; held = []; fault = None }) (sym seq_is),
      ))
    where
      with_keys : (k : Option KeysData) (strict : Bool) (keys : Option KeysData) (n : ℕ)
          → reader_with k strict (record { keys = keys; seq = (n + 1) % 2 ^ 32; held = []; fault = None }) ≡ record { keys = keys_with k keys; seq = number_with k strict n; held = []; fault = None }
      with_keys None strict keys n = refl
      with_keys (Some k) strict keys n = refl
