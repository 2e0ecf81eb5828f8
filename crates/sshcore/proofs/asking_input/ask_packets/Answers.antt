use Rattle.std.proofs.Common.{◌<◌, ◌≤◌, ◌+◌, ℕ, true, List, [], rules, Ok, Err, Option, length, take, sym, ap, ◌∙◌, subst}
use Rattle.sshpacket.specs.declared.limits.TheConstants.{PACKET_LIMIT}
use Rattle.sshpacket.specs.Parse.{OfPacket, parse_packet, whole}
use Rattle.sshpacket.specs.PacketReaderData.{PacketReaderData, ParseAnswer, ReaderLeaves, last_used, packet_reader_data, protection_at}
use Rattle.sshcore.specs.declared.input.Input.TheVariants as input
use Rattle.sshcore.specs.AskingData.{WaitingData}
use Rattle.sshcore.specs.EndpointConfig.{config_data, role_of, setup_of}
use Rattle.sshcore.specs.EndpointParts.{setup_with}
use Rattle.sshcore.specs.Exchange.{keys_by}
use Rattle.sshcore.specs.Inputs.{Steps}
use Rattle.sshcore.specs.Standing.{exchange_received}
use Rattle.sshcore.specs.Keeping.{FitsConfig}
use Rattle.sshcore.specs.StateData.{StateData, state_data}
use Rattle.sshcore.specs.WaitingView.{waiting_data, waiting_of}
use Rattle.sshcore.specs.Unread.{TakesPacket}
use Rattle.sshcore.proofs.AskingLemmas.{no_decisions, reads_packet, unit_steps}
use Rattle.sshcore.proofs.LawsBelow.{Below}
use Rattle.sshcore.proofs.HistoryLemmas.{Streams}
use Rattle.sshcore.proofs.KeepingLemmas.{fits_after, fits_turned}
use Rattle.sshcore.proofs.ReadLemmas.{packets_part, packets_refused, refused_some}
use Rattle.sshcore.proofs.asking_input.ask_packets.Goals as goal

pub returns-in-Ok-More-clause-steps : goal.returns-in-Ok-More-clause-steps
returns-in-Ok-More-clause-steps g c = λ d.
    let m = g.S.Suite.meaning c.args.suite.now in
    let r = c.args.reader.now in
    let below : Below = record { numbers = c.numbers_law.ensures.message_number; alike = c.numbers_law.ensures.alike; right = c.markers_law.ensures.right } in
    let streams : Streams = record {
      packets = c.parser_by_law.ensures.packets;
      lines = c.parser_by_law.ensures.lines;
      nothing = c.stream_law.ensures.nothing;
      unit = c.stream_law.ensures.received_unit;
      refusal = c.stream_law.ensures.received_refusal;
      part = c.stream_law.ensures.received_part;
      one = c.stream_law.ensures.one;
      front = c.stream_law.ensures.prefix;
      more = c.stream_law.ensures.read_more;
      sent = c.stream_law.ensures.sent_append;
    } in
    let q = c.next.follows.lender-at-none in
    let came = c.in-Ok-More.is ∙ ap Ok c.in-Ok-More.field-0-is in
    packets_part below streams (setup_of m d c.args.config.now) r q (state_data c.args.state.now)
    c.args.piece.now c.args.sent.now.items c.args.sent.now.items c.requires.open
    (subst (λ x. ParseAnswer m (packet_reader_data r) c.args.piece.now (Ok x)) c.in-Ok-More.field-0-is (c.in-Ok-More.ensures.answers c.requires.reads))
    (subst (λ x. ReaderLeaves m (packet_reader_data r) c.args.piece.now x q) came (c.next.follows.holds-at-none.0 c.requires.reads)).0

pub returns-in-Some-clause-steps : goal.returns-in-Some-clause-steps
returns-in-Some-clause-steps g c =
    let m = g.S.Suite.meaning c.args.suite.now in
    let r = c.args.reader.now in
    let p = c.next.follows.lender-at-none in
    let came = c.in-Ok-Payload.is ∙ ap Ok c.in-Ok-Payload.field-0-is in
    let answer = subst (λ x. ParseAnswer m (packet_reader_data r) c.args.piece.now (Ok x)) c.in-Ok-Payload.field-0-is (c.in-Ok-Payload.ensures.answers c.requires.reads) in
    let leaves = subst (λ x. ReaderLeaves m (packet_reader_data r) c.args.piece.now x p) came (c.next.follows.holds-at-none.0 c.requires.reads) in
    let w : WaitingData = waiting_data c.in-Some.waiting in
    let short : length c.in-Ok-Payload.payload.now ≤ PACKET_LIMIT = search rules in
    let role = role_of c.args.config.now in
    let config = config_data c.args.config.now in
    let takes = subst (λ (o : Option WaitingData). TakesPacket m role config (state_data c.args.state.now) (state_data c.take_packet.new.state) c.in-Ok-Payload.seq c.in-Ok-Payload.payload.now c.args.sent.now.items c.take_packet.new.sent.items o)
    (ap waiting_of c.in-Some.is) c.in_ok-waiting-in-Ok-Payload.ensures.takes in
    record {
      same = takes.0;
      nothing_sent = takes.1;
      reads = reads_packet m r p (c.parser_by_law.ensures.packets (protection_at m (packet_reader_data r))) c.args.piece.now c.in-Ok-Payload.used w answer.0
          (answer.1 ∙ ap (λ (l : List ℕ). whole l (length (packet_reader_data r).held + c.in-Ok-Payload.used)) (sym takes.2)) leaves.0;
      asked = record {
        is_open = ap (λ (k : StateData). k.end) takes.0 ∙ c.requires.open;
        idle = ap (λ (t : PacketReaderData). t.held) leaves.0;
        short = subst (λ (l : List ℕ). length l ≤ PACKET_LIMIT) (sym takes.2) short;
        asks = takes.3;
        keeps = takes.4;
      };
    }

pub returns-in-None-clause-steps : goal.returns-in-None-clause-steps
returns-in-None-clause-steps g c = λ d.
    let m = g.S.Suite.meaning c.args.suite.now in
    let r = c.args.reader.now in
    let below : Below = record { numbers = c.numbers_law.ensures.message_number; alike = c.numbers_law.ensures.alike; right = c.markers_law.ensures.right } in
    let streams : Streams = record {
      packets = c.parser_by_law.ensures.packets;
      lines = c.parser_by_law.ensures.lines;
      nothing = c.stream_law.ensures.nothing;
      unit = c.stream_law.ensures.received_unit;
      refusal = c.stream_law.ensures.received_refusal;
      part = c.stream_law.ensures.received_part;
      one = c.stream_law.ensures.one;
      front = c.stream_law.ensures.prefix;
      more = c.stream_law.ensures.read_more;
      sent = c.stream_law.ensures.sent_append;
    } in
    let p = c.next.follows.lender-at-none in
    let came = c.in-Ok-Payload.is ∙ ap Ok c.in-Ok-Payload.field-0-is in
    let answer = subst (λ x. ParseAnswer m (packet_reader_data r) c.args.piece.now (Ok x)) c.in-Ok-Payload.field-0-is (c.in-Ok-Payload.ensures.answers c.requires.reads) in
    let leaves = subst (λ x. ReaderLeaves m (packet_reader_data r) c.args.piece.now x p) came (c.next.follows.holds-at-none.0 c.requires.reads) in
    let role = role_of c.args.config.now in
    let config = config_data c.args.config.now in
    let old = state_data c.args.state.now in
    let takes = subst (λ (o : Option WaitingData). TakesPacket m role config old (state_data c.take_packet.new.state) c.in-Ok-Payload.seq c.in-Ok-Payload.payload.now c.args.sent.now.items c.take_packet.new.sent.items o)
    (ap waiting_of c.in-None.is) c.in_ok-waiting-in-Ok-Payload.ensures.takes in
    unit_steps below streams m role config old (state_data c.take_packet.new.state) (state_data c.turn.new.state) c.args.sent.now.items c.take_packet.new.sent.items c.requires.open
    r p c.turn.new.reader c.args.piece.now c.in-Ok-Payload.payload.now c.in-Ok-Payload.used c.in-Ok-Payload.seq answer.0 answer.1 answer.2 leaves.0 d (takes.1 d) c.turn.ensures.turns

pub returns-in_ok-fail_packet-in-Err-clause-steps : goal.returns-in_ok-fail_packet-in-Err-clause-steps
returns-in_ok-fail_packet-in-Err-clause-steps g c = λ d.
    let m = g.S.Suite.meaning c.args.suite.now in
    let r = c.args.reader.now in
    let below : Below = record { numbers = c.numbers_law.ensures.message_number; alike = c.numbers_law.ensures.alike; right = c.markers_law.ensures.right } in
    let streams : Streams = record {
      packets = c.parser_by_law.ensures.packets;
      lines = c.parser_by_law.ensures.lines;
      nothing = c.stream_law.ensures.nothing;
      unit = c.stream_law.ensures.received_unit;
      refusal = c.stream_law.ensures.received_refusal;
      part = c.stream_law.ensures.received_part;
      one = c.stream_law.ensures.one;
      front = c.stream_law.ensures.prefix;
      more = c.stream_law.ensures.read_more;
      sent = c.stream_law.ensures.sent_append;
    } in
    let q = c.next.follows.lender-at-none in
    let came = c.in-Err.is ∙ ap Err c.in-Err.fault-is in
    let leaves = subst (λ x. ReaderLeaves m (packet_reader_data r) c.args.piece.now x q) came (c.next.follows.holds-at-none.0 c.requires.reads) in
    let told = c.in_ok-fail_packet-in-Err.ensures in
    let setup = setup_of m d c.args.config.now in
    let old = state_data c.args.state.now in
    let next = keys_by m old.known.algorithms (exchange_received m setup.role setup.config old.known []) setup.role in
    subst (λ (n : ℕ). Steps setup (input.Packets r) old (input.Packets q) (state_data c.fail_packet.new.state) (take n c.args.piece.now) c.args.sent.now.items c.fail_packet.new.sent.items) (sym c.taken-used.ensures)
    (packets_refused below streams setup r q old c.args.piece.now c.args.sent.now.items c.fail_packet.new.sent.items c.requires.open
    (state_data c.fail_packet.new.state) (last_used q) c.in-Err.fault true next leaves.1 (leaves.2 told.refused) (told.gives true next))

pub returns-in_ok-fail_packet-in-Err-clause-used : goal.returns-in_ok-fail_packet-in-Err-clause-used
returns-in_ok-fail_packet-in-Err-clause-used g c =
    let m = g.S.Suite.meaning c.args.suite.now in
    let r = c.args.reader.now in
    let q = c.next.follows.lender-at-none in
    let came = c.in-Err.is ∙ ap Err c.in-Err.fault-is in
    let leaves = subst (λ x. ReaderLeaves m (packet_reader_data r) c.args.piece.now x q) came (c.next.follows.holds-at-none.0 c.requires.reads) in
    let ahead_is = leaves.2 c.in_ok-fail_packet-in-Err.ensures.refused in
    let used_is = c.taken-used.ensures in (
      subst (λ (n : ℕ). 0 < n) (sym used_is)
          (refused_some (parse_packet (protection_at m (packet_reader_data r))) (c.parser_by_law.ensures.packets (protection_at m (packet_reader_data r))) (packet_reader_data r).held c.args.piece.now (last_used q) (OfPacket c.in-Err.fault) c.requires.reads.unfinished_is ahead_is),
      subst (λ (n : ℕ). n ≤ length c.args.piece.now) (sym used_is) leaves.1,
    )

pub returns-in-None-clause-keeps : goal.returns-in-None-clause-keeps
returns-in-None-clause-keeps g c =
    let m = g.S.Suite.meaning c.args.suite.now in
    let below : Below = record { numbers = c.numbers_law.ensures.message_number; alike = c.numbers_law.ensures.alike; right = c.markers_law.ensures.right } in
    let role = role_of c.args.config.now in
    let config = config_data c.args.config.now in
    let old = state_data c.args.state.now in
    let new = state_data c.take_packet.new.state in
    let takes = subst (λ (o : Option WaitingData). TakesPacket m role config old new c.in-Ok-Payload.seq c.in-Ok-Payload.payload.now c.args.sent.now.items c.take_packet.new.sent.items o)
    (ap waiting_of c.in-None.is) c.in_ok-waiting-in-Ok-Payload.ensures.takes in
    fits_turned m config old new (state_data c.turn.new.state) c.next.follows.lender-at-none c.turn.new.reader c.turn.ensures.turns
    (fits_after below (setup_with m no_decisions role config) c.in-Ok-Payload.payload.now old new c.in-Ok-Payload.seq c.args.sent.now.items c.take_packet.new.sent.items
    (λ fits. takes.1 no_decisions fits.form))

pub returns-in-Some-clause-keeps : goal.returns-in-Some-clause-keeps
returns-in-Some-clause-keeps g c =
    let m = g.S.Suite.meaning c.args.suite.now in
    let role = role_of c.args.config.now in
    let config = config_data c.args.config.now in
    let old = state_data c.args.state.now in
    let takes = subst (λ (o : Option WaitingData). TakesPacket m role config old (state_data c.take_packet.new.state) c.in-Ok-Payload.seq c.in-Ok-Payload.payload.now c.args.sent.now.items c.take_packet.new.sent.items o)
    (ap waiting_of c.in-Some.is) c.in_ok-waiting-in-Ok-Payload.ensures.takes in
    λ fits ongoing. subst (λ (k : StateData). FitsConfig m config k) (sym takes.0) fits
