use Rattle.std.proofs.Common.{[], take, sym, ap, ◌∙◌, subst}
use Rattle.sshwire.specs.Feeding.{StandsOpen}
use Rattle.sshwire.specs.LineReaderData.{PeerLineReaderData}
use Rattle.sshcore.specs.declared.input.Input.{Input}
use Rattle.sshcore.specs.declared.input.Input.TheVariants as input
use Rattle.sshcore.specs.EndpointConfig.{setup_of}
use Rattle.sshcore.specs.Exchange.{keys_by}
use Rattle.sshcore.specs.Inputs.{Steps}
use Rattle.sshcore.specs.StateData.{state_data}
use Rattle.sshcore.specs.Standing.{exchange_received}
use Rattle.sshcore.proofs.LawsBelow.{Below}
use Rattle.sshcore.proofs.HistoryLemmas.{Streams}
use Rattle.sshcore.proofs.LineLemmas.{LineLaws, lines_part, lines_refused, lines_whole, named_lines}
use Rattle.sshcore.proofs.input.Input.receive_asking.Goals as goal

pub returns-in-Whole-clause-steps : goal.returns-in-Whole-clause-steps
returns-in-Whole-clause-steps g c = λ d.
    let below : Below = record { numbers = c.numbers_law.ensures.message_number; alike = c.numbers_law.ensures.alike; right = c.markers_law.ensures.right } in
    let streams : Streams = record {
      packets = c.parser_by_law.ensures.packets;
      lines = c.parser_by_law.ensures.lines;
      nothing = c.stream_law.ensures.nothing;
      unit = c.stream_law.ensures.received_unit;
      refusal = c.stream_law.ensures.received_refusal;
      part = c.stream_law.ensures.received_part;
      one = c.stream_law.ensures.one;
      front = c.stream_law.ensures.prefix;
      more = c.stream_law.ensures.read_more;
      sent = c.stream_law.ensures.sent_append;
    } in
    let laws : LineLaws = record { only = c.parser_by_law.ensures.only; preamble = c.parser_by_law.ensures.preamble } in
    let setup = setup_of (g.S.Suite.meaning c.args.suite.now) d c.args.config.now in
    let kept = state_data c.args.state.now in
    let last = state_data c.receive_lines.new.state in
    let next = keys_by setup.suite kept.known.algorithms (exchange_received setup.suite setup.role setup.config kept.known []) setup.role in
    let old = c.in-Lines.reader in
    let new = c.receive_lines.new.reader in
    let used = c.in-Whole.used in
    subst (λ (i : Input). Steps setup i kept (input.Packets c.new.result) last (take used c.args.piece.now) c.args.sent.now.items c.args.sent.now.items) (sym (c.in-Lines.is ∙ ap input.Lines c.in-Lines.reader-is))
    (lines_whole laws below streams setup next old kept c.args.piece.now c.args.sent.now.items c.requires.open new c.new.result last used
    (λ k bytes o. named_lines k bytes new kept last c.args.piece.now c.in-Lines.reader-is c.in-Whole.is (c.in_ok-received-in-Lines.ensures.lines k bytes (subst (λ (r : PeerLineReaderData). StandsOpen k bytes r.state.progress) (sym c.in-Lines.reader-is) o))) c.new.ensures.state)

pub returns-in-Part-clause-steps : goal.returns-in-Part-clause-steps
returns-in-Part-clause-steps g c = λ d.
    let below : Below = record { numbers = c.numbers_law.ensures.message_number; alike = c.numbers_law.ensures.alike; right = c.markers_law.ensures.right } in
    let streams : Streams = record {
      packets = c.parser_by_law.ensures.packets;
      lines = c.parser_by_law.ensures.lines;
      nothing = c.stream_law.ensures.nothing;
      unit = c.stream_law.ensures.received_unit;
      refusal = c.stream_law.ensures.received_refusal;
      part = c.stream_law.ensures.received_part;
      one = c.stream_law.ensures.one;
      front = c.stream_law.ensures.prefix;
      more = c.stream_law.ensures.read_more;
      sent = c.stream_law.ensures.sent_append;
    } in
    let laws : LineLaws = record { only = c.parser_by_law.ensures.only; preamble = c.parser_by_law.ensures.preamble } in
    let setup = setup_of (g.S.Suite.meaning c.args.suite.now) d c.args.config.now in
    let kept = state_data c.args.state.now in
    let last = state_data c.receive_lines.new.state in
    let next = keys_by setup.suite kept.known.algorithms (exchange_received setup.suite setup.role setup.config kept.known []) setup.role in
    let old = c.in-Lines.reader in
    let new = c.receive_lines.new.reader in
    let used = c.in-Part.used in
    subst (λ (i : Input). Steps setup i kept (input.Lines new) last (take used c.args.piece.now) c.args.sent.now.items c.args.sent.now.items) (sym (c.in-Lines.is ∙ ap input.Lines c.in-Lines.reader-is))
    (lines_part laws below streams setup next old kept c.args.piece.now c.args.sent.now.items c.requires.open new last used
    (λ k bytes o. named_lines k bytes new kept last c.args.piece.now c.in-Lines.reader-is c.in-Part.is (c.in_ok-received-in-Lines.ensures.lines k bytes (subst (λ (r : PeerLineReaderData). StandsOpen k bytes r.state.progress) (sym c.in-Lines.reader-is) o)))
    (c.receive_lines.ensures.form ∙ ap (λ (r : PeerLineReaderData). r.form) c.in-Lines.reader-is))

pub returns-in-Refused-clause-steps : goal.returns-in-Refused-clause-steps
returns-in-Refused-clause-steps g c = λ d.
    let below : Below = record { numbers = c.numbers_law.ensures.message_number; alike = c.numbers_law.ensures.alike; right = c.markers_law.ensures.right } in
    let streams : Streams = record {
      packets = c.parser_by_law.ensures.packets;
      lines = c.parser_by_law.ensures.lines;
      nothing = c.stream_law.ensures.nothing;
      unit = c.stream_law.ensures.received_unit;
      refusal = c.stream_law.ensures.received_refusal;
      part = c.stream_law.ensures.received_part;
      one = c.stream_law.ensures.one;
      front = c.stream_law.ensures.prefix;
      more = c.stream_law.ensures.read_more;
      sent = c.stream_law.ensures.sent_append;
    } in
    let laws : LineLaws = record { only = c.parser_by_law.ensures.only; preamble = c.parser_by_law.ensures.preamble } in
    let setup = setup_of (g.S.Suite.meaning c.args.suite.now) d c.args.config.now in
    let kept = state_data c.args.state.now in
    let last = state_data c.receive_lines.new.state in
    let next = keys_by setup.suite kept.known.algorithms (exchange_received setup.suite setup.role setup.config kept.known []) setup.role in
    let old = c.in-Lines.reader in
    let new = c.receive_lines.new.reader in
    let used = c.in-Refused.used in
    subst (λ (i : Input). Steps setup i kept (input.Lines new) last (take used c.args.piece.now) c.args.sent.now.items c.args.sent.now.items) (sym (c.in-Lines.is ∙ ap input.Lines c.in-Lines.reader-is))
    (lines_refused laws below streams setup next old kept c.args.piece.now c.args.sent.now.items c.requires.open new (input.Lines new) last used
    (λ k bytes o. named_lines k bytes new kept last c.args.piece.now c.in-Lines.reader-is c.in-Refused.is (c.in_ok-received-in-Lines.ensures.lines k bytes (subst (λ (r : PeerLineReaderData). StandsOpen k bytes r.state.progress) (sym c.in-Lines.reader-is) o))))
