use Rattle.std.proofs.Common.{ap, subst}
use Rattle.sshcore.specs.Asking.{asking_end}
use Rattle.sshcore.specs.AskingData.{asking_setup}
use Rattle.sshcore.specs.EndData.{Authenticated, by_owner}
use Rattle.sshcore.specs.Replies.{Ends}
use Rattle.sshcore.proofs.AskingLawLemmas.{front_of, joined, later_of, received_of, waits_here}
use Rattle.sshcore.proofs.EndpointLemmas.{authenticated_strictly, cut_open}
use Rattle.sshcore.proofs.HistoryLemmas.{Streams}
use Rattle.sshcore.proofs.SessionLemmas.{uncut_end}
use Rattle.sshcore.proofs.asking_laws.asking_law.Goals as goal

pub returns-clause-joined : goal.returns-clause-joined
returns-clause-joined g c = λ same none other_none p q d.
    joined g.S.Suite.meaning d c.history_law.ensures.joined c.args.one.now c.args.other.now same none other_none p q

pub returns-clause-cut : goal.returns-clause-cut
returns-clause-cut g c = λ d h s a cut.
    cut_open (asking_setup g.S.Suite.meaning d c.args.one.now) a.stands.units a.stands.refusal a.stands.received_end
    (asking_end c.args.one.now) a.stands.history.replies.ends a.stands.ends (ap by_owner cut)

pub returns-clause-left : goal.returns-clause-left
returns-clause-left g c = λ d h s a reason left.
    cut_open (asking_setup g.S.Suite.meaning d c.args.one.now) a.stands.units a.stands.refusal a.stands.received_end
    (asking_end c.args.one.now) a.stands.history.replies.ends a.stands.ends (ap by_owner left)

pub returns-clause-strict : goal.returns-clause-strict
returns-clause-strict g c = λ d h s a.
    c.strict_law.ensures.keeps (asking_setup g.S.Suite.meaning d c.args.one.now) a.stands.units a.stands.refusal a.stands.received_end
    a.stands.history.replies.ends

pub returns-clause-authenticated : goal.returns-clause-authenticated
returns-clause-authenticated g c = λ d h s a agreed is.
    let setup = asking_setup g.S.Suite.meaning d c.args.one.now in
    let ends = subst (Ends setup a.stands.units a.stands.refusal) (uncut_end a.stands.received_end (asking_end c.args.one.now) agreed a.stands.ends is) a.stands.history.replies.ends in
    let authenticated = c.authentication_law.ensures.authenticated setup a.stands.units a.stands.refusal agreed ends in
    (authenticated, authenticated_strictly setup a.stands.units agreed (Authenticated agreed) (c.strict_law.ensures.keeps setup a.stands.units a.stands.refusal (Authenticated agreed) ends) authenticated)

pub returns-clause-joined_received : goal.returns-clause-joined_received
returns-clause-joined_received g c = λ same none other_none d.
    let streams : Streams = record {
      packets = c.parser_by_law.ensures.packets;
      lines = c.parser_by_law.ensures.lines;
      nothing = c.stream_law.ensures.nothing;
      unit = c.stream_law.ensures.received_unit;
      refusal = c.stream_law.ensures.received_refusal;
      part = c.stream_law.ensures.received_part;
      one = c.stream_law.ensures.one;
      front = c.stream_law.ensures.prefix;
      more = c.stream_law.ensures.read_more;
      sent = c.stream_law.ensures.sent_append;
    } in
    received_of g.S.Suite.meaning d streams c.args.one.now c.args.other.now same c.history_law.ensures.joined none other_none

pub returns-clause-front : goal.returns-clause-front
returns-clause-front g c = λ same is none d h more s t.
    let streams : Streams = record {
      packets = c.parser_by_law.ensures.packets;
      lines = c.parser_by_law.ensures.lines;
      nothing = c.stream_law.ensures.nothing;
      unit = c.stream_law.ensures.received_unit;
      refusal = c.stream_law.ensures.received_refusal;
      part = c.stream_law.ensures.received_part;
      one = c.stream_law.ensures.one;
      front = c.stream_law.ensures.prefix;
      more = c.stream_law.ensures.read_more;
      sent = c.stream_law.ensures.sent_append;
    } in
    front_of g.S.Suite.meaning d streams c.args.one.now c.args.other.now same h more s t is none

pub returns-clause-asks : goal.returns-clause-asks
returns-clause-asks g c = λ d h s a w waits is.
    let streams : Streams = record {
      packets = c.parser_by_law.ensures.packets;
      lines = c.parser_by_law.ensures.lines;
      nothing = c.stream_law.ensures.nothing;
      unit = c.stream_law.ensures.received_unit;
      refusal = c.stream_law.ensures.received_refusal;
      part = c.stream_law.ensures.received_part;
      one = c.stream_law.ensures.one;
      front = c.stream_law.ensures.prefix;
      more = c.stream_law.ensures.read_more;
      sent = c.stream_law.ensures.sent_append;
    } in
    let there = waits_here g.S.Suite.meaning d streams c.args.one.now c.question.ensures.packet h s a w waits is in
    (there.version, there.before, there.units_are, there.asks)

pub returns-clause-later : goal.returns-clause-later
returns-clause-later g c = λ same d h more s t.
    let streams : Streams = record {
      packets = c.parser_by_law.ensures.packets;
      lines = c.parser_by_law.ensures.lines;
      nothing = c.stream_law.ensures.nothing;
      unit = c.stream_law.ensures.received_unit;
      refusal = c.stream_law.ensures.received_refusal;
      part = c.stream_law.ensures.received_part;
      one = c.stream_law.ensures.one;
      front = c.stream_law.ensures.prefix;
      more = c.stream_law.ensures.read_more;
      sent = c.stream_law.ensures.sent_append;
    } in
    later_of g.S.Suite.meaning d streams c.args.one.now c.args.other.now same c.numbers_law.ensures.message_number c.question.ensures.packet c.question-2.ensures.packet h more s t
