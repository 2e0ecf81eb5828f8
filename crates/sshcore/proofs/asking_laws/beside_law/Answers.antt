use Rattle.sshcore.proofs.AskingLawLemmas.{front_beside, joined_beside}
use Rattle.sshcore.proofs.DialogueLemmas.{stands_by}
use Rattle.sshcore.proofs.HistoryLemmas.{Streams}
use Rattle.sshcore.proofs.asking_laws.beside_law.Goals as goal

pub returns-clause-joined : goal.returns-clause-joined
returns-clause-joined g c = λ beside none p q.
    joined_beside g.S.Suite.meaning g.D.Decisions.policy c.history_law.ensures.joined c.args.asking.now c.args.endpoint.now beside none p q

pub returns-clause-front : goal.returns-clause-front
returns-clause-front g c = λ beside is h more s t.
    let streams : Streams = record {
      packets = c.parser_by_law.ensures.packets;
      lines = c.parser_by_law.ensures.lines;
      nothing = c.stream_law.ensures.nothing;
      unit = c.stream_law.ensures.received_unit;
      refusal = c.stream_law.ensures.received_refusal;
      part = c.stream_law.ensures.received_part;
      one = c.stream_law.ensures.one;
      front = c.stream_law.ensures.prefix;
      more = c.stream_law.ensures.read_more;
      sent = c.stream_law.ensures.sent_append;
    } in
    front_beside g.S.Suite.meaning g.D.Decisions.policy streams c.args.asking.now c.args.endpoint.now beside h more s t is

pub returns-clause-answered : goal.returns-clause-answered
returns-clause-answered g c = λ beside none p q answers h other_h s t x y dialogue gives.
    let streams : Streams = record {
      packets = c.parser_by_law.ensures.packets;
      lines = c.parser_by_law.ensures.lines;
      nothing = c.stream_law.ensures.nothing;
      unit = c.stream_law.ensures.received_unit;
      refusal = c.stream_law.ensures.received_refusal;
      part = c.stream_law.ensures.received_part;
      one = c.stream_law.ensures.one;
      front = c.stream_law.ensures.prefix;
      more = c.stream_law.ensures.read_more;
      sent = c.stream_law.ensures.sent_append;
    } in
    joined_beside g.S.Suite.meaning g.D.Decisions.policy c.history_law.ensures.joined c.args.asking.now c.args.endpoint.now beside none p q h other_h s t x y
    (stands_by g.S.Suite.meaning streams c.numbers_law.ensures.message_number c.args.asking.now answers h s dialogue (g.D.Decisions.policy c.args.endpoint.now.decisions) gives)
