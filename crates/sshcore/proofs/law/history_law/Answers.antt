use Rattle.sshcore.specs.Directions.{parsers}
use Rattle.sshcore.proofs.LawsBelow.{Below}
use Rattle.sshcore.proofs.HistoryLemmas as history
use Rattle.sshcore.proofs.HistoryLemmas.{Streams}
use Rattle.sshcore.proofs.JoinedHistory.{joined}
use Rattle.sshcore.proofs.OneHistory.{one_by}
use Rattle.sshcore.proofs.law.history_law.Goals as goal

pub returns : goal.returns
returns c =
    let below : Below = record { numbers = c.numbers_law.ensures.message_number; alike = c.numbers_law.ensures.alike; right = c.markers_law.ensures.right } in
    let streams : Streams = record {
      packets = c.parser_by_law.ensures.packets;
      lines = c.parser_by_law.ensures.lines;
      nothing = c.stream_law.ensures.nothing;
      unit = c.stream_law.ensures.received_unit;
      refusal = c.stream_law.ensures.received_refusal;
      part = c.stream_law.ensures.received_part;
      one = c.stream_law.ensures.one;
      front = c.stream_law.ensures.prefix;
      more = c.stream_law.ensures.read_more;
      sent = c.stream_law.ensures.sent_append;
    } in
    record {
      parsers = history.each streams;
      begins = history.begins below streams;
      part = history.part below streams;
      refusal = history.refusal below streams;
      unit = history.unit below streams;
      broken = history.broken;
      breaks = history.breaks below streams;
      one = λ setup units other_units sizes other_sizes rest other_rest r other_r answers other_answers end other_end h s t a b.
          one_by setup units other_units r other_r sizes other_sizes rest other_rest answers other_answers end other_end h s t
          (c.stream_law.ensures.one (parsers setup.suite setup.role setup.config) h units other_units sizes other_sizes rest other_rest r other_r a.received b.received) a b;
      joined = joined streams;
    }
