use Rattle.sshwire.specs.declared.line_form.LineForm.TheVariants.{Strict}
use Rattle.sshpacket.proofs.Parsers.{IsLinesLaw, lines_found, lines_parser, lines_only, packets_parser, preamble_seen}
use Rattle.sshpacket.proofs.stream_laws.parser_law.Goals as goal

law : (c : goal.After-reading_law) → IsLinesLaw Strict
law c = record {
  sound = c.reading_law.ensures.sound;
  complete = c.reading_law.ensures.complete;
  within = c.reading_law.ensures.within;
  cut = c.reading_law.ensures.cut;
  written = c.reading_law.ensures.written;
  used = c.reading_law.ensures.used;
}

pub returns-clause-packets : goal.returns-clause-packets
returns-clause-packets c = packets_parser

pub returns-clause-lines : goal.returns-clause-lines
returns-clause-lines c = lines_parser Strict (law c)

pub returns-clause-preamble : goal.returns-clause-preamble
returns-clause-preamble c = preamble_seen Strict (law c)

pub returns-clause-found : goal.returns-clause-found
returns-clause-found c = lines_found Strict (law c)

pub returns-clause-only : goal.returns-clause-only
returns-clause-only c = lines_only Strict (law c)
