use Rattle.sshwire.specs.declared.line_form.LineForm.{LineForm}
use Rattle.sshwire.specs.declared.line_form.LineForm.TheVariants.{Strict}
use Rattle.sshpacket.proofs.Parsers.{IsLinesLaw, lines_found, lines_only, lines_parser, lines_wider, packets_parser, preamble_seen}
use Rattle.sshpacket.proofs.stream_laws.parser_by_law.Goals as goal

law : (c : goal.After-reading_by_law) (form : LineForm) → IsLinesLaw form
law c form = record {
  sound = c.reading_by_law.ensures.sound form;
  complete = c.reading_by_law.ensures.complete form;
  within = c.reading_by_law.ensures.within form;
  cut = c.reading_by_law.ensures.cut form;
  written = c.reading_by_law.ensures.written form;
  used = c.reading_by_law.ensures.used form;
}

pub returns-clause-packets : goal.returns-clause-packets
returns-clause-packets c = packets_parser

pub returns-clause-lines : goal.returns-clause-lines
returns-clause-lines c = λ form. lines_parser form (law c form)

pub returns-clause-found : goal.returns-clause-found
returns-clause-found c = λ form. lines_found form (law c form)

pub returns-clause-only : goal.returns-clause-only
returns-clause-only c = λ form. lines_only form (law c form)

pub returns-clause-preamble : goal.returns-clause-preamble
returns-clause-preamble c = λ form. preamble_seen form (law c form)

pub returns-clause-wider : goal.returns-clause-wider
returns-clause-wider c = λ form. lines_wider form (law c Strict) (law c form) (c.reading_by_law.ensures.wider_preamble form)
