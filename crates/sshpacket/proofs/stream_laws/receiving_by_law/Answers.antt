use Rattle.sshwire.specs.declared.line_form.LineForm.{LineForm}
use Rattle.sshpacket.proofs.ReceivingLemmas.{IsLinesParser, receives_lines, stands}
use Rattle.sshpacket.proofs.stream_laws.receiving_by_law.Goals as goal

lines : (c : goal.After-parser_by_law) (form : LineForm) → IsLinesParser form
lines c form = record { only = c.parser_by_law.ensures.only form; preamble = c.parser_by_law.ensures.preamble form }

pub returns-clause-stands : goal.returns-clause-stands
returns-clause-stands c = λ form. stands form (lines c form)

pub returns-clause-receives_lines : goal.returns-clause-receives_lines
returns-clause-receives_lines c = λ form. receives_lines form (lines c form)
