use Rattle.sshwire.specs.declared.line_form.LineForm.TheVariants.{Strict}
use Rattle.sshpacket.proofs.ReceivingLemmas.{IsLinesParser, receives, receives_lines, stands}
use Rattle.sshpacket.proofs.stream_laws.receiving_law.Goals as goal

lines : (c : goal.After-parser_law) → IsLinesParser Strict
lines c = record { only = c.parser_law.ensures.only; preamble = c.parser_law.ensures.preamble }

pub returns-clause-receives : goal.returns-clause-receives
returns-clause-receives c = receives

pub returns-clause-stands : goal.returns-clause-stands
returns-clause-stands c = stands Strict (lines c)

pub returns-clause-receives_lines : goal.returns-clause-receives_lines
returns-clause-receives_lines c = receives_lines Strict (lines c)
