use Rattle.std.proofs.Common.{sym, ◌∙◌}
use Rattle.sshwire.proofs.NameLemmas.{names_complete, names_taken}
use Rattle.sshwire.proofs.ShortestBody.{canonical_shortest, shortest_canonical, shortest_unique}
use Rattle.sshwire.proofs.TypeLemmas.{boolean_reading, boolean_written, list_reading, mpint_reading, string_reading, uint32_reading}
use Rattle.sshwire.proofs.TypeRefusals.{boolean_refuses, list_refuses, mpint_refuses, string_refuses, uint32_refuses}
use Rattle.sshwire.proofs.law.types_law.Goals as goal

pub returns-clause-boolean : goal.returns-clause-boolean
returns-clause-boolean c = boolean_reading

pub returns-clause-uint32 : goal.returns-clause-uint32
returns-clause-uint32 c = uint32_reading

pub returns-clause-string : goal.returns-clause-string
returns-clause-string c = string_reading

pub returns-clause-mpint : goal.returns-clause-mpint
returns-clause-mpint c = mpint_reading

pub returns-clause-name_list : goal.returns-clause-name_list
returns-clause-name_list c = list_reading

pub returns-clause-canonical : goal.returns-clause-canonical
returns-clause-canonical c = λ body h. (canonical_shortest body h, shortest_canonical body h)

pub returns-clause-names : goal.returns-clause-names
returns-clause-names c = names_complete

pub returns-clause-written : goal.returns-clause-written
returns-clause-written c = boolean_written

pub returns-clause-boolean_refused : goal.returns-clause-boolean_refused
returns-clause-boolean_refused c = boolean_refuses

pub returns-clause-uint32_refused : goal.returns-clause-uint32_refused
returns-clause-uint32_refused c = uint32_refuses

pub returns-clause-string_refused : goal.returns-clause-string_refused
returns-clause-string_refused c = string_refuses

pub returns-clause-mpint_refused : goal.returns-clause-mpint_refused
returns-clause-mpint_refused c = mpint_refuses

pub returns-clause-name_list_refused : goal.returns-clause-name_list_refused
returns-clause-name_list_refused c = list_refuses

pub returns-clause-names_sound : goal.returns-clause-names_sound
returns-clause-names_sound c = λ body names e. let t = names_taken body names e in (t.each, t.body_is)

pub returns-clause-unique_uint32 : goal.returns-clause-unique_uint32
returns-clause-unique_uint32 c = λ n text other t u. t.1 ∙ sym u.1

pub returns-clause-unique_mpint : goal.returns-clause-unique_mpint
returns-clause-unique_mpint c = shortest_unique
