use Rattle.sshwire.proofs.NameLemmas.{name_from_test, name_tested}
use Rattle.sshwire.proofs.NameLengths.{body_length}
use Rattle.sshwire.proofs.VersionText.{version_text_from_test, version_text_tested}
use Rattle.sshwire.proofs.law.names_law.Goals as goal

pub returns-clause-name : goal.returns-clause-name
returns-clause-name c = λ name. (name_from_test name, name_tested name)

pub returns-clause-version : goal.returns-clause-version
returns-clause-version c = λ text. (version_text_from_test text, version_text_tested text)

pub returns-clause-body : goal.returns-clause-body
returns-clause-body c = body_length
