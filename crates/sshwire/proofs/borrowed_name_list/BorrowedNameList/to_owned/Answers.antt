use Rattle.sshwire.proofs.NameLemmas.{body_of}
use Rattle.sshwire.proofs.borrowed_name_list.BorrowedNameList.to_owned.Goals as goal

pub of_body-requires-clause-short : goal.of_body-requires-clause-short
of_body-requires-clause-short c = (body_of _ _ c.self.invariant).short

pub of_body-requires-clause-names : goal.of_body-requires-clause-names
of_body-requires-clause-names c = (body_of _ _ c.self.invariant).names
