use Rattle.sshwire.proofs.NameLemmas.{body_of, names_taken}
use Rattle.sshwire.proofs.borrowed_name_list.BorrowedNameList.body.Goals as goal

pub returns-clause-body : goal.returns-clause-body
returns-clause-body c = rw (← c.self.view_is) (names_taken c.self.inside.body.now _ (body_of _ _ c.self.invariant).names).body_is

pub returns-clause-each : goal.returns-clause-each
returns-clause-each c = rw (← c.self.view_is) (names_taken c.self.inside.body.now _ (body_of _ _ c.self.invariant).names).each

pub returns-clause-names : goal.returns-clause-names
returns-clause-names c = rw (← c.self.view_is) (body_of _ _ c.self.invariant).names

pub returns-clause-short : goal.returns-clause-short
returns-clause-short c = (body_of _ _ c.self.invariant).short
