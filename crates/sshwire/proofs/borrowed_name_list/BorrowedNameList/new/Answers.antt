use Rattle.sshwire.proofs.NameLemmas.{names_fault, names_taken, to_body}
use Rattle.sshwire.proofs.borrowed_name_list.BorrowedNameList.new.Goals as goal

pub invariant_of-result : goal.invariant_of-result
invariant_of-result c = to_body _ _ record { names = c.in-Some.ensures.0; short = c.requires; count_is = c.in-Some.ensures.1 }

pub returns-in-Some-clause-ok : goal.returns-in-Some-clause-ok
returns-in-Some-clause-ok c = let t = names_taken c.args.body.now _ c.in-Some.ensures.0 in (t.each, t.body_is)

pub returns-in-None-clause-err : goal.returns-in-None-clause-err
returns-in-None-clause-err c = names_fault c.args.body.now _ c.in-None.ensures
