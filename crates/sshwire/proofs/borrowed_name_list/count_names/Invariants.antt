use Rattle.sshwire.proofs.NamesLeft.{IsCounting}
use Rattle.sshwire.proofs.borrowed_name_list.count_names.Given as goal

abbrev pub invariant-loop-b : goal.invariant-loop-b
invariant-loop-b l = IsCounting l.body l.b-index l.count l.len
