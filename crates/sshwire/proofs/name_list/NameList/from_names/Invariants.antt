use Rattle.std.proofs.Common.{map, take}
use Rattle.std.specs.Prelude.{string_bytes}
use Rattle.sshwire.proofs.NameLemmas.{PutNames}
use Rattle.sshwire.proofs.name_list.NameList.from_names.Given as goal

abbrev pub invariant-loop-name : goal.invariant-loop-name
invariant-loop-name l = PutNames (map (λ name. name.now) (take l.name-index l.names)) (string_bytes l.text)
