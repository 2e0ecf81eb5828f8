use Rattle.sshwire.proofs.NameLemmas.{contains_name}
use Rattle.sshwire.proofs.name_list.NameList.contains.Goals as goal

pub returns : goal.returns
returns c = rw c.has_name.ensures (contains_name c.args.self.now c.args.name.now)
