use Rattle.sshneg.proofs.FirstLemmas.{is_in_by}
use Rattle.sshneg.proofs.choice.lists.Goals as goal

pub returns : goal.returns
returns c = is_in_by c.args.list.now c.args.name.now c.contains.result c.contains.ensures
