use Rattle.std.proofs.Common.{sym, ◌∙◌}
use Rattle.sshneg.proofs.ChoiceLemmas.{first_method}
use Rattle.sshneg.proofs.guess.first_method.Goals as goal

pub returns : goal.returns
returns c = c.find_unmarked.ensures ∙ sym (first_method c.args.list.now)
