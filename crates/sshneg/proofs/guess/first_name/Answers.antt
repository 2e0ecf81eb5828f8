use Rattle.std.proofs.Common.{◌∙◌}
use Rattle.sshneg.proofs.GuessLemmas.{first_at}
use Rattle.sshneg.proofs.guess.first_name.Goals as goal

pub returns : goal.returns
returns c = c.name_at.ensures.exact ∙ first_at c.args.list.now
