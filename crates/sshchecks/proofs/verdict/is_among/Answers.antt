use Rattle.std.proofs.Common.{rules, tests}
use Rattle.std.specs.Str.{bytes_eq}
use Rattle.std.proofs.lemmas.Iterator.Search.{any_from_yields_List}
use Rattle.std.proofs.lemmas.Iterator.Splits.{YieldsList-from_str_split}
use Rattle.sshchecks.proofs.verdict.is_among.Goals as goal

pub returns : goal.returns
returns c = any_from_yields_List (λ own. bytes_eq own c.args.word.now) c.any.new.self _ c.any.result c.any.ensures.ran
    (YieldsList-from_str_split 124 c.args.words.now (search rules) c.split.ensures.text c.split.ensures.has_more c.split.ensures.pattern)
    (λ x b q k. search (rules, tests))
