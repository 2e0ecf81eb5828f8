use Rattle.std.proofs.Common.{rules, tests}
use Rattle.std.specs.Str.{bytes_eq}
use Rattle.std.proofs.lemmas.Iterator.Consumers.{YieldsList-from_first}
use Rattle.std.proofs.lemmas.Iterator.Search.{any_from_yields_List}
use Rattle.sshwire.specs.Names.{names_left}
use Rattle.sshwire.proofs.name_list.has_name.Goals as goal

pub returns : goal.returns
returns c =
    any_from_yields_List (λ own. bytes_eq c.args.name.now own) c.any.new.self _ c.any.result c.any.ensures.ran
    (YieldsList-from_first (λ name. name.now) names_left {s = c.names.result} c.args.list.now c.names.ensures.left) (λ x b q k. search (rules, tests))
