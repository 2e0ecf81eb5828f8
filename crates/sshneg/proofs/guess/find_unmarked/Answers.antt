use Rattle.std.proofs.Common.{not, rules, tests}
use Rattle.std.proofs.lemmas.Iterator.Consumers.{YieldsList-from_first}
use Rattle.std.proofs.lemmas.Iterator.Search.{find_from_yields_List}
use Rattle.sshwire.specs.Names.{names_left}
use Rattle.sshneg.specs.Markers.{is_marker}
use Rattle.sshneg.proofs.guess.find_unmarked.Goals as goal

pub returns : goal.returns
returns c =
    find_from_yields_List (λ name. not (is_marker name)) c.find.new.self _ c.find.result c.find.ensures.ran
    (YieldsList-from_first (λ name. name.now) names_left {s = c.names.result} c.args.list.now c.names.ensures.left) (λ x b q k. search (rules, tests))
