use Rattle.std.proofs.Common.{rules, tests}
use Rattle.std.proofs.lemmas.Iterator.Consumers.{YieldsList-from_first}
use Rattle.std.proofs.lemmas.Iterator.Search.{position_from_yields_List}
use Rattle.sshwire.specs.Names.{names_left}
use Rattle.sshneg.specs.ChoiceReadings.{is_in}
use Rattle.sshneg.proofs.choice.first_listed.Goals as goal

pub returns : goal.returns
returns c =
    position_from_yields_List (λ name. is_in c.args.server.now name) c.position.new.self _ c.position.result c.position.ensures.ran
    (YieldsList-from_first (λ name. name.now) names_left {s = c.names.result} c.args.names.now c.names.ensures.left) (λ x b q k. search (rules, tests))
