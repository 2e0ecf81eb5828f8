use Rattle.std.proofs.Common.{Global, String, ap, rules, string_bytes, Some, tests, ◌∙◌, List, ℕ}
use Rattle.std.specs.Str.{bytes_eq}
use Rattle.std.proofs.lemmas.Iterator.{YieldsList-from_slice}
use Rattle.std.proofs.lemmas.Iterator.Search.{find_from_yields_List}
use Rattle.sshcore.proofs.EndpointPartsLemmas.{name_found, name_missed}
use Rattle.sshcore.proofs.config.name_in.Goals as goal

pub returns-in-Some : goal.returns-in-Some
returns-in-Some c =
    ap (λ (l : List ℕ). Some l) c.as_str.ensures.value ∙ name_found string_bytes c.args.names.now c.args.name.now c.find.result c.in-Some.own
    (find_from_yields_List (λ (own : String Global). bytes_eq c.args.name.now (string_bytes own)) _ _ _ c.find.ensures.ran
    (YieldsList-from_slice c.args.names.now cc) (λ x b q k. search (rules, tests))) c.in-Some.is

pub returns-in-None : goal.returns-in-None
returns-in-None c =
    name_missed string_bytes c.args.names.now c.args.name.now c.find.result
    (find_from_yields_List (λ (own : String Global). bytes_eq c.args.name.now (string_bytes own)) _ _ _ c.find.ensures.ran
    (YieldsList-from_slice c.args.names.now cc) (λ x b q k. search (rules, tests))) c.in-None.is
