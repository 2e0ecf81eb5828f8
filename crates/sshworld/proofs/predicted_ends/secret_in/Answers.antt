use Rattle.std.proofs.Common.{◌∙◌, rules, string_bytes, tests}
use Rattle.std.specs.Str.{bytes_eq}
use Rattle.std.proofs.lemmas.Iterator.{YieldsList-from_slice}
use Rattle.std.proofs.lemmas.Iterator.Search.{find_from_yields_List}
use Rattle.sshcore.specs.declared.config_parts.HostKey.{HostKey}
use Rattle.sshcore.proofs.EndpointPartsLemmas.{secret_found, secret_missed}
use Rattle.sshworld.proofs.predicted_ends.secret_in.Goals as goal

pub returns-in-Some : goal.returns-in-Some
returns-in-Some c =
    c.deref.ensures.value ∙ secret_found c.args.keys.now c.args.algorithm.now c.find.result c.in-Some.key
    (find_from_yields_List (λ (key : HostKey). bytes_eq c.args.algorithm.now (string_bytes key.algorithm)) _ _ _ c.find.ensures.ran
    (YieldsList-from_slice c.args.keys.now cc) (λ x b q k. search (rules, tests))) c.in-Some.is

pub returns-in-None : goal.returns-in-None
returns-in-None c =
    secret_missed c.args.keys.now c.args.algorithm.now c.find.result
    (find_from_yields_List (λ (key : HostKey). bytes_eq c.args.algorithm.now (string_bytes key.algorithm)) _ _ _ c.find.ensures.ran
    (YieldsList-from_slice c.args.keys.now cc) (λ x b q k. search (rules, tests))) c.in-None.is
