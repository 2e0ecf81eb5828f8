use Rattle.std.proofs.Common.{◌≡◌, ◌∷◌, rules}
use Rattle.rezdolin.proofs.DrawnLemmas.{all_same, found_same}
use Rattle.rezdolin.proofs.drawn.is_uniform.Goals as goal

pub returns-in-Some-clause-yes : goal.returns-in-Some-clause-yes
returns-in-Some-clause-yes c =
    let is : c.args.bytes.now ≡ c.in-Some.field-0-0.now ∷ c.in-Some.rest.now = search rules in
    all_same c.args.bytes.now c.in-Some.rest.now c.in-Some.field-0-0.now c.is_same_secret.result is c.is_same_secret.ensures

pub returns-in-Some-clause-no : goal.returns-in-Some-clause-no
returns-in-Some-clause-no c =
    let is : c.args.bytes.now ≡ c.in-Some.field-0-0.now ∷ c.in-Some.rest.now = search rules in
    found_same c.args.bytes.now c.in-Some.rest.now c.in-Some.field-0-0.now c.is_same_secret.result is c.is_same_secret.ensures
