use Rattle.std.proofs.Common.{rules, List, ℕ, subst}
use Rattle.rezdolin.specs.Directions.{IsPut}
use Rattle.rezdolin.proofs.rezdolin_public_key.Goals as goal

pub returns-in-Ok-clause-key : goal.returns-in-Ok-clause-key
returns-in-Ok-clause-key c = λ _.
    let copied : IsPut c.in-Ok.blob.items c.args.out.now c.written.result.len c.is_copied.new.out = search rules in
    subst (λ (key : List ℕ). IsPut key c.args.out.now c.written.result.len c.is_copied.new.out) c.in-Ok.ensures copied
