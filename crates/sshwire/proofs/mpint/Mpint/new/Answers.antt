use Rattle.std.proofs.Common.{arith, refl, sym, ◌∙◌}
use Rattle.std.proofs.lemmas.Bool.{both_ways}
use Rattle.sshwire.specs.Types.{IsBytes}
use Rattle.sshwire.specs.TypeReadings.{is_canonical}
use Rattle.sshwire.proofs.ShortestBody.{canonical_shortest, shortest_canonical}
use Rattle.sshwire.proofs.mpint.Mpint.new.Goals as goal

pub invariant_of-result : goal.invariant_of-result
invariant_of-result c = record {
  bytes = λ i. omega (arith, c.type_inv.body i);
  canonical = sym c.is_canonical.ensures ∙ c.if-is_canonical.true;
  short = c.requires;
}

pub returns-then-is_canonical-clause-ok : goal.returns-then-is_canonical-clause-ok
returns-then-is_canonical-clause-ok c =
    let each : IsBytes c.args.body.now = λ i. omega (arith, c.type_inv.body i) in
    (refl, canonical_shortest c.args.body.now each (sym c.is_canonical.ensures ∙ c.if-is_canonical.true))

pub returns-else-is_canonical-clause-err : goal.returns-else-is_canonical-clause-err
returns-else-is_canonical-clause-err c =
    let each : IsBytes c.args.body.now = λ i. omega (arith, c.type_inv.body i) in
    (refl, λ s. both_ways (is_canonical c.args.body.now) (sym c.is_canonical.ensures ∙ c.if-is_canonical.false) (shortest_canonical c.args.body.now each s))
