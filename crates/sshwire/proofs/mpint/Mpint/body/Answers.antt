use Rattle.std.proofs.Common.{List, ℕ, subst}
use Rattle.sshwire.specs.TypeReadings.{IsMpintBody}
use Rattle.sshwire.proofs.ShortestBody.{canonical_shortest}
use Rattle.sshwire.proofs.mpint.Mpint.body.Goals as goal

pub returns-clause-shortest : goal.returns-clause-shortest
returns-clause-shortest c =
    let b : IsMpintBody c.args.self.now = subst (λ (xs : List ℕ). IsMpintBody xs) c.self.view_is c.self.invariant in
    canonical_shortest c.args.self.now b.bytes b.canonical
