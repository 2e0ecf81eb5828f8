use Rattle.std.proofs.Common.{◌≡◌, ℕ, ap, ◌∙◌}
use Rattle.sshsuite.specs.Group14.{group14_share, number_body, power}
use Rattle.sshsuite.specs.LongNumbers.{number_of}
use Rattle.sshsuite.proofs.PowerLemmas.{two_below, two_is}
use Rattle.sshsuite.proofs.group14.group14_share.Goals as goal

pub power-requires-clause-base : goal.power-requires-clause-base
power-requires-clause-base c = two_below

pub returns : goal.returns
unfolding group14_share
returns c =
    let e : number_body (number_of c.power.result) ≡ group14_share c.args.random.now = ap number_body (c.power.ensures ∙ ap (λ (n : ℕ). power n c.args.random.now) two_is) in
    rw e at c.number_body.ensures
