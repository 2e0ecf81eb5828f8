use Rattle.std.proofs.Common.{◌<◌, length, arith, rules}
use Rattle.sshsuite.specs.LongNumbers.{number_of, weight}
use Rattle.sshsuite.proofs.LongNumberLemmas.{all_below, below_by}
use Rattle.sshsuite.proofs.MontgomeryLemmas.{bit_small, reduced, top_small}
use Rattle.sshsuite.proofs.montgomery.reduce.Goals as goal

pub overflow_add-bit : goal.overflow_add-bit
overflow_add-bit c =
    let p = all_below c.args.modulus.now (λ k. (c.type_inv.modulus k).fits) in
    let small = top_small (number_of c.args.sum.now) (weight (length c.args.modulus.now)) c.args.top (number_of c.args.modulus.now) c.requires.sum p in
    record { fits = omega (arith, small) }

pub subtract_where-borrow-requires-clause-bit : goal.subtract_where-borrow-requires-clause-bit
subtract_where-borrow-requires-clause-bit c =
    let p = all_below c.args.modulus.now (λ k. (c.type_inv.modulus k).fits) in
    rw c.is_below.ensures (bit_small (number_of c.args.sum.now) (weight (length c.args.modulus.now)) c.args.top (number_of c.args.modulus.now) c.requires.sum p)

pub returns : goal.returns
returns c =
    let p = all_below c.args.modulus.now (λ k. (c.type_inv.modulus k).fits) in
    let new : number_of c.subtract_where-borrow.new.rest < weight (length c.args.modulus.now) =
    below_by c.subtract_where-borrow.new.rest (length c.args.modulus.now) (search rules) (λ k. (c.type_inv.sum k).fits) in
    reduced (number_of c.args.sum.now) (weight (length c.args.modulus.now)) c.args.top (number_of c.args.modulus.now) (number_of c.subtract_where-borrow.new.rest) c.subtract_where-borrow.result
    p new c.requires.sum (rw (c.is_below.ensures, c.requires.long) at c.subtract_where-borrow.ensures)
