use Rattle.std.proofs.Common.{◌≡◌, ◌+◌, ◌<◌, ◌^◌, arith, rules}
use Rattle.std.specs.Prelude.{slice_index}
use Rattle.sshsuite.proofs.MontgomeryLemmas.{step_is}
use Rattle.sshsuite.proofs.montgomery.step.Goals as goal

pub returns-clause-remainder : goal.returns-clause-remainder
returns-clause-remainder c =
    let low : slice_index c.add_product-second.new.sum 0 < 2 ^ 64 = search rules in
    let times : c.args.times < 2 ^ 64 = c.ranges.times.fits in
    let sum : c.from.result + c.from-2.result + c.from-3.result ≡ c.args.top + c.add_product-first.result + c.add_product-second.result = omega (arith, c.from.ensures, c.from-2.ensures, c.from-3.ensures) in
    (step_is c.args.sum.now c.add_product-first.new.sum c.add_product-second.new.sum c.shift_down.new.words c.args.number.now c.args.modulus.now
    c.args.top c.args.times c.args.inverse c.add_product-first.result c.add_product-second.result (c.from.result + c.from-2.result + c.from-3.result) c.low.result c.high.result
    c.requires.some c.requires.sum_long c.add_product-first.auto.sum c.add_product-second.auto.sum c.requires.inverse low times
    c.add_product-first.ensures c.add_product-second.ensures c.shift_down.ensures c.low.ensures c.high.ensures sum c.requires.sum c.requires.number).0

pub returns-clause-below : goal.returns-clause-below
returns-clause-below c =
    let low : slice_index c.add_product-second.new.sum 0 < 2 ^ 64 = search rules in
    let times : c.args.times < 2 ^ 64 = c.ranges.times.fits in
    let sum : c.from.result + c.from-2.result + c.from-3.result ≡ c.args.top + c.add_product-first.result + c.add_product-second.result = omega (arith, c.from.ensures, c.from-2.ensures, c.from-3.ensures) in
    (step_is c.args.sum.now c.add_product-first.new.sum c.add_product-second.new.sum c.shift_down.new.words c.args.number.now c.args.modulus.now
    c.args.top c.args.times c.args.inverse c.add_product-first.result c.add_product-second.result (c.from.result + c.from-2.result + c.from-3.result) c.low.result c.high.result
    c.requires.some c.requires.sum_long c.add_product-first.auto.sum c.add_product-second.auto.sum c.requires.inverse low times
    c.add_product-first.ensures c.add_product-second.ensures c.shift_down.ensures c.low.ensures c.high.ensures sum c.requires.sum c.requires.number).1
