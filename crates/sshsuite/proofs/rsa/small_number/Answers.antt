use Rattle.std.proofs.Common.{◌<◌, ◌^◌, rules, ◌∙◌}
use Rattle.sshsuite.specs.LongNumbers.{number_of}
use Rattle.sshsuite.proofs.PublicPowerLemmas.{small_is}
use Rattle.sshsuite.proofs.RsaLemmas.{four_below}
use Rattle.sshsuite.proofs.rsa.small_number.Goals as goal

pub returns : goal.returns
returns c =
    let low : number_of c.number_in.result < 2 ^ 64 = rw c.number_in.ensures (four_below c.args.bytes.now c.requires (search rules)) in
    small_is c.number_in.result 127 (search rules) low ∙ c.number_in.ensures
