use Rattle.std.proofs.Common.{length, rules}
use Rattle.sshsuite.specs.LongNumbers.{number_of}
use Rattle.sshsuite.proofs.RsaLemmas.{room_for}
use Rattle.sshsuite.proofs.rsa.is_signed.Goals as goal

pub encoded-requires : goal.encoded-requires
encoded-requires c = room_for c.args.digits.now (number_of c.args.modulus.now) (length c.args.info.now) c.requires.same c.requires.long c.requires.info (search rules)
