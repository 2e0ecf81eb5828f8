use Rattle.sshsuite.specs.LongNumbers.{number_of}
use Rattle.sshsuite.proofs.RsaLemmas.{modulus_long, modulus_odd, modulus_short}
use Rattle.sshsuite.proofs.rsa.is_signed_with.Goals as goal

pub is_signed-requires-clause-odd : goal.is_signed-requires-clause-odd
is_signed-requires-clause-odd c = modulus_odd c.args.digits.now (number_of c.in-Some.modulus) c.in-Some.ensures

pub is_signed-requires-clause-long : goal.is_signed-requires-clause-long
is_signed-requires-clause-long c = modulus_long c.args.digits.now (number_of c.in-Some.modulus) c.in-Some.ensures

pub is_signed-requires-clause-short : goal.is_signed-requires-clause-short
is_signed-requires-clause-short c = modulus_short c.args.digits.now (number_of c.in-Some.modulus) c.in-Some.ensures
