use Rattle.std.proofs.Common.{rules}
use Rattle.sshsuite.proofs.RsaLemmas.{exponent_below, exponent_some}
use Rattle.sshsuite.proofs.rsa.is_signed_by.Goals as goal

pub is_signed_with-requires-clause-some : goal.is_signed_with-requires-clause-some
is_signed_with-requires-clause-some c = exponent_some c.digits_of.result.now c.in-Some.exponent c.in-Some.ensures

pub is_signed_with-requires-clause-exponent : goal.is_signed_with-requires-clause-exponent
is_signed_with-requires-clause-exponent c = exponent_below c.args.exponent.now c.digits_of.result.now c.in-Some.exponent c.digits_of.ensures (search rules) c.in-Some.ensures
