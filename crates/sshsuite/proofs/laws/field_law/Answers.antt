use Rattle.sshsuite.proofs.EncodingLemmas.{decode_value, encode_value}
use Rattle.sshsuite.proofs.WordLemmas.{are_words}
use Rattle.sshsuite.proofs.FieldLemmas.{add_value, mul_value, scaled_value, square_value, sub_value}
use Rattle.sshsuite.proofs.laws.field_law.Goals as goal

pub returns-clause-sum : goal.returns-clause-sum
returns-clause-sum c = add_value

pub returns-clause-difference : goal.returns-clause-difference
returns-clause-difference c = sub_value

pub returns-clause-product : goal.returns-clause-product
returns-clause-product c = mul_value

pub returns-clause-square : goal.returns-clause-square
returns-clause-square c = square_value

pub returns-clause-scaled : goal.returns-clause-scaled
returns-clause-scaled c = scaled_value

pub returns-clause-decoded : goal.returns-clause-decoded
returns-clause-decoded c = λ bytes h. decode_value bytes (are_words bytes h)

pub returns-clause-encoded : goal.returns-clause-encoded
returns-clause-encoded c = encode_value
