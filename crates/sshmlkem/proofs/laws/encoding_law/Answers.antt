use Rattle.sshmlkem.proofs.EncodingLemmas.{decode_of_encode_1, decode_of_encode_10, decode_of_encode_12, decode_of_encode_4, encode_of_decode_1, encode_of_decode_10, encode_of_decode_4}
use Rattle.sshmlkem.proofs.laws.encoding_law.Goals as goal

pub returns-clause-of_12 : goal.returns-clause-of_12
returns-clause-of_12 c = decode_of_encode_12

pub returns-clause-of_10 : goal.returns-clause-of_10
returns-clause-of_10 c = decode_of_encode_10

pub returns-clause-of_4 : goal.returns-clause-of_4
returns-clause-of_4 c = decode_of_encode_4

pub returns-clause-of_1 : goal.returns-clause-of_1
returns-clause-of_1 c = decode_of_encode_1

pub returns-clause-back_10 : goal.returns-clause-back_10
returns-clause-back_10 c = encode_of_decode_10

pub returns-clause-back_4 : goal.returns-clause-back_4
returns-clause-back_4 c = encode_of_decode_4

pub returns-clause-back_1 : goal.returns-clause-back_1
returns-clause-back_1 c = encode_of_decode_1
