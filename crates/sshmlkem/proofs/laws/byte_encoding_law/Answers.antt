use Rattle.sshmlkem.proofs.CodingLemmas.{decode_10_is, decode_12_is, decode_1_is, decode_4_is, encode_10_is, encode_12_is, encode_1_is, encode_4_is}
use Rattle.sshmlkem.proofs.laws.byte_encoding_law.Goals as goal

pub returns-clause-encode_12 : goal.returns-clause-encode_12
returns-clause-encode_12 c = encode_12_is

pub returns-clause-encode_10 : goal.returns-clause-encode_10
returns-clause-encode_10 c = encode_10_is

pub returns-clause-encode_4 : goal.returns-clause-encode_4
returns-clause-encode_4 c = encode_4_is

pub returns-clause-encode_1 : goal.returns-clause-encode_1
returns-clause-encode_1 c = encode_1_is

pub returns-clause-decode_12 : goal.returns-clause-decode_12
returns-clause-decode_12 c = decode_12_is

pub returns-clause-decode_10 : goal.returns-clause-decode_10
returns-clause-decode_10 c = decode_10_is

pub returns-clause-decode_4 : goal.returns-clause-decode_4
returns-clause-decode_4 c = decode_4_is

pub returns-clause-decode_1 : goal.returns-clause-decode_1
returns-clause-decode_1 c = decode_1_is
