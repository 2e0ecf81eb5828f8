use Rattle.sshsuite.proofs.AesSamples.{cipher_sample, inverse_none, inverse_of, mapped_by_bits, short_sample}
use Rattle.sshsuite.proofs.AesKeyLemmas.{cipher_by_key, cipher_by_short_key}
use Rattle.sshsuite.proofs.AesStateLemmas.{number_is}
use Rattle.sshsuite.proofs.laws.aes_law.Goals as goal

pub returns-clause-block : goal.returns-clause-block
returns-clause-block c = number_is

pub returns-clause-cipher : goal.returns-clause-cipher
returns-clause-cipher c = cipher_by_key

pub returns-clause-short_cipher : goal.returns-clause-short_cipher
returns-clause-short_cipher c = cipher_by_short_key

pub returns-clause-inverse : goal.returns-clause-inverse
returns-clause-inverse c = inverse_of

pub returns-clause-zero : goal.returns-clause-zero
returns-clause-zero c = inverse_none

pub returns-clause-affine : goal.returns-clause-affine
returns-clause-affine c = mapped_by_bits

pub returns-clause-example : goal.returns-clause-example
returns-clause-example c = cipher_sample

pub returns-clause-short_example : goal.returns-clause-short_example
returns-clause-short_example c = short_sample
