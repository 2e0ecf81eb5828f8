use Rattle.sshneg.specs.Derivations.{derived, enc_letter, iv_letter, mac_letter}
use Rattle.sshneg.proofs.EndLemmas.{one_end, one_source}
use Rattle.sshneg.proofs.KeyLemmas.{key_by, key_length}
use Rattle.sshneg.proofs.law.derivation_law.Goals as goal

pub returns-clause-iv : goal.returns-clause-iv
unfolding derived
returns-clause-iv c = λ m law x sender cipher mac. key_length m law x (iv_letter sender) (m.key_lens cipher mac).iv

pub returns-clause-enc : goal.returns-clause-enc
unfolding derived
returns-clause-enc c = λ m law x sender cipher mac. key_length m law x (enc_letter sender) (m.key_lens cipher mac).enc

pub returns-clause-mac : goal.returns-clause-mac
unfolding derived
returns-clause-mac c = λ m law x sender cipher mac. key_length m law x (mac_letter sender) (m.key_lens cipher mac).mac

pub returns-clause-hashes : goal.returns-clause-hashes
returns-clause-hashes c = key_by

pub returns-clause-both : goal.returns-clause-both
returns-clause-both c = one_source

pub returns-clause-ends : goal.returns-clause-ends
returns-clause-ends c = one_end
