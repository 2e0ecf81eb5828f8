use Rattle.std.proofs.Common.{◌≡◌, ◌↔◌, List, ℕ, ap, subst, ◌∙◌}
use Rattle.sshmlkem.proofs.Agreement.{agreed}
use Rattle.sshmlkem.proofs.DecryptLemmas.{decrypted_back, decrypted_exactly}
use Rattle.sshmlkem.proofs.NoiseLemmas.{noises_same}
use Rattle.sshmlkem.proofs.laws.decryption_law.Goals as goal
use Rattle.sshmlkem.specs.Kem.{encapsulated, keys_of}
use Rattle.sshmlkem.specs.Noise.{KeepsBits, are_small}
use Rattle.sshmlkem.specs.Pke.{decrypted, pke_keys}

pub returns-clause-exact : goal.returns-clause-exact
returns-clause-exact c d z m are long =
    subst (λ (n : List ℕ). (decrypted (pke_keys d).decryption_key (encapsulated (keys_of d z).encapsulation_key m).ciphertext ≡ m) ↔ KeepsBits m n) (noises_same d m)
    (decrypted_exactly d z m are long)

pub returns-clause-decrypts : goal.returns-clause-decrypts
returns-clause-decrypts c d z m are long small = decrypted_back d z m are long (ap are_small (noises_same d m) ∙ small)

pub returns-clause-agrees : goal.returns-clause-agrees
returns-clause-agrees c d z m are long small = agreed d z m (returns-clause-decrypts c d z m are long small)
