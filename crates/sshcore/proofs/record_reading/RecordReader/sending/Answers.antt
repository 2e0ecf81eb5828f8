use Rattle.std.proofs.Common.{◌≡◌, ◌∙◌, ℕ, Option}
use Rattle.sshpacket.specs.KeysData.{KeysData}
use Rattle.sshcore.specs.Output.{Sending}
use Rattle.sshcore.proofs.record_reading.RecordReader.sending.Goals as goal

same_sending : (keys keys_ : Option KeysData) (number number_ : ℕ) → keys ≡ keys_ → number ≡ number_ → ◌≡◌ {A = Sending} (record { keys = keys; number = number }) (record { keys = keys_; number = number_ })
same_sending _ _ _ _ e0 e1 = cc

pub returns : goal.returns
returns c = λ x rest fits e.
    let keys = c.keys-keys.ensures x.keys _ fits.keys e in
    let number = c.number-number.ensures x.number _ fits.number keys.1 in
    (same_sending _ _ _ _ keys.0 number.0, number.1, number.2 ∙ (keys.2))
