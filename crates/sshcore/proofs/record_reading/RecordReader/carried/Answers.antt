use Rattle.std.proofs.Common.{◌≡◌, ◌∙◌, List, ℕ, Option}
use Rattle.sshpacket.specs.KeysData.{KeysData}
use Rattle.sshcore.specs.EndpointParts.{UserKeyData}
use Rattle.sshcore.specs.StateData.{Carried}
use Rattle.sshcore.proofs.record_reading.RecordReader.carried.Goals as goal

same_carried : (pending pending_ : Option KeysData) (own_version own_version_ : List ℕ) (host_key host_key_ : List ℕ) (user_key user_key_ : Option UserKeyData) → pending ≡ pending_ → own_version ≡ own_version_ → host_key ≡ host_key_ → user_key ≡ user_key_ → ◌≡◌ {A = Carried} (record { pending = pending; own_version = own_version; host_key = host_key; user_key = user_key }) (record { pending = pending_; own_version = own_version_; host_key = host_key_; user_key = user_key_ })
same_carried _ _ _ _ _ _ _ _ e0 e1 e2 e3 = cc

pub returns : goal.returns
returns c = λ x rest fits e.
    let pending = c.keys-pending.ensures x.pending _ fits.pending e in
    let own_version = c.bytes-own_version.ensures x.own_version _ fits.own_version pending.1 in
    let host_key = c.bytes-host_key.ensures x.host_key _ fits.host_key own_version.1 in
    let user_key = c.user_key-user_key.ensures x.user_key _ fits.user_key host_key.1 in
    (same_carried _ _ _ _ _ _ _ _ pending.0 own_version.0 host_key.0 user_key.0, user_key.1, user_key.2 ∙ (host_key.2 ∙ (own_version.2 ∙ (pending.2))))
