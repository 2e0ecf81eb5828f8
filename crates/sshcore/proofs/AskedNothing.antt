-- Where an asking endpoint asks nothing.

use Rattle.std.proofs.Common.{◌≡◌, None, refl}
use Rattle.sshcore.specs.Asking.{asked_at}
use Rattle.sshcore.specs.EndData.{Authenticated, Closed, Disconnected, EndData, Failed, Open}

-- an endpoint that waits for no answer, or has ended, asks nothing
pub asked_none : (end : EndData) → asked_at end None ≡ None
asked_none Open = refl
asked_none (Authenticated a) = refl
asked_none (Failed f) = refl
asked_none (Closed reason) = refl
asked_none (Disconnected reason) = refl
