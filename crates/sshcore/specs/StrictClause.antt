-- What a strict endpoint promises of what it received: OpenSSH PROTOCOL section 1.10.

use Rattle.std.specs.Prelude.{◌≡◌, ℕ, true, List, [], ◌∷◌, ◌++◌}
use Rattle.sshmsg.specs.Numbers.{message_number}
use Rattle.sshneg.specs.declared.side.Side.{Side}
use Rattle.sshpacket.specs.Stream.{Units}
use Rattle.sshcore.specs.Before.{strict_at}
use Rattle.sshcore.specs.Directions.{payloads_in}
use Rattle.sshcore.specs.EndData.{EndData}
use Rattle.sshcore.specs.EndpointParts.{ConfigData}
use Rattle.sshcore.specs.Phases.{past_newkeys, phase_at}
use Rattle.sshcore.specs.StrictSequence.{BeginsStrictly, Conforms, EndsStrictly}

-- A strict endpoint that is past phase newkeys, open or ended, was given a strict sequence first. And a payload that shows the
-- marker and a deviation, with those before it, ended the endpoint, and was the last.
pub record KeepsStrict (role : Side) (config : ConfigData) (units : Units) (end : EndData) : Type 0 where
  pub sequence : strict_at role config (payloads_in units) ≡ true → past_newkeys (phase_at role config.offer (payloads_in units)) ≡ true
      → BeginsStrictly role config.offer (payloads_in units)
  pub deviation : (version : List ℕ) (before : Units) (payload : List ℕ) (more : Units) → units ≡ version ∷ (before ++ payload ∷ more)
      → strict_at role config (before ++ payload ∷ []) ≡ true → (Conforms role config.offer (before ++ payload ∷ []) → ⊥)
      → EndsStrictly (message_number payload) end × (more ≡ [])
