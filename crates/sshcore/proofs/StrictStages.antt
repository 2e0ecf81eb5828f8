-- What an endpoint that stands open has received, of strictness.

use Rattle.std.proofs.Common.{◌≡◌, ℕ, true, false, List, [], ◌∷◌, ◌++◌}
use Rattle.sshmsg.specs.MessageData.{KexInitData}
use Rattle.sshneg.specs.declared.side.Side.{Side}
use Rattle.sshpacket.specs.Stream.{Units}
use Rattle.sshcore.specs.declared.phase_table.Phase.{Phase}
use Rattle.sshcore.specs.declared.phase_table.Phase.TheVariants as phase
use Rattle.sshcore.specs.Before.{expects_guess, strict_at}
use Rattle.sshcore.specs.EndpointParts.{ConfigData}
use Rattle.sshcore.specs.Phases.{past_exchange}
use Rattle.sshcore.specs.Standing.{Tied}
use Rattle.sshcore.specs.StrictSequence.{BeginsStrictly, HasNumber, IsGuessPart, IsOffered, IsWrongGuess, share_number}

-- the KEXINIT and what came of a guess
pub record StoodKexinit (role : Side) (own : KexInitData) (before : Units) (guess : Units) : Type 0 where
  pub peer : KexInitData
  pub kexinit : List ℕ
  pub payloads_are : before ≡ kexinit ∷ guess
  pub offered : IsOffered peer kexinit
  pub wrong : expects_guess role own before ≡ true → IsWrongGuess role own peer
  pub part : expects_guess role own before ≡ false → IsGuessPart role own peer guess
  pub due : expects_guess role own before ≡ true → guess ≡ []

-- and the share
pub record StoodShare (role : Side) (own : KexInitData) (before : Units) : Type 0 where
  pub peer : KexInitData
  pub kexinit : List ℕ
  pub guess : Units
  pub share : List ℕ
  pub payloads_are : before ≡ kexinit ∷ (guess ++ share ∷ [])
  pub offered : IsOffered peer kexinit
  pub part : IsGuessPart role own peer guess
  pub has : HasNumber (share_number role) share

-- so much of the strict sequence in each phase
abbrev pub SoFar : Side → KexInitData → Units → Phase → Type 0
SoFar role own before phase.KexInit = Unit {0}
SoFar role own before phase.Exchange = (guess : Units) × StoodKexinit role own before guess
SoFar role own before phase.NewKeys = StoodShare role own before
SoFar role own before phase.Service = BeginsStrictly role own before
SoFar role own before phase.Auth = BeginsStrictly role own before

pub record Follows (role : Side) (config : ConfigData) (before : Units) (p : Phase) : Type 0 where
  pub tied : Tied role config.offer before p
  pub none_due : past_exchange p ≡ true → expects_guess role config.offer before ≡ false
  pub so_far : strict_at role config before ≡ true → SoFar role config.offer before p
