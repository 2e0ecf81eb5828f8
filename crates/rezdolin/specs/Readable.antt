-- The numbers and entries of a program that can be read.

use Rattle.std.specs.Prelude.{◌≡◌, ◌≢◌, ◌⊎◌, ℕ, ◌≤◌, ◌==◌, Bool, true, [], length}
use Rattle.std.specs.List.{AllByRecursion}
use Rattle.sshcore.specs.declared.config_parts.TheConstants.{PASSWORD_LIMIT}
use Rattle.rezdolin.specs.declared.inputs.AttemptInput.{AttemptInput}
use Rattle.rezdolin.specs.declared.inputs.ClientInput.{ClientInput}
use Rattle.rezdolin.specs.declared.inputs.HostKeyInput.{HostKeyInput}
use Rattle.rezdolin.specs.declared.inputs.ServerInput.{ServerInput}
use Rattle.rezdolin.specs.declared.inputs.UserInput.{UserInput}
use Rattle.rezdolin.specs.declared.inputs.TheConstants.{KEY_ELSEWHERE, KEY_HERE, METHOD_NONE, METHOD_PASSWORD, METHOD_PUBLICKEY, METHOD_SIGNED, READING_DEPLOYED, READING_STRICT, STRICT_NO, STRICT_YES}

-- a side tells whether it is willing to be strict: the number isn't left out
abbrev pub IsStrictness : ℕ → Type 0
IsStrictness number = (number ≡ STRICT_YES) ⊎ (number ≡ STRICT_NO)

-- a side tells by which grammar it reads its peer's version line, or leaves that out: as deployed peers write it is 0
abbrev pub IsPeerReading : ℕ → Type 0
IsPeerReading number = (number ≡ READING_DEPLOYED) ⊎ (number ≡ READING_STRICT)

-- a method is one of the three, none of which is 0
abbrev pub IsMethod : ℕ → Type 0
IsMethod number = (number ≡ METHOD_NONE) ⊎ ((number ≡ METHOD_PASSWORD) ⊎ (number ≡ METHOD_PUBLICKEY))

-- an attempt has a method, which asks for a signature only where the client asks, and a yes or no
pub record IsAttempt (asks : Bool) (attempt : AttemptInput) : Type 0 where
  pub method : IsMethod attempt.method ⊎ ((attempt.method ≡ METHOD_SIGNED) × (asks ≡ true))
  pub ask : attempt.ask ≤ 1

-- An entry has a user, and what its method wants: no bytes where the user is accepted without a proof, and else some. A password has no
-- more bytes than are looked at.
pub record IsEntry (entry : UserInput) : Type 0 where
  pub user : entry.user.now ≢ []
  pub method : IsMethod entry.method
  pub unproved : entry.method ≡ METHOD_NONE → entry.proof.now ≡ []
  pub proved : entry.method ≢ METHOD_NONE → entry.proof.now ≢ []
  pub short : entry.method ≡ METHOD_PASSWORD → length entry.proof.now ≤ PASSWORD_LIMIT

-- a host key is here, or where the server asks elsewhere
abbrev pub IsPlaced : Bool → HostKeyInput → Type 0
IsPlaced asks key = (key.place ≡ KEY_HERE) ⊎ ((key.place ≡ KEY_ELSEWHERE) × (asks ≡ true))

-- Each number of a client's input is one of its field's. Each attempt has the number of a method; one whose signature is made elsewhere
-- only where the client asks.
pub record IsClientRead (client : ClientInput) : Type 0 where
  pub strict : IsStrictness client.side.strict
  pub reading : IsPeerReading client.side.reading
  pub guess : client.guess ≤ 1
  pub asks : client.asks ≤ 1
  pub plan : AllByRecursion (IsAttempt (client.asks == 1)) client.plan.now

-- Each number of a server's input is one of its field's. A host key is elsewhere only where the server asks. Where it doesn't ask, each
-- entry of its users has a user, the number of a method and a proof that fits.
pub record IsServerRead (server : ServerInput) : Type 0 where
  pub strict : IsStrictness server.side.strict
  pub reading : IsPeerReading server.side.reading
  pub asks : server.asks ≤ 1
  pub host_keys : AllByRecursion (IsPlaced (server.asks == 1)) server.host_keys.now
  pub users : server.asks ≢ 1 → AllByRecursion IsEntry server.users.now
