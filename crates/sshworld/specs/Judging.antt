-- How a server judges one request that a client offers: RFC 4252 sections 5, 7 and 8.

use Rattle.std.specs.Prelude.{ℕ, ◌&&◌, Bool, true, not, List}
use Rattle.sshneg.specs.ChoiceReadings.{is_in}
use Rattle.sshpacket.specs.Suite.{SuiteData}
use Rattle.sshcore.specs.ConfigParts.{AttemptData, ByKey, ByNothing, ByPassword, CredentialData, ServerData}
use Rattle.sshcore.specs.EndpointParts.{DecisionsData, KeyProof, NoProof, PasswordProof, ProofData}
use Rattle.sshcore.specs.Plan.{asks, proving_name}

-- What an attempt proves of its user: nothing, a password, or a key, of which the server sees the public half (RFC 4252
-- sections 5.2, 8 and 7).
abbrev pub proved_by : SuiteData → CredentialData → ProofData
proved_by m ByNothing = NoProof
proved_by m (ByPassword password) = PasswordProof password
proved_by m (ByKey algorithm secret ask) = KeyProof algorithm (m.blob algorithm secret)

-- The method may be used: `none` always (RFC 4252 section 5.2), `password` where the server has it, and `publickey` where the server
-- has it and the suite signs with the algorithm (section 7).
abbrev pub is_usable : SuiteData → List (List ℕ) → CredentialData → Bool
is_usable m methods ByNothing = true
is_usable m methods (ByPassword password) = is_in methods (proving_name (ByPassword password))
is_usable m methods (ByKey algorithm secret ask) =
    is_in methods (proving_name (ByKey algorithm secret ask)) && (m.can algorithm).signature

-- Of request number j, counted from 1, the method may be used, and the server decides yes on what is proved of this user for this
-- service; or, of a query, on the key that it asks about.
abbrev pub is_proved : SuiteData → DecisionsData → ServerData → ℕ → AttemptData → Bool
is_proved m d server j attempt =
    is_usable m server.methods attempt.proving && d.user j attempt.user attempt.service (proved_by m attempt.proving)

-- The request is successful: it is so proved, and no query.
abbrev pub is_successful : SuiteData → DecisionsData → ServerData → ℕ → AttemptData → Bool
is_successful m d server j attempt = not (asks attempt.proving) && is_proved m d server j attempt
