-- A signature that was made elsewhere, by a key that the suite doesn't hold.

use Rattle.std.specs.Prelude.{ℕ, if◌then◌else◌, nat_le, List, length, Option, None, Some}
use Rattle.sshpacket.specs.declared.limits.TheConstants.{SIGNATURE_LIMIT}

-- one that is longer than a suite's is none (profile)
abbrev pub fitting : Option (List ℕ) → Option (List ℕ)
fitting None = None
fitting (Some signature) = if nat_le (length signature) SIGNATURE_LIMIT then Some signature else None
