-- A key while it grows.

use Rattle.std.specs.Prelude.{◌≡◌, ℕ, ◌+◌, ◌<◌, ◌≤◌, List, length, take}
use Rattle.sshneg.specs.Derivations.{KeyMaterialData, grown}
use Rattle.sshpacket.specs.Suite.{SuiteData}
use Rattle.sshpacket.specs.declared.limits.TheConstants.{DIGEST_LIMIT}

-- after so many rounds of a key of at most 255 bytes there is the prefix of as many hashes, and all of them while it is too short
pub record Grows (m : SuiteData) (x : KeyMaterialData) (first : List ℕ) (len count : ℕ) (bytes : List ℕ) : Type 0 where
  pub same_prefix : take len bytes ≡ take len (grown m x first count)
  pub same : length bytes < len → bytes ≡ grown m x first count
  pub short : length bytes ≤ 255 + DIGEST_LIMIT
