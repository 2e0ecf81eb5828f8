-- What the layers above know of a share or a shared secret: bytes, not too many, and where it is a number its shortest body.

use Rattle.std.specs.Prelude.{◌≡◌, Bool, true, ℕ, ◌≤◌, List, length}
use Rattle.sshwire.specs.Types.{IsBytes, IsShortestBody}
use Rattle.sshpacket.specs.declared.limits.TheConstants.{SHARE_LIMIT}

-- A share or a shared secret: bytes, no more than the limit (profile), and the shortest body of an mpint where it is a number (RFC 4251
-- section 5, RFC 4253 section 8).
pub record IsShare (is_number : Bool) (body : List ℕ) : Type 0 where
  pub bytes : IsBytes body
  pub short : length body ≤ SHARE_LIMIT
  pub shortest : is_number ≡ true → IsShortestBody body
