-- A payload that is made to be sent.

use Rattle.std.specs.Prelude.{◌≡◌, List, ℕ}
use Rattle.sshcore.specs.History.{FitsPacket}

-- these bytes are the payload, which fits a packet (RFC 4253 section 6.1)
pub record IsMade (payload bytes : List ℕ) : Type 0 where
  pub same : bytes ≡ payload
  pub fits : FitsPacket bytes
