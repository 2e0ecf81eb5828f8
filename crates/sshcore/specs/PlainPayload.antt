-- A payload that is sent and changes no keys.

use Rattle.std.specs.Prelude.{◌≡◌, ◌==◌, false, List, ℕ}
use Rattle.sshmsg.specs.declared.numbers.TheConstants.{SSH_MSG_NEWKEYS}
use Rattle.sshmsg.specs.Numbers.{message_number}
use Rattle.sshcore.specs.History.{FitsPacket}

-- it fits a packet, and is no NEWKEYS (RFC 4253 sections 6.1 and 7.3)
pub record IsPlainPayload (payload : List ℕ) : Type 0 where
  pub fits : FitsPacket payload
  pub quiet : (message_number payload == SSH_MSG_NEWKEYS) ≡ false
