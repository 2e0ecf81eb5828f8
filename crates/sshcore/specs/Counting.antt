-- The number of the next packet (RFC 4253 section 6.4): all packets count, the dropped one too; a strict endpoint counts anew
-- from 0 after the key switch (OpenSSH PROTOCOL section 1.10).

use Rattle.std.specs.Prelude.{ℕ, ◌%◌, ◌^◌, ◌==◌, ◌&&◌, Bool, if◌then◌else◌, List, [], length}
use Rattle.sshmsg.specs.declared.numbers.TheConstants.{SSH_MSG_NEWKEYS}
use Rattle.sshmsg.specs.Numbers.{message_number}
use Rattle.sshneg.specs.declared.side.Side.{Side}
use Rattle.sshpacket.specs.Places.{after_first, stands}
use Rattle.sshpacket.specs.Stream.{Units}
use Rattle.sshcore.specs.Before.{since, stood, strict_at}
use Rattle.sshcore.specs.EndpointParts.{ConfigData}

-- a sequence number: all packets, or, where the keys were switched and the endpoint is strict, those since; modulo 2^32 (RFC 4253 section
-- 6.4, OpenSSH PROTOCOL section 1.10)
abbrev pub number_by : Bool → Bool → ℕ → ℕ → ℕ
number_by switched strict since all = (if switched && strict then since else all) % 2 ^ 32

-- The sequence number of the next packet that is received (RFC 4253 section 6.4). A strict endpoint counts from 0 again after the first
-- NEWKEYS that isn't dropped (OpenSSH PROTOCOL section 1.10).
abbrev pub number_in : Side → ConfigData → Units → ℕ
number_in role config before =
    number_by (stood role config.offer SSH_MSG_NEWKEYS before) (strict_at role config before)
    (since role config.offer SSH_MSG_NEWKEYS before) (length before)

-- the payload is a NEWKEYS: of what is sent it is the key switch
abbrev pub is_newkeys : Units → List ℕ → Bool
is_newkeys before payload = message_number payload == SSH_MSG_NEWKEYS

-- NEWKEYS was sent, so what follows is sealed with keys (RFC 4253 section 7.3)
unfoldable pub switched_out : Units → Bool
switched_out sent = stands is_newkeys [] sent

-- The sequence number of the next packet that is sent (RFC 4253 section 6.4). A strict endpoint counts from 0 again after NEWKEYS (OpenSSH
-- PROTOCOL section 1.10).
unfoldable pub number_out : Bool → Units → ℕ
number_out strict sent = number_by (switched_out sent) strict (length (after_first is_newkeys [] sent)) (length sent)
