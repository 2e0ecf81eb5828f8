-- How much an endpoint takes that says nothing (profile). A limit is in bytes of packets: each counts its payload, and as much more
-- as a packet has beside its payload at most. Nothing counts that came before NEWKEYS, where strictness is the bound.

use Rattle.std.specs.Prelude.{ℕ, ◌+◌, ◌-◌, ◌&&◌, Bool, true, false, not, nat_le, if◌then◌else◌, List, [], ◌∷◌, length, sum, Option, None, Some}
use Rattle.sshmsg.specs.declared.numbers.TheConstants.{SSH_MSG_NEWKEYS}
use Rattle.sshmsg.specs.MessageData.{KexInitData}
use Rattle.sshmsg.specs.Numbers.{message_number}
use Rattle.sshneg.specs.declared.side.Side.{Side}
use Rattle.sshpacket.specs.Places.{flat_places}
use Rattle.sshpacket.specs.Stream.{Units}
use Rattle.sshcore.specs.declared.config_parts.TheConstants.{IGNORED_OVERHEAD}
use Rattle.sshcore.specs.declared.phase_table.Disposition.{Disposition}
use Rattle.sshcore.specs.declared.phase_table.Disposition.TheVariants as disposition
use Rattle.sshcore.specs.Before.{dropped, stood}
use Rattle.sshcore.specs.EndpointParts.{ConfigData}
use Rattle.sshcore.specs.Table.{is_ignorable}

-- what a packet with this payload counts
abbrev pub cost : List ℕ → ℕ
cost payload = length payload + IGNORED_OVERHEAD

-- a payload counts at its place: it came after NEWKEYS, says nothing, and isn't dropped
abbrev pub counts : Side → KexInitData → Units → List ℕ → Bool
counts role own before payload = stood role own SSH_MSG_NEWKEYS before && (is_ignorable (message_number payload) && not (dropped role own before payload))

-- what those count that stood
unfoldable pub costs : Side → KexInitData → Units → List ℕ
costs role own before = flat_places (λ b payload. if counts role own b payload then cost payload ∷ [] else []) [] before

-- what is left of an allowance, if there is one
abbrev pub less : Option ℕ → ℕ → Option ℕ
less None spent = None
less (Some limit) spent = Some (limit - spent)

-- how many bytes may still come: none are counted before NEWKEYS, and then the config's limit is less what stood
abbrev pub allowance_at : Side → ConfigData → Units → Option ℕ
allowance_at role config before =
    if stood role config.offer SSH_MSG_NEWKEYS before then less config.ignored_limit (sum (costs role config.offer before)) else None

-- how many bytes may still come after one payload more (profile)
abbrev pub allowance_after : Option ℕ → List ℕ → Option ℕ
allowance_after left payload = if is_ignorable (message_number payload) then less left (cost payload) else left

-- so many bytes are more than may still come, if there is a limit
abbrev pub exceeds : ℕ → Option ℕ → Bool
exceeds bytes None = false
exceeds bytes (Some left) = not (nat_le bytes left)

-- the payload is one that may be ignored, and it counts more than may still come (profile)
abbrev pub overspends : Option ℕ → List ℕ → Bool
overspends left payload = is_ignorable (message_number payload) && exceeds (cost payload) left

-- what is taken where it says nothing: what the phase table lets read, and what has no meaning
abbrev pub is_taken : Disposition → Bool
is_taken disposition.Reads = true
is_taken disposition.Unknown = true
is_taken _ = false
