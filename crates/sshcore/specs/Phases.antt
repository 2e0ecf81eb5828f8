-- What an endpoint waits for, by the payloads that stood before.

use Rattle.std.specs.Prelude.{ℕ, Bool, true, false, not, if◌then◌else◌}
use Rattle.sshmsg.specs.declared.numbers.TheConstants.{SSH_MSG_KEXDH_INIT, SSH_MSG_KEXDH_REPLY, SSH_MSG_KEXINIT, SSH_MSG_NEWKEYS, SSH_MSG_SERVICE_ACCEPT, SSH_MSG_SERVICE_REQUEST, SSH_MSG_USERAUTH_REQUEST, SSH_MSG_USERAUTH_SUCCESS}
use Rattle.sshmsg.specs.MessageData.{KexInitData}
use Rattle.sshneg.specs.declared.side.Side.{Side}
use Rattle.sshneg.specs.declared.side.Side.TheVariants.{Client, Server}
use Rattle.sshpacket.specs.Stream.{Units}
use Rattle.sshcore.specs.declared.phase_table.Phase.{Phase}
use Rattle.sshcore.specs.declared.phase_table.Phase.TheVariants as phase
use Rattle.sshcore.specs.Before.{stood}

-- The number of the message that leaves a phase: RFC 4253 sections 7.1, 8, 7.3 and 10, RFC 4252 sections 5 and 5.1. A request
-- leaves phase auth where it is successful, and the endpoint has then ended.
abbrev pub leaving : Side → Phase → ℕ
leaving role phase.KexInit = SSH_MSG_KEXINIT
leaving Client phase.Exchange = SSH_MSG_KEXDH_REPLY
leaving Server phase.Exchange = SSH_MSG_KEXDH_INIT
leaving role phase.NewKeys = SSH_MSG_NEWKEYS
leaving Client phase.Service = SSH_MSG_SERVICE_ACCEPT
leaving Server phase.Service = SSH_MSG_SERVICE_REQUEST
leaving Client phase.Auth = SSH_MSG_USERAUTH_SUCCESS
leaving Server phase.Auth = SSH_MSG_USERAUTH_REQUEST

-- the first phase whose leaving message hasn't stood, of whether those of kexinit, exchange, newkeys and service have
abbrev pub phase_by : Bool → Bool → Bool → Bool → Phase
phase_by kexinit exchange newkeys service =
    if not kexinit then phase.KexInit
    else if not exchange then phase.Exchange
    else if not newkeys then phase.NewKeys
    else if not service then phase.Service
    else phase.Auth

-- the phase after these payloads
abbrev pub phase_at : Side → KexInitData → Units → Phase
phase_at role own before =
    phase_by (stood role own SSH_MSG_KEXINIT before) (stood role own (leaving role phase.Exchange) before)
    (stood role own SSH_MSG_NEWKEYS before) (stood role own (leaving role phase.Service) before)

-- the phase is later than `KexInit`
abbrev pub past_kexinit : Phase → Bool
past_kexinit phase.KexInit = false
past_kexinit _ = true

-- the phase is later than `Exchange`
abbrev pub past_exchange : Phase → Bool
past_exchange phase.KexInit = false
past_exchange phase.Exchange = false
past_exchange _ = true

-- the phase is later than `NewKeys`
abbrev pub past_newkeys : Phase → Bool
past_newkeys phase.Service = true
past_newkeys phase.Auth = true
past_newkeys _ = false

-- the phase is later than `Service`
abbrev pub past_service : Phase → Bool
past_service phase.Auth = true
past_service _ = false

-- the phase after one
abbrev pub next_phase : Phase → Phase
next_phase phase.KexInit = phase.Exchange
next_phase phase.Exchange = phase.NewKeys
next_phase phase.NewKeys = phase.Service
next_phase phase.Service = phase.Auth
next_phase phase.Auth = phase.Auth
