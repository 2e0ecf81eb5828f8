-- The phase table: what a packet is to an endpoint, by its number and by what the endpoint waits for. The lines stand in the
-- order in which they are tried, and the first that applies decides.

use Rattle.std.specs.Prelude.{ℕ, ◌==◌, ◌&&◌, ◌||◌, Bool, true, false, not, nat_le, if◌then◌else◌}
use Rattle.sshmsg.specs.declared.numbers.TheConstants.{SSH_MSG_DISCONNECT, SSH_MSG_EXT_INFO, SSH_MSG_USERAUTH_BANNER, SSH_MSG_USERAUTH_FAILURE, SSH_MSG_USERAUTH_PK_OK, SSH_MSG_USERAUTH_REQUEST}
use Rattle.sshneg.specs.declared.side.Side.{Side}
use Rattle.sshneg.specs.declared.side.Side.TheVariants.{Client, Server}
use Rattle.sshcore.specs.declared.phase_table.Disposition.{Disposition}
use Rattle.sshcore.specs.declared.phase_table.Disposition.TheVariants as disposition
use Rattle.sshcore.specs.declared.phase_table.Phase.{Phase}
use Rattle.sshcore.specs.declared.phase_table.Phase.TheVariants as phase
use Rattle.sshcore.specs.Phases.{leaving}

-- the number is from low to high, both included
abbrev pub within : ℕ → ℕ → ℕ → Bool
within low high n = nat_le low n && nat_le n high

-- strictness rules the packets from KEXINIT to NEWKEYS (OpenSSH PROTOCOL section 1.10); those before KEXINIT are judged there
abbrev pub is_ruled : Phase → Bool → Bool
is_ruled phase.Exchange strict = strict
is_ruled phase.NewKeys strict = strict
is_ruled _ strict = false

-- 30 to 49 are the key exchange method's own (RFC 4250 section 4.1.1), so a guess has one of them
abbrev pub is_of_method : ℕ → Bool
is_of_method n = within 30 49 n

-- The messages of authentication: a server receives requests, a client FAILUREs and banners, and a PK_OK while a query waits for
-- its answer (RFC 4252 sections 5, 5.1, 5.4 and 7). A SUCCESS leaves the phase.
abbrev pub is_of_auth : Side → Phase → Bool → ℕ → Bool
is_of_auth Server phase.Auth waits n = n == SSH_MSG_USERAUTH_REQUEST
is_of_auth Client phase.Auth waits n = n == SSH_MSG_USERAUTH_FAILURE || (n == SSH_MSG_USERAUTH_BANNER || (waits && n == SSH_MSG_USERAUTH_PK_OK))
is_of_auth role _ waits n = false

-- IGNORE, UNIMPLEMENTED and DEBUG may come at any time (RFC 4253 section 11)
abbrev pub is_ignored : ℕ → Bool
is_ignored n = within 2 4 n

-- EXT_INFO has a place after NEWKEYS (RFC 8308 section 2.4, taken more widely: profile)
abbrev pub takes_extensions : Phase → Bool
takes_extensions phase.Service = true
takes_extensions phase.Auth = true
takes_extensions _ = false

-- numbers without a meaning here, up to the end of authentication (RFC 4253 section 11.4, RFC 4250 section 4.1); that of PK_OK has one
abbrev pub is_unknown : ℕ → Bool
is_unknown n = within 8 19 n || (within 22 29 n || (within 32 49 n || (within 54 59 n || within 61 79 n)))

-- Numbers of messages that say nothing to an endpoint: what may come at any time, EXT_INFO, and what has no meaning here. Where one
-- is taken the endpoint goes on as it was (profile).
abbrev pub is_ignorable : ℕ → Bool
is_ignorable n = is_ignored n || (n == SSH_MSG_EXT_INFO || is_unknown n)

-- The phase table (RFC 4253 sections 7 and 11, OpenSSH PROTOCOL section 1.10; the order of the lines is profile). `guess` says that the
-- packet of a wrong guess is due, `waits` that a query waits for its answer. The lines, in order: a DISCONNECT; the packet of a wrong
-- guess, where strictness doesn't rule; that packet, with a number of the method's own; what strictness doesn't require; what leaves the
-- phase. Then: what is of authentication; what is ignored; EXT_INFO; what has no meaning; what has no use.
unfoldable pub disposition_by : Side → Phase → Bool → Bool → Bool → ℕ → Disposition
disposition_by role p strict guess waits n =
    if n == SSH_MSG_DISCONNECT then disposition.Reads
    else if guess && not (is_ruled p strict) then disposition.Drops
    else if guess && is_of_method n then disposition.Drops
    else if is_ruled p strict && (guess || not (n == leaving role p)) then disposition.Deviates
    else if n == leaving role p then disposition.Reads
    else if is_of_auth role p waits n then disposition.Reads
    else if is_ignored n then disposition.Reads
    else if n == SSH_MSG_EXT_INFO && takes_extensions p then disposition.Reads
    else if is_unknown n then disposition.Unknown
    else disposition.Unexpected
