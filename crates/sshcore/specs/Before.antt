-- What stood before a place of the payloads that an endpoint received: the peer's KEXINIT, the packet of a wrong guess, and the
-- messages that were kept. `before` are the payloads before the place; the text of the peer's version line isn't among them.

use Rattle.std.specs.Prelude.{ℕ, ◌==◌, ◌&&◌, Bool, false, not, if◌then◌else◌, List, [], ◌∷◌, length, Option, None, Some}
use Rattle.sshmsg.specs.declared.numbers.TheConstants.{SSH_MSG_DISCONNECT, SSH_MSG_KEXINIT}
use Rattle.sshmsg.specs.MessageData.{KexInitData}
use Rattle.sshmsg.specs.Numbers.{message_number}
use Rattle.sshneg.specs.declared.side.Side.{Side}
use Rattle.sshneg.specs.ExchangeEnd.{client_of, offer_in, server_of}
use Rattle.sshneg.specs.Strictness.{is_right_guess, is_strict}
use Rattle.sshpacket.specs.Places.{after_first, count_places, first_where, flat_places, stands}
use Rattle.sshpacket.specs.Stream.{Units}
use Rattle.sshcore.specs.EndpointParts.{ConfigData}

-- the payload is a KEXINIT, by its number (RFC 4253 section 7.1)
abbrev pub is_kexinit : Units → List ℕ → Bool
is_kexinit before payload = message_number payload == SSH_MSG_KEXINIT

-- a KEXINIT stood (RFC 4253 section 7.1)
unfoldable pub offered : Units → Bool
offered before = stands is_kexinit [] before

-- the first KEXINIT, or nothing (RFC 4253 section 7.1)
unfoldable pub kexinit : Units → List ℕ
kexinit before = first_where [] is_kexinit [] before

-- what the peer's KEXINIT offers, if it can be read (RFC 4253 section 7.1)
abbrev pub peer_offer : Units → Option KexInitData
peer_offer before = offer_in (kexinit before)

-- how many payloads came after the first KEXINIT
unfoldable pub since_offer : Units → ℕ
since_offer before = length (after_first is_kexinit [] before)

-- a peer that offers this announced a guess, and it is wrong (RFC 4253 section 7)
abbrev pub wrong_guess : Side → KexInitData → Option KexInitData → Bool
wrong_guess role own None = false
wrong_guess role own (Some peer) = peer.first_kex_packet_follows && not (is_right_guess (client_of role own peer) (server_of role own peer))

-- the place right after the first KEXINIT, where that announced a wrong guess (RFC 4253 section 7)
unfoldable pub expects_guess : Side → KexInitData → Units → Bool
expects_guess role own before = offered before && (since_offer before == 0 && wrong_guess role own (peer_offer before))

-- The packet at that place is dropped unread (RFC 4253 section 7: the next packet is ignored), a DISCONNECT excepted (profile).
abbrev pub dropped : Side → KexInitData → Units → List ℕ → Bool
dropped role own before payload = expects_guess role own before && not (message_number payload == SSH_MSG_DISCONNECT)

-- a payload of this number that isn't dropped
abbrev pub kept : Side → KexInitData → ℕ → Units → List ℕ → Bool
kept role own n before payload = message_number payload == n && not (dropped role own before payload)

-- one stood
unfoldable pub stood : Side → KexInitData → ℕ → Units → Bool
stood role own n before = stands (kept role own n) [] before

-- the first that stood, or nothing
unfoldable pub first_kept : Side → KexInitData → ℕ → Units → List ℕ
first_kept role own n before = first_where [] (kept role own n) [] before

-- all payloads that weren't dropped and whose number passes the test, in order
unfoldable pub all_kept : Side → KexInitData → (ℕ → Bool) → Units → Units
all_kept role own test before =
    flat_places (λ b payload. if test (message_number payload) && not (dropped role own b payload) then payload ∷ [] else []) [] before

-- how many payloads of this number weren't dropped
unfoldable pub count_kept : Side → KexInitData → ℕ → Units → ℕ
count_kept role own n before = count_places (kept role own n) [] before

-- how many payloads came after the first of this number that wasn't dropped
unfoldable pub since : Side → KexInitData → ℕ → Units → ℕ
since role own n before = length (after_first (kept role own n) [] before)

-- an endpoint with this flag is strict towards a peer that offers this (OpenSSH PROTOCOL section 1.10)
abbrev pub strict_towards : Side → Bool → Option KexInitData → Bool
strict_towards role flag None = false
strict_towards role flag (Some peer) = is_strict flag role peer

-- an endpoint is strict from the peer's KEXINIT on, if it shows the peer's marker
abbrev pub strict_at : Side → ConfigData → Units → Bool
strict_at role config before = strict_towards role config.strict (peer_offer before)
