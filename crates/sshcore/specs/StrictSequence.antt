-- The payloads that strict key exchange requires up to NEWKEYS, in its own words: OpenSSH PROTOCOL section 1.10. The room for
-- the packet of a wrong guess is profile.

use Rattle.std.specs.Prelude.{◌≡◌, ◌≤◌, ℕ, true, List, [], ◌∷◌, ◌++◌, Some}
use Rattle.sshmsg.specs.MessageData.{KexInitData}
use Rattle.sshneg.specs.declared.side.Side.{Side}
use Rattle.sshneg.specs.declared.side.Side.TheVariants.{Client, Server}
use Rattle.sshneg.specs.ExchangeEnd.{client_of, offer_in, server_of}
use Rattle.sshneg.specs.Markers.{IsRightGuess}
use Rattle.sshpacket.specs.Stream.{Units}
use Rattle.sshcore.specs.declared.end.Fault.TheVariants as fault
use Rattle.sshcore.specs.EndData.{Closed, EndData, Failed}

-- the payload begins with this number
pub record HasNumber (n : ℕ) (payload : List ℕ) : Type 0 where
  pub fields : List ℕ
  pub payload_is : payload ≡ n ∷ fields

-- the number of the message by which the peer of this role gives its share (RFC 4253 section 8)
abbrev pub share_number : Side → ℕ
share_number Client = 31
share_number Server = 30

-- a guess was announced, and it isn't right (RFC 4253 section 7)
pub record IsWrongGuess (role : Side) (own peer : KexInitData) : Type 0 where
  pub announced : peer.first_kex_packet_follows ≡ true
  pub not_right : IsRightGuess (client_of role own peer) (server_of role own peer) → ⊥

-- a packet of the key exchange method's own numbers (RFC 4250 section 4.1.1)
pub record IsGuess (payload : List ℕ) : Type 0 where
  pub number : ℕ
  pub low : 30 ≤ number
  pub high : number ≤ 49
  pub has : HasNumber number payload

-- between KEXINIT and the share: the packet of a wrong guess, exactly where one was announced
pub data IsGuessPart (role : Side) (own peer : KexInitData) (payloads : Units) : Type 0 where
  Guessed : IsWrongGuess role own peer → (payload : List ℕ) → IsGuess payload → payloads ≡ payload ∷ [] → IsGuessPart role own peer payloads
  NotGuessed : (IsWrongGuess role own peer → ⊥) → payloads ≡ [] → IsGuessPart role own peer payloads

-- the payload is a KEXINIT with this offer (RFC 4253 section 7.1)
pub record IsOffered (peer : KexInitData) (payload : List ℕ) : Type 0 where
  pub has : HasNumber 20 payload
  pub offers : offer_in payload ≡ Some peer

-- KEXINIT, a wrong guess's packet, the peer's share, NEWKEYS, and nothing else
pub record IsStrictSequence (role : Side) (own : KexInitData) (payloads : Units) : Type 0 where
  pub peer : KexInitData
  pub kexinit : List ℕ
  pub guess : Units
  pub share : List ℕ
  pub newkeys : List ℕ
  pub payloads_are : payloads ≡ kexinit ∷ (guess ++ share ∷ newkeys ∷ [])
  pub offered : IsOffered peer kexinit
  pub guess_part : IsGuessPart role own peer guess
  pub share_has : HasNumber (share_number role) share
  pub newkeys_has : HasNumber 21 newkeys

-- a strict sequence stands first
pub record BeginsStrictly (role : Side) (own : KexInitData) (payloads : Units) : Type 0 where
  pub sequence : Units
  pub rest : Units
  pub is_sequence : IsStrictSequence role own sequence
  pub payloads_are : payloads ≡ sequence ++ rest

-- the payloads don't deviate: they begin with a strict sequence, or are a prefix of one
pub data Conforms (role : Side) (own : KexInitData) (payloads : Units) : Type 0 where
  Begins : BeginsStrictly role own payloads → Conforms role own payloads
  IsBegun : (sequence rest : Units) → IsStrictSequence role own sequence → sequence ≡ payloads ++ rest → Conforms role own payloads

-- how a deviation of this number ends an endpoint: as F7, or by a DISCONNECT, which may be malformed
pub data EndsStrictly (n : ℕ) (end : EndData) : Type 0 where
  AsStrict : end ≡ Failed (fault.Strict n) → EndsStrictly n end
  AsClosed : n ≡ 1 → (reason : ℕ) → end ≡ Closed reason → EndsStrictly n end
  AsMalformed : n ≡ 1 → end ≡ Failed (fault.Malformed 1) → EndsStrictly n end
