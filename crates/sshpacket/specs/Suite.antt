-- What a suite of algorithms answers, as functions on byte lists, and the laws that hold of them.

use Rattle.std.specs.Prelude.{◌≡◌, ℕ, ◌+◌, ◌^◌, ◌<◌, ◌≤◌, ◌⊎◌, Bool, true, false, List, [], ◌∷◌, length, take, slice_index, Option, None, Some, option_map}
use Rattle.sshwire.specs.Types.{IsBytes, IsName}
use Rattle.sshpacket.specs.declared.suite.Capability.{Capability}
use Rattle.sshpacket.specs.declared.suite.KeyLens.{KeyLens}
use Rattle.sshpacket.specs.declared.suite.Need.{Need}
use Rattle.sshpacket.specs.declared.suite.Response.{Response}
use Rattle.sshwire.specs.declared.share_form.ShareForm.{ShareForm}
use Rattle.sshwire.specs.declared.share_form.ShareForm.TheVariants.{Hybrid, Mpint, OctetString}
use Rattle.sshpacket.specs.KeysData.{KeysData}
use Rattle.sshpacket.specs.Packet.{IsPacket, number}
use Rattle.sshpacket.specs.declared.limits.TheConstants.{BLOB_LIMIT, BLOCK_LIMIT, DIGEST_LIMIT, KEY_LIMIT, SHARE_LIMIT, SIGNATURE_LIMIT, TAG_LIMIT}

-- the server's answer to a client's share: its own share, and the shared secret (RFC 4253 section 8)
pub record ResponseData : Type 0 where
  pub share : List ℕ
  pub shared : List ℕ

-- the twin of a `Response`
abbrev pub response_data : Response → ResponseData
response_data r = record { share = r.share.items; shared = r.shared.items }

-- The meaning of a suite: functions on byte lists, one for each call of `Suite`. `share` is that of the call `public`, and `next_iv` the
-- initialisation vector that `advance` leaves. `holds` says which private keys the suite has itself; for any other bytes in their place
-- `blob` gives the public key (profile).
pub record SuiteData : Type 0 where
  pub need : List ℕ → Need
  pub can : List ℕ → Capability
  pub block : List ℕ → ℕ
  pub tag_len : List ℕ → List ℕ → ℕ
  pub counts_length : List ℕ → List ℕ → Bool
  pub key_lens : List ℕ → List ℕ → KeyLens
  pub seal : KeysData → ℕ → List ℕ → List ℕ
  pub head : KeysData → ℕ → List ℕ → ℕ
  pub unseal : KeysData → ℕ → List ℕ → Option (List ℕ)
  pub next_iv : KeysData → ℕ → List ℕ
  pub padding : List ℕ → ℕ → ℕ → List ℕ
  pub share_form : List ℕ → ShareForm
  pub share : List ℕ → List ℕ → List ℕ
  pub shared : List ℕ → List ℕ → List ℕ → Option (List ℕ)
  pub respond : List ℕ → List ℕ → List ℕ → Option ResponseData
  pub digest : List ℕ → List ℕ → List ℕ
  pub blob : List ℕ → List ℕ → List ℕ
  pub holds : List ℕ → List ℕ → Bool
  pub sign : List ℕ → List ℕ → List ℕ → List ℕ
  pub verify : List ℕ → List ℕ → List ℕ → List ℕ → Bool

-- the keys of the next packet, after one of so many bytes with its tag: the suite gives the initialisation vector, and all else stays (RFC
-- 4253 section 6.3)
abbrev pub advanced : SuiteData → KeysData → ℕ → KeysData
advanced m keys len = record keys { iv = m.next_iv keys len }

-- the keys of the next packet, where packets may be in clear, which have no keys
abbrev pub next_keys : SuiteData → Option KeysData → ℕ → Option KeysData
next_keys m None len = None
next_keys m (Some keys) len = Some (advanced m keys len)

-- the keys after packets of these sizes (RFC 4253 section 6.3)
unfoldable pub all_advanced : SuiteData → KeysData → List ℕ → KeysData
all_advanced m keys [] = keys
all_advanced m keys (n ∷ ns) = all_advanced m (advanced m keys n) ns

-- the body of an mpint of a positive number (RFC 4253 section 8; the bound is profile)
pub record IsPositiveBody (body : List ℕ) : Type 0 where
  pub some : 0 < length body
  pub sign : slice_index body 0 < 128
  pub shortest : slice_index body 0 ≡ 0 → (1 < length body) × (128 ≤ slice_index body 1)
  pub short : length body ≤ SHARE_LIMIT

-- the body of an mpint of a positive number, or of zero, whose body has no byte (RFC 5656 section 4)
abbrev pub IsNumberBody : List ℕ → Type 0
IsNumberBody body = (body ≡ []) ⊎ IsPositiveBody body

-- whether a method's shares are numbers, so mpints; else they are bytes (RFC 4253 section 8, RFC 5656 section 4)
abbrev pub has_number_shares : ShareForm → Bool
has_number_shares Mpint = true
has_number_shares OctetString = false
has_number_shares Hybrid = false

-- whether what both sides share is a number, so an mpint: in the forms `Mpint` and `OctetString` (RFC 5656 section 4, RFC 8731 section 3)
abbrev pub shares_number : ShareForm → Bool
shares_number Mpint = true
shares_number OctetString = true
shares_number Hybrid = false

-- a share has its method's form: a positive number as an mpint, or bytes, at most 4096 (RFC 4253 section 8, RFC 5656 section 4; the bound
-- is profile)
abbrev pub FitsShare : ShareForm → List ℕ → Type 0
FitsShare Mpint share = IsPositiveBody share
FitsShare OctetString share = length share ≤ SHARE_LIMIT
FitsShare Hybrid share = length share ≤ SHARE_LIMIT

-- What both sides share has its method's form (RFC 4253 section 8, RFC 8731 section 3; the bound is profile). It is a positive number; or a
-- number that may be zero, since a curve has points whose number is zero; or bytes, at most 4096.
abbrev pub FitsShared : ShareForm → List ℕ → Type 0
FitsShared Mpint shared = IsPositiveBody shared
FitsShared OctetString shared = IsNumberBody shared
FitsShared Hybrid shared = length shared ≤ SHARE_LIMIT

-- a clear packet with this packet_length (RFC 4253 section 6)
pub record Keeps (n : ℕ) (clear : List ℕ) : Type 0 where
  pub length_is : length clear ≡ 4 + n
  pub field_is : number clear ≡ n
  pub bytes_are : IsBytes clear

-- the packet is one that is sealed with these keys (RFC 4253 section 6)
abbrev pub IsSealable : SuiteData → KeysData → List ℕ → List ℕ → Type 0
IsSealable m keys payload clear = IsBytes clear × IsPacket (m.counts_length keys.cipher keys.mac) (m.block keys.cipher) (m.tag_len keys.cipher keys.mac) payload clear

-- The laws of one end (RFC 4253 sections 6 to 8; the ranges are profile). Outside the conditions of a call its function may be chosen
-- freely, so the laws ask for no names where they don't need them. No law is on `next_iv`, not even on its length: sealing and unsealing
-- have their laws with any initialisation vector, and both sides make the next one by the same function.
pub record IsLawful (m : SuiteData) : Type 0 where
  -- sealing adds the tag, keeps the length field readable from the first four bytes alone, and is undone by unsealing
  pub seal_length : (keys : KeysData) (seq : ℕ) (payload clear : List ℕ) → seq < 2 ^ 32 → IsSealable m keys payload clear
      → length (m.seal keys seq clear) ≡ length clear + m.tag_len keys.cipher keys.mac
  pub head_of_seal : (keys : KeysData) (seq : ℕ) (payload clear : List ℕ) → seq < 2 ^ 32 → IsSealable m keys payload clear
      → m.head keys seq (take 4 (m.seal keys seq clear)) ≡ number clear
  pub unseal_of_seal : (keys : KeysData) (seq : ℕ) (payload clear : List ℕ) → seq < 2 ^ 32 → IsSealable m keys payload clear
      → m.unseal keys seq (m.seal keys seq clear) ≡ Some clear
  -- what is unsealed has the length that was read before, whatever came in
  pub unsealed : (keys : KeysData) (seq : ℕ) (sealed clear : List ℕ) → seq < 2 ^ 32 → IsBytes sealed
      → length sealed ≡ 4 + m.head keys seq (take 4 sealed) + m.tag_len keys.cipher keys.mac
      → m.unseal keys seq sealed ≡ Some clear → Keeps (m.head keys seq (take 4 sealed)) clear
  -- shares and shared secrets have the method's form
  pub share_fits : (kex a : List ℕ) → length a ≡ 32 → FitsShare (m.share_form kex) (m.share kex a)
  pub shared_fits : (kex a peer body : List ℕ) → length a ≡ 32 → m.shared kex a peer ≡ Some body → FitsShared (m.share_form kex) body
  pub response_fits : (kex a peer : List ℕ) (r : ResponseData) → length a ≡ 32 → m.respond kex a peer ≡ Some r
      → FitsShare (m.share_form kex) r.share × FitsShared (m.share_form kex) r.shared
  -- ranges
  pub block_low : (cipher : List ℕ) → 8 ≤ m.block cipher
  pub block_high : (cipher : List ℕ) → m.block cipher ≤ BLOCK_LIMIT
  pub tag_high : (cipher mac : List ℕ) → m.tag_len cipher mac ≤ TAG_LIMIT
  pub iv_high : (cipher mac : List ℕ) → (m.key_lens cipher mac).iv ≤ KEY_LIMIT
  pub enc_high : (cipher mac : List ℕ) → (m.key_lens cipher mac).enc ≤ KEY_LIMIT
  pub mac_high : (cipher mac : List ℕ) → (m.key_lens cipher mac).mac ≤ KEY_LIMIT
  pub padding_length : (seed : List ℕ) (seq len : ℕ) → length (m.padding seed seq len) ≡ len
  pub digest_low : (kex input : List ℕ) → 1 ≤ length (m.digest kex input)
  pub digest_high : (kex input : List ℕ) → length (m.digest kex input) ≤ DIGEST_LIMIT
  pub digest_even : (kex input other : List ℕ) → length (m.digest kex input) ≡ length (m.digest kex other)
  pub blob_high : (algorithm private_key : List ℕ) → IsName algorithm → length (m.blob algorithm private_key) ≤ BLOB_LIMIT
  pub sign_high : (algorithm private_key input : List ℕ) → IsName algorithm → length (m.sign algorithm private_key input) ≤ SIGNATURE_LIMIT
  -- what is sent is bytes
  pub seal_bytes : (keys : KeysData) (seq : ℕ) (clear : List ℕ) → IsBytes clear → IsBytes (m.seal keys seq clear)
  pub padding_bytes : (seed : List ℕ) (seq len : ℕ) → IsBytes (m.padding seed seq len)
  pub share_bytes : (kex a : List ℕ) → IsBytes a → IsBytes (m.share kex a)
  pub shared_bytes : (kex a peer body : List ℕ) → IsBytes a → IsBytes peer → m.shared kex a peer ≡ Some body → IsBytes body
  pub response_bytes : (kex a peer : List ℕ) (r : ResponseData) → IsBytes a → IsBytes peer → m.respond kex a peer ≡ Some r
      → IsBytes r.share × IsBytes r.shared

-- to the client's share of the one random the other is answered, and the client has the same shared secret from that answer (RFC 4253
-- section 8)
pub record Agrees (m : SuiteData) (kex client server : List ℕ) : Type 0 where
  pub answer : ResponseData
  pub responds : m.respond kex server (m.share kex client) ≡ Some answer
  pub same : m.shared kex client answer.share ≡ Some answer.shared

-- what is signed with this secret is verified by its blob (RFC 4253 section 6.6)
abbrev pub Signs : SuiteData → List ℕ → List ℕ → Type 0
Signs m algorithm private_key = (input : List ℕ) → m.verify algorithm (m.blob algorithm private_key) input (m.sign algorithm private_key input) ≡ true

-- the method answers as a Diffie-Hellman does: with the share of the own random, and the shared secret from the peer's share (RFC 4253
-- section 8)
abbrev pub AnswersAsDiffieHellman : SuiteData → List ℕ → Type 0
AnswersAsDiffieHellman m kex =
    (a peer : List ℕ) → m.respond kex a peer ≡ option_map (λ body. record { share = m.share kex a; shared = body }) (m.shared kex a peer)

-- The laws of two ends: both agree by every method and any two values of 32 random bytes, and every private key is held and signs.
pub record IsAgreeing (m : SuiteData) : Type 0 where
  -- both come to one shared secret
  pub agreed : (kex client server : List ℕ) → length client ≡ 32 → length server ≡ 32 → IsBytes client → IsBytes server → Agrees m kex client server
  -- every key is held, and signs
  pub held : (algorithm private_key : List ℕ) → m.holds algorithm private_key ≡ true
  pub signed : (algorithm private_key : List ℕ) → Signs m algorithm private_key
