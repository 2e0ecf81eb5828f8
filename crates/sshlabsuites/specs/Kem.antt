-- What the second suite for tests answers: packet_length in clear and covered by the tag, ciphers that go on from packet to packet,
-- shares that are bytes, and an answer that depends on the client's share. It is over SHA-256, insecure, and for tests alone.

use Rattle.std.specs.Prelude.{ℕ, ◌+◌, ◌-◌, ◌%◌, ◌^◌, ◌==◌, ◌&&◌, false, nat_eq, nat_le, if◌then◌else◌, true, List, [], ◌∷◌, ◌++◌, length, take, drop, slice_index, Option, None, Some}
use Rattle.std.specs.List.{ends_with}
use Rattle.std.specs.Str.{bytes_eq}
use Rattle.sha2.specs.Sha256.{sha256}
use Rattle.sshwire.specs.Types.{uint32}
use Rattle.sshpacket.specs.declared.suite.Need.TheVariants.{Signature}
use Rattle.sshwire.specs.declared.share_form.ShareForm.TheVariants.{Hybrid}
use Rattle.sshpacket.specs.KeysData.{KeysData}
use Rattle.sshpacket.specs.Packet.{number}
use Rattle.sshpacket.specs.Suite.{ResponseData, SuiteData}
use Rattle.sshlabsuites.specs.Lab.{lab, masked}
use Rattle.sshwire.specs.Masks.{xored}

-- the first four bytes in clear, and the others masked or unmasked
unfoldable pub crossed : KeysData → ℕ → List ℕ → List ℕ
crossed keys seq bytes = take 4 bytes ++ masked keys seq (drop 4 bytes)

-- the tag of a masked packet with this number, which covers the length in clear
unfoldable pub kem_tag : KeysData → ℕ → List ℕ → List ℕ
kem_tag keys seq covered = take 16 (sha256 (keys.enc ++ uint32 seq ++ covered))

-- the packet, masked after its length, and its tag
unfoldable pub kem_seal : KeysData → ℕ → List ℕ → List ℕ
kem_seal keys seq clear = crossed keys seq clear ++ kem_tag keys seq (crossed keys seq clear)

-- the packet, where the tag is its own
unfoldable pub kem_checked : KeysData → ℕ → List ℕ → List ℕ → Option (List ℕ)
kem_checked keys seq covered found = if bytes_eq found (kem_tag keys seq covered) then Some (crossed keys seq covered) else None

-- a sealed packet has a length field and a tag at least; its last 16 bytes are the tag
unfoldable pub kem_unseal : KeysData → ℕ → List ℕ → Option (List ℕ)
kem_unseal keys seq sealed =
    if nat_le 20 (length sealed) then kem_checked keys seq (take (length sealed - 16) sealed) (drop (length sealed - 16) sealed) else None

-- the vector after a packet of so many bytes: its last four bytes are a number, to which these are added, in 32 bits
unfoldable pub counted_iv : List ℕ → ℕ → List ℕ
counted_iv iv len = take 8 iv ++ uint32 ((number (drop 8 iv) + len % 2 ^ 32) % 2 ^ 32)

-- a cipher whose name ends with go goes on from packet to packet by vectors of 12 bytes, and no other does
unfoldable pub kem_next_iv : KeysData → ℕ → List ℕ
kem_next_iv keys len = if ends_with nat_eq keys.cipher (103 ∷ 111 ∷ []) && (length keys.iv == 12) then counted_iv keys.iv len else keys.iv

-- the client's share of 32 random bytes
abbrev pub kem_share : List ℕ → List ℕ
kem_share random = 2 ∷ random

-- what the server answers to it, from its own random bytes: those, masked by the client's share
abbrev pub kem_answer : List ℕ → List ℕ → List ℕ
kem_answer random peer = 3 ∷ xored random (drop 1 peer)

-- the shared secret: a hash of the server's random bytes and both shares
unfoldable pub kem_number : List ℕ → List ℕ → List ℕ → List ℕ
kem_number random client server = sha256 (random ++ client ++ server)

-- the server's answer and number, where that is a client's share
unfoldable pub kem_respond : List ℕ → List ℕ → Option ResponseData
kem_respond random peer =
    if (length peer == 33) && (slice_index peer 0 == 2) then
    Some (record { share = kem_answer random peer; shared = kem_number random peer (kem_answer random peer) })
    else None

-- the client's number, where that is a server's answer
unfoldable pub kem_shared : List ℕ → List ℕ → Option (List ℕ)
kem_shared random peer =
    if (length peer == 33) && (slice_index peer 0 == 3) then Some (kem_number (xored (drop 1 peer) random) (kem_share random) peer) else None

-- the answers of the suite; blocks, padding, hashes and host keys are those of the lab suite
abbrev pub kem : SuiteData
kem = record {
  need = λ kex. Signature;
  can = λ algorithm. record { signature = true; encryption = false };
  block = lab.block;
  tag_len = λ cipher mac. 16;
  counts_length = λ cipher mac. false;
  key_lens = λ cipher mac. record { iv = 12; enc = 64; mac = 0 };
  seal = kem_seal;
  head = λ keys seq first. number first;
  unseal = kem_unseal;
  next_iv = kem_next_iv;
  padding = lab.padding;
  share_form = λ kex. Hybrid;
  share = λ kex random. kem_share random;
  shared = λ kex random peer. kem_shared random peer;
  respond = λ kex random peer. kem_respond random peer;
  digest = lab.digest;
  blob = lab.blob;
  holds = lab.holds;
  sign = lab.sign;
  verify = lab.verify;
}
