-- What the lab suite answers. It is over SHA-256, insecure, and for tests alone.

use Rattle.std.specs.Prelude.{ℕ, zero, suc, ◌+◌, ◌-◌, ◌/◌, ◌==◌, ◌&&◌, true, nat_eq, nat_le, if◌then◌else◌, List, [], ◌∷◌, ◌++◌, length, take, drop, slice_index, Option, None, Some, option_map}
use Rattle.std.specs.List.{ends_with, starts_with}
use Rattle.std.specs.Str.{bytes_eq}
use Rattle.sha2.specs.Sha256.{sha256}
use Rattle.sshwire.specs.Masks.{xored}
use Rattle.sshwire.specs.Types.{string, uint32}
use Rattle.sshpacket.specs.declared.suite.Capability.{Capability}
use Rattle.sshpacket.specs.declared.suite.Need.{Need}
use Rattle.sshpacket.specs.declared.suite.Need.TheVariants.{Encryption, Signature}
use Rattle.sshwire.specs.declared.share_form.ShareForm.TheVariants.{Mpint}
use Rattle.sshpacket.specs.KeysData.{KeysData}
use Rattle.sshpacket.specs.Packet.{number}
use Rattle.sshpacket.specs.Suite.{ResponseData, SuiteData}

-- a method whose name begins with x needs a host key that encrypts, every other one that signs
abbrev pub lab_need : List ℕ → Need
lab_need kex = if starts_with nat_eq kex (120 ∷ []) then Encryption else Signature

-- every host key signs, and one whose name begins with e encrypts
abbrev pub lab_can : List ℕ → Capability
lab_can algorithm = record { signature = true; encryption = starts_with nat_eq algorithm (101 ∷ []) }

-- the block of a cipher whose name ends with 16 is 16, of every other one 8
abbrev pub lab_block : List ℕ → ℕ
lab_block cipher = if ends_with nat_eq cipher (49 ∷ 54 ∷ []) then 16 else 8

-- what the n-th block of a stream is the hash of
abbrev pub block_input : List ℕ → ℕ → ℕ → List ℕ
block_input seed seq n = seed ++ uint32 seq ++ uint32 n

-- the first n blocks of the stream of a seed and a packet's number, each of 32 bytes
unfoldable pub stream : List ℕ → ℕ → ℕ → List ℕ
stream seed seq zero = []
stream seed seq (suc n) = stream seed seq n ++ sha256 (block_input seed seq n)

-- how many blocks cover so many bytes
abbrev pub blocks_for : ℕ → ℕ
blocks_for len = (len + 31) / 32

-- the key stream for so many bytes of the packet with this number
unfoldable pub key_stream : KeysData → ℕ → ℕ → List ℕ
key_stream keys seq len = stream (keys.enc ++ keys.iv) seq (blocks_for len)

-- the bytes of a packet, masked or unmasked
unfoldable pub masked : KeysData → ℕ → List ℕ → List ℕ
masked keys seq bytes = xored bytes (key_stream keys seq (length bytes))

-- the tag of a clear packet with this number
unfoldable pub tag : KeysData → ℕ → List ℕ → List ℕ
tag keys seq clear = sha256 (keys.mac_key ++ uint32 seq ++ clear)

-- the masked packet, then its tag
unfoldable pub lab_seal : KeysData → ℕ → List ℕ → List ℕ
lab_seal keys seq clear = masked keys seq clear ++ tag keys seq clear

-- the uint32 in the first four bytes, unmasked
unfoldable pub lab_head : KeysData → ℕ → List ℕ → ℕ
lab_head keys seq first = number (masked keys seq first)

-- the packet, where the tag is its own and its length field counts it
unfoldable pub checked : KeysData → ℕ → List ℕ → List ℕ → Option (List ℕ)
checked keys seq clear found =
    if bytes_eq found (tag keys seq clear) && (number clear + 4 == length clear) then Some clear else None

-- a sealed packet has a length field and a tag at least; its last 32 bytes are the tag
unfoldable pub lab_unseal : KeysData → ℕ → List ℕ → Option (List ℕ)
lab_unseal keys seq sealed =
    if nat_le 36 (length sealed) then
    checked keys seq (masked keys seq (take (length sealed - 32) sealed)) (drop (length sealed - 32) sealed)
    else None

-- so many bytes of the stream of the seed
unfoldable pub lab_padding : List ℕ → ℕ → ℕ → List ℕ
lab_padding seed seq len = take len (stream seed seq (blocks_for len))

-- the share of 32 random bytes
abbrev pub lab_share : List ℕ → List ℕ
lab_share random = 1 ∷ random

-- what 32 random bytes and the peer's share make, where that is a share
unfoldable pub lab_shared : List ℕ → List ℕ → Option (List ℕ)
lab_shared random peer =
    if (length peer == 33) && (slice_index peer 0 == 1) then Some (1 ∷ xored (drop 1 peer) random) else None

-- the server's answer: its own share, beside the shared secret
abbrev pub lab_respond : List ℕ → List ℕ → Option ResponseData
lab_respond random peer = option_map (λ body. record { share = lab_share random; shared = body }) (lab_shared random peer)

-- the public key of a private key: the name of the algorithm, and the hash of the private key
unfoldable pub lab_blob : List ℕ → List ℕ → List ℕ
lab_blob algorithm private_key = string algorithm ++ string (sha256 private_key)

-- the signature of the input by the key of this blob
unfoldable pub signature_by : List ℕ → List ℕ → List ℕ
signature_by blob input = sha256 (string blob ++ string input)

-- the answers of the lab suite
abbrev pub lab : SuiteData
lab = record {
  need = lab_need;
  can = lab_can;
  block = lab_block;
  tag_len = λ cipher mac. 32;
  counts_length = λ cipher mac. true;
  key_lens = λ cipher mac. record { iv = 16; enc = 48; mac = 32 };
  seal = lab_seal;
  head = lab_head;
  unseal = lab_unseal;
  next_iv = λ keys len. keys.iv;
  padding = lab_padding;
  share_form = λ kex. Mpint;
  share = λ kex random. lab_share random;
  shared = λ kex random peer. lab_shared random peer;
  respond = λ kex random peer. lab_respond random peer;
  digest = λ kex input. sha256 input;
  blob = lab_blob;
  holds = λ algorithm private_key. true;
  sign = λ algorithm private_key input. signature_by (lab_blob algorithm private_key) input;
  verify = λ algorithm blob input signature. bytes_eq signature (signature_by blob input);
}
