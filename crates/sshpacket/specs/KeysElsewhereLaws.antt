-- A suite whose keys are held elsewhere has the laws of the one that it does as.

use Rattle.std.proofs.Common.{◌≡◌, ◌∙◌, ◌≤◌, ℕ, Bool, true, false, cond, List, [], ap, arith, length, min, take}
use Rattle.std.proofs.lemmas.List.{length-take, take_min}
use Rattle.sshpacket.specs.declared.limits.TheConstants.{BLOB_LIMIT}
use Rattle.sshpacket.specs.KeysElsewhere.{begins_with_name, elsewhere, public_part}
use Rattle.sshpacket.specs.Suite.{IsLawful, SuiteData}

cut : (n : ℕ) (l : List ℕ) → length (take n l) ≤ n
cut n l = rw (length-take n l) (omega arith)

pub take_cut : (l : List ℕ) (n len : ℕ) → len ≡ min (length l) n → take len l ≡ take n l
take_cut l n len e =
    let other : min (length l) n ≡ min n (length l) = omega arith in
    ap (λ (k : ℕ). take k l) (e ∙ other) ∙ take_min n l

pub public_part_short : (bytes : List ℕ) → length (public_part bytes) ≤ BLOB_LIMIT
public_part_short bytes = by (begins_with_name bytes)
  where
    by : (b : Bool) → length (cond b (take BLOB_LIMIT bytes) []) ≤ BLOB_LIMIT
    by true = cut BLOB_LIMIT bytes
    by false = omega arith

pub elsewhere_lawful : (m : SuiteData) → IsLawful m → IsLawful (elsewhere m)
elsewhere_lawful m h = record {
  seal_length = h.seal_length;
  head_of_seal = h.head_of_seal;
  unseal_of_seal = h.unseal_of_seal;
  unsealed = h.unsealed;
  share_fits = h.share_fits;
  shared_fits = h.shared_fits;
  response_fits = h.response_fits;
  block_low = h.block_low;
  block_high = h.block_high;
  tag_high = h.tag_high;
  iv_high = h.iv_high;
  enc_high = h.enc_high;
  mac_high = h.mac_high;
  padding_length = h.padding_length;
  digest_low = h.digest_low;
  digest_high = h.digest_high;
  digest_even = h.digest_even;
  sign_high = h.sign_high;
  seal_bytes = h.seal_bytes;
  padding_bytes = h.padding_bytes;
  share_bytes = h.share_bytes;
  shared_bytes = h.shared_bytes;
  response_bytes = h.response_bytes;
  blob_high = λ algorithm private_key _. public_part_short private_key;
}
