-- The lab suite has the laws.

use Rattle.std.proofs.Common.{◌≡◌, ℕ, suc, ◌+◌, ◌-◌, ◌*◌, ◌≤◌, Bool, true, false, List, [], ◌∷◌, ◌++◌, length, take, drop, refl, sym, ap, ◌∙◌, arith, cond, eqb, leb, ltb}
use Rattle.std.proofs.lemmas.Bool.{and_from, and_parts, eq-eqb, eqb-true, le-leb, le-ltb}
use Rattle.std.proofs.lemmas.Cmp.{nat_list_eq_equiv}
use Rattle.std.proofs.lemmas.List.{drop_at, length-append, length-drop, length-take-le, take-append-le, take-take, take_at}
use Rattle.std.specs.Prelude.{◌&&◌, slice_index, Option, None, Some, option_map}
use Rattle.std.specs.Str.{bytes_eq}
use Rattle.sha2.proofs.Facts256.{length-sha256}
use Rattle.sha2.specs.Sha256.{sha256}
use Rattle.sshwire.specs.ByteLaws.{bytes_append, bytes_cons, bytes_dropped, bytes_taken, uint32_read}
use Rattle.sshwire.specs.TypeReadings.{uint32_at}
use Rattle.sshwire.specs.Types.{IsBytes, string, uint32}
use Rattle.sshpacket.specs.KeysData.{KeysData}
use Rattle.sshpacket.specs.Packet.{IsPacket, length_field, number, number_read}
use Rattle.sshpacket.specs.Suite.{IsAgreeing, IsLawful, IsPositiveBody, Keeps, ResponseData}
use Rattle.sshlabsuites.specs.Masks.{bytes_sha256, bytes_stream, stream_begins, stream_length}
use Rattle.sshwire.specs.Masks.{bytes_xored, length_xored, xored, xored_comm, xored_more, xored_take, xored_twice}
use Rattle.sshlabsuites.specs.Lab.{blocks_for, checked, key_stream, lab, lab_blob, lab_head, lab_padding, lab_seal, lab_share, lab_shared, lab_unseal, masked, signature_by, stream, tag}
use Rattle.sshpacket.specs.declared.limits.TheConstants.{BLOCK_LIMIT, PACKET_LIMIT}
use Rattle.sshwire.specs.declared.limits.TheConstants.{NAME_LIMIT}

pub same_bytes : (xs : List ℕ) → bytes_eq xs xs ≡ true
same_bytes xs = nat_list_eq_equiv.refl xs

pub guard_some : {A : Type 0} (b : Bool) (x y : A) → cond b (Some x) None ≡ Some y → (b ≡ true) × (x ≡ y)
guard_some true x y e = (refl, cc)
guard_some false x y e = cc

-- The number in the first four bytes.
pub number_front : (bytes : List ℕ) → 4 ≤ length bytes → number (take 4 bytes) ≡ number bytes
unfolding number uint32_at
number_front [] h = absurd (omega arith)
number_front (a ∷ []) h = absurd (omega arith)
number_front (a ∷ b ∷ []) h = absurd (omega arith)
number_front (a ∷ b ∷ c ∷ []) h = absurd (omega arith)
number_front (a ∷ b ∷ c ∷ d ∷ rest) h =
    let long : ltb (length (a ∷ b ∷ c ∷ d ∷ rest)) 4 ≡ false = le-ltb (length (a ∷ b ∷ c ∷ d ∷ rest)) 4 (omega arith) in
    rw long refl

pub number_of_packet : (counts : Bool) (block tag : ℕ) (payload clear : List ℕ) → IsPacket counts block tag payload clear → (number clear + 4 ≡ length clear) × (4 ≤ length clear)
unfolding number length_field
number_of_packet counts block tag payload clear p =
    let n : ℕ = 1 + length payload + length p.padding in
    let rest : List ℕ = length p.padding ∷ (payload ++ p.padding) in
    let limit : 4 + n + tag ≤ PACKET_LIMIT = p.fits.limit in
    let read : number clear ≡ n = ap number p.bytes_are ∙ ap number_read (uint32_read n rest (omega arith)) in
    let long : length clear ≡ length (uint32 n ++ rest) = ap (λ (xs : List ℕ). length xs) p.bytes_are in
    let body = length-append payload p.padding in
    (omega arith, omega arith)

-- Masks.
pub length_masked : (keys : KeysData) (seq : ℕ) (bytes : List ℕ) → length (masked keys seq bytes) ≡ length bytes
unfolding masked
length_masked keys seq bytes = length_xored bytes (key_stream keys seq (length bytes))

pub masked_twice : (keys : KeysData) (seq : ℕ) (bytes : List ℕ) → masked keys seq (masked keys seq bytes) ≡ bytes
unfolding masked
masked_twice keys seq bytes =
    ap (λ (n : ℕ). xored (masked keys seq bytes) (key_stream keys seq n)) (length_masked keys seq bytes)
    ∙ xored_twice bytes (key_stream keys seq (length bytes))

masked_front : (keys : KeysData) (seq : ℕ) (bytes : List ℕ) → 4 ≤ length bytes → masked keys seq (take 4 bytes) ≡ take 4 (masked keys seq bytes)
unfolding masked key_stream
masked_front keys seq bytes h =
    let seed : List ℕ = keys.enc ++ keys.iv in
    let k : ℕ = blocks_for (length bytes) - 1 in
    let count : blocks_for (length bytes) ≡ suc k = omega arith in
    let begins = stream_begins seed seq k in
    let four : length (take 4 bytes) ≡ 4 = length-take-le 4 bytes h in
    let block : length (stream seed seq 1) ≡ 32 = stream_length seed seq 1 in
    ap (λ (n : ℕ). xored (take 4 bytes) (stream seed seq (blocks_for n))) four
    ∙ (sym (xored_more (take 4 bytes) (stream seed seq 1) begins.0 (omega arith))
    ∙ (ap (xored (take 4 bytes)) (sym begins.1)
    ∙ (ap (λ (n : ℕ). xored (take 4 bytes) (stream seed seq n)) (sym count)
    ∙ sym (xored_take 4 bytes (stream seed seq (blocks_for (length bytes)))))))

pub bytes_masked : (keys : KeysData) (seq : ℕ) (bytes : List ℕ) → IsBytes bytes → IsBytes (masked keys seq bytes)
unfolding masked key_stream
bytes_masked keys seq bytes h = bytes_xored bytes (key_stream keys seq (length bytes)) h (bytes_stream (keys.enc ++ keys.iv) seq (blocks_for (length bytes)))

length_tag : (keys : KeysData) (seq : ℕ) (clear : List ℕ) → length (tag keys seq clear) ≡ 32
unfolding tag
length_tag keys seq clear = length-sha256 (keys.mac_key ++ uint32 seq ++ clear)

bytes_tag : (keys : KeysData) (seq : ℕ) (clear : List ℕ) → IsBytes (tag keys seq clear)
unfolding tag
bytes_tag keys seq clear = bytes_sha256 (keys.mac_key ++ uint32 seq ++ clear)

-- Sealing.
seal_length : (keys : KeysData) (seq : ℕ) (clear : List ℕ) → length (lab_seal keys seq clear) ≡ length clear + 32
unfolding lab_seal
seal_length keys seq clear =
    let front = length_masked keys seq clear in
    let back = length_tag keys seq clear in
    let both = length-append (masked keys seq clear) (tag keys seq clear) in
    omega (arith, front, back, both)

head_of_seal : (keys : KeysData) (seq : ℕ) (clear : List ℕ) → 4 ≤ length clear → lab_head keys seq (take 4 (lab_seal keys seq clear)) ≡ number clear
unfolding lab_seal lab_head
head_of_seal keys seq clear h =
    let long : length (masked keys seq clear) ≡ length clear = length_masked keys seq clear in
    let within : 4 ≤ length (masked keys seq clear) = omega arith in
    ap (λ (xs : List ℕ). number (masked keys seq xs)) (take-append-le 4 (masked keys seq clear) (tag keys seq clear) within)
    ∙ (ap number (masked_front keys seq (masked keys seq clear) within ∙ ap (take 4) (masked_twice keys seq clear))
    ∙ number_front clear h)

unseal_of_seal : (keys : KeysData) (seq : ℕ) (clear : List ℕ) → number clear + 4 ≡ length clear → 4 ≤ length clear
    → lab_unseal keys seq (lab_seal keys seq clear) ≡ Some clear
unfolding lab_seal lab_unseal checked
unseal_of_seal keys seq clear counted h =
    let front : List ℕ = masked keys seq clear in
    let back : List ℕ = tag keys seq clear in
    let long : length (front ++ back) ≡ length clear + 32 = seal_length keys seq clear in
    let front_long : length front ≡ length clear = length_masked keys seq clear in
    let cut : length (front ++ back) - 32 ≡ length clear = omega arith in
    let enough : leb 36 (length (front ++ back)) ≡ true = le-leb 36 (length (front ++ back)) (omega arith) in
    let before : take (length (front ++ back) - 32) (front ++ back) ≡ front
    = ap (λ (n : ℕ). take n (front ++ back)) cut ∙ take_at front back (length clear) front_long in
    let after : drop (length (front ++ back) - 32) (front ++ back) ≡ back
    = ap (λ (n : ℕ). drop n (front ++ back)) cut ∙ drop_at front back (length clear) front_long in
    let right : (bytes_eq back back && eqb (number clear + 4) (length clear)) ≡ true
    = and_from (bytes_eq back back) (eqb (number clear + 4) (length clear)) (same_bytes back) (eq-eqb (number clear + 4) (length clear) counted) in
    rw enough (ap (λ (xs : List ℕ). checked keys seq (masked keys seq xs) (drop (length (front ++ back) - 32) (front ++ back))) before
    ∙ (ap (λ (xs : List ℕ). checked keys seq (masked keys seq front) xs) after
    ∙ (ap (λ (xs : List ℕ). checked keys seq xs back) (masked_twice keys seq clear)
    ∙ rw right refl)))

unsealed_is : (keys : KeysData) (seq : ℕ) (sealed clear : List ℕ) → 36 ≤ length sealed → lab_unseal keys seq sealed ≡ Some clear
    → masked keys seq (take (length sealed - 32) sealed) ≡ clear
unfolding lab_unseal checked
unsealed_is keys seq sealed clear h e =
    let enough : leb 36 (length sealed) ≡ true = le-leb 36 (length sealed) h in
    let opened : List ℕ = masked keys seq (take (length sealed - 32) sealed) in
    let found : List ℕ = drop (length sealed - 32) sealed in
    let inner : checked keys seq opened found ≡ Some clear = rw enough at e in
    (guard_some (bytes_eq found (tag keys seq opened) && eqb (number opened + 4) (length opened)) opened clear inner).1

unsealed : (keys : KeysData) (seq : ℕ) (sealed clear : List ℕ) → IsBytes sealed → length sealed ≡ 4 + lab_head keys seq (take 4 sealed) + 32
    → lab_unseal keys seq sealed ≡ Some clear → Keeps (lab_head keys seq (take 4 sealed)) clear
unfolding lab_head
unsealed keys seq sealed clear h long e =
    let front : List ℕ = take (length sealed - 32) sealed in
    let is : masked keys seq front ≡ clear = unsealed_is keys seq sealed clear (omega arith) e in
    let front_long : length front ≡ length sealed - 32 = length-take-le (length sealed - 32) sealed (omega arith) in
    let same : length (masked keys seq front) ≡ length front = length_masked keys seq front in
    let clear_long : length clear ≡ length (masked keys seq front) = ap (λ (xs : List ℕ). length xs) (sym is) in
    record {
      length_is = omega arith;
      field_is = sym (number_front clear (omega arith)) ∙ (ap (λ (xs : List ℕ). number (take 4 xs)) (sym is)
          ∙ (ap number (sym (masked_front keys seq front (omega arith)))
          ∙ ap (λ (xs : List ℕ). number (masked keys seq xs)) (take-take 4 (length sealed - 32) sealed (omega arith))));
      bytes_are = rw is at (bytes_masked keys seq front (bytes_taken (length sealed - 32) sealed h));
    }

bytes_seal : (keys : KeysData) (seq : ℕ) (clear : List ℕ) → IsBytes clear → IsBytes (lab_seal keys seq clear)
unfolding lab_seal
bytes_seal keys seq clear h = bytes_append (masked keys seq clear) (tag keys seq clear) (bytes_masked keys seq clear h) (bytes_tag keys seq clear)

-- Padding.
pub length_padding : (seed : List ℕ) (seq len : ℕ) → length (lab_padding seed seq len) ≡ len
unfolding lab_padding
length_padding seed seq len =
    let all : length (stream seed seq (blocks_for len)) ≡ 32 * blocks_for len = stream_length seed seq (blocks_for len) in
    length-take-le len (stream seed seq (blocks_for len)) (omega arith)

pub bytes_padding : (seed : List ℕ) (seq len : ℕ) → IsBytes (lab_padding seed seq len)
unfolding lab_padding
bytes_padding seed seq len = bytes_taken len (stream seed seq (blocks_for len)) (bytes_stream seed seq (blocks_for len))

-- Shares.
shared_of : (a b : List ℕ) → length b ≡ 32 → lab_shared a (1 ∷ b) ≡ Some (1 ∷ xored b a)
unfolding lab_shared
shared_of a b h =
    let long : eqb (length (1 ∷ b)) 33 ≡ true = eq-eqb (length (1 ∷ b)) 33 (omega arith) in
    rw long refl

agreed : (a b : List ℕ) → length a ≡ 32 → length b ≡ 32 → lab_shared a (1 ∷ b) ≡ lab_shared b (1 ∷ a)
agreed a b h k = shared_of a b k ∙ (ap (λ (xs : List ℕ). Some (1 ∷ xs)) (xored_comm b a (omega arith)) ∙ sym (shared_of b a h))

one_positive : (body : List ℕ) → length body ≡ 32 → IsPositiveBody (1 ∷ body)
one_positive body h = record { some = omega arith; sign = omega arith; shortest = λ e. absurd (omega arith); short = omega arith }

shared_positive : (a peer body : List ℕ) → lab_shared a peer ≡ Some body → IsPositiveBody body
unfolding lab_shared
shared_positive a peer body e =
    let g = guard_some (eqb (length peer) 33 && eqb (slice_index peer 0) 1) (1 ∷ xored (drop 1 peer) a) body e in
    let long : length peer ≡ 33 = eqb-true (length peer) 33 (and_parts (eqb (length peer) 33) (eqb (slice_index peer 0) 1) g.0).0 in
    let cut : length (drop 1 peer) ≡ length peer - 1 = length-drop 1 peer in
    let same : length (xored (drop 1 peer) a) ≡ length (drop 1 peer) = length_xored (drop 1 peer) a in
    rw g.1 at (one_positive (xored (drop 1 peer) a) (omega arith))

shared_bytes : (a peer body : List ℕ) → IsBytes a → IsBytes peer → lab_shared a peer ≡ Some body → IsBytes body
unfolding lab_shared
shared_bytes a peer body h k e =
    let g = guard_some (eqb (length peer) 33 && eqb (slice_index peer 0) 1) (1 ∷ xored (drop 1 peer) a) body e in
    rw g.1 at (bytes_cons 1 (xored (drop 1 peer) a) (omega arith) (bytes_xored (drop 1 peer) a (bytes_dropped 1 peer k) h))

-- a response of this share and this shared secret
abbrev response_with : List ℕ → List ℕ → ResponseData
response_with share body = record { share = share; shared = body }

some_response : (r other : ResponseData) → ◌≡◌ {A = Option ResponseData} (Some r) (Some other) → r ≡ other
some_response r other e = cc

response_parts : (a peer : List ℕ) (o : Option (List ℕ)) (r : ResponseData) → option_map (response_with (lab_share a)) o ≡ Some r
    → (lab_share a ≡ r.share) × (o ≡ Some r.shared)
response_parts a peer None r e = cc
response_parts a peer (Some body) r e =
    let is : response_with (lab_share a) body ≡ r = some_response (response_with (lab_share a) body) r e in
    (ap (λ (x : ResponseData). x.share) is, ap (λ (x : ResponseData). Some x.shared) is)

-- Host keys.
pub blob_length : (algorithm private_key : List ℕ) → length (lab_blob algorithm private_key) ≡ 8 + length algorithm + 32
unfolding lab_blob
blob_length algorithm private_key =
    let digest = length-sha256 private_key in
    let both = length-append (string algorithm) (string (sha256 private_key)) in
    omega (arith, digest, both)

pub length_signature : (blob input : List ℕ) → length (signature_by blob input) ≡ 32
unfolding signature_by
length_signature blob input = length-sha256 (string blob ++ string input)

pub block_low : (b : Bool) → 8 ≤ cond b 16 8
block_low true = omega arith
block_low false = omega arith

pub block_high : (b : Bool) → cond b 16 8 ≤ BLOCK_LIMIT
block_high true = omega arith
block_high false = omega arith

pub lab_lawful : IsLawful lab
lab_lawful = record {
  seal_length = λ keys seq payload clear h p. seal_length keys seq clear;
  head_of_seal = λ keys seq payload clear h p. head_of_seal keys seq clear (number_of_packet _ _ _ payload clear p.1).1;
  unseal_of_seal = λ keys seq payload clear h p. let n = number_of_packet _ _ _ payload clear p.1 in unseal_of_seal keys seq clear n.0 n.1;
  unsealed = λ keys seq sealed clear h bytes long e. unsealed keys seq sealed clear bytes long e;
  share_fits = λ kex a h. one_positive a h;
  shared_fits = λ kex a peer body h e. shared_positive a peer body e;
  response_fits = λ kex a peer r h e. let parts = response_parts a peer (lab_shared a peer) r e in
      (rw (sym parts.0) (one_positive a h), shared_positive a peer r.shared parts.1);
  block_low = λ cipher. block_low _;
  block_high = λ cipher. block_high _;
  tag_high = λ cipher mac. omega arith;
  iv_high = λ cipher mac. omega arith;
  enc_high = λ cipher mac. omega arith;
  mac_high = λ cipher mac. omega arith;
  padding_length = length_padding;
  digest_low = λ kex input. omega (arith, length-sha256 input);
  digest_high = λ kex input. omega (arith, length-sha256 input);
  digest_even = λ kex input other. length-sha256 input ∙ sym (length-sha256 other);
  blob_high = λ algorithm private_key name. let long = blob_length algorithm private_key in let short : length algorithm ≤ NAME_LIMIT = name.short in omega (arith, long);
  sign_high = λ algorithm private_key input name. omega (arith, length_signature (lab_blob algorithm private_key) input);
  seal_bytes = bytes_seal;
  padding_bytes = bytes_padding;
  share_bytes = λ kex a h. bytes_cons 1 a (omega arith) h;
  shared_bytes = λ kex a peer body h k e. shared_bytes a peer body h k e;
  response_bytes = λ kex a peer r h k e. let parts = response_parts a peer (lab_shared a peer) r e in
      (rw (sym parts.0) (bytes_cons 1 a (omega arith) h), shared_bytes a peer r.shared h k parts.1);
}

pub lab_agreed : (a b : List ℕ) → length a ≡ 32 → length b ≡ 32 → lab_shared a (lab_share b) ≡ lab_shared b (lab_share a)
lab_agreed = agreed

pub lab_present : (a b : List ℕ) → length a ≡ 32 → length b ≡ 32 → (body : List ℕ) × (lab_shared a (lab_share b) ≡ Some body)
lab_present a b h k = (1 ∷ xored b a, shared_of a b k)

pub lab_agreeing : IsAgreeing lab
lab_agreeing = record {
  agreed = λ kex client server h k bytes more. record {
    answer = record { share = lab_share server; shared = 1 ∷ xored client server };
    responds = ap (option_map (response_with (lab_share server))) (shared_of server client h);
    same = agreed client server h k ∙ shared_of server client h;
  };
  held = λ algorithm private_key. refl;
  signed = λ algorithm private_key input. same_bytes (signature_by (lab_blob algorithm private_key) input);
}
