-- The second suite has the laws of both traits.

use Rattle.std.proofs.Common.{◌≡◌, ℕ, ◌+◌, ◌-◌, ◌≤◌, true, List, ◌∷◌, ◌++◌, length, take, drop, refl, sym, ap, ◌∙◌, arith, eqb, leb}
use Rattle.std.proofs.lemmas.Bool.{eq-eqb, le-leb}
use Rattle.std.proofs.lemmas.List.{drop_at, length-append, length-take-le, take-append-drop, take-append-le, take-take, take_at}
use Rattle.std.specs.Prelude.{◌&&◌, slice_index, Some}
use Rattle.std.specs.Str.{bytes_eq}
use Rattle.sha2.proofs.Facts256.{length-sha256}
use Rattle.sha2.specs.Sha256.{sha256}
use Rattle.sshwire.specs.ByteLaws.{bytes_append, bytes_cons, bytes_dropped, bytes_taken}
use Rattle.sshwire.specs.Types.{IsBytes, uint32}
use Rattle.sshpacket.specs.KeysData.{KeysData}
use Rattle.sshpacket.specs.Packet.{number}
use Rattle.sshpacket.specs.Suite.{IsAgreeing, IsLawful, Keeps, ResponseData}
use Rattle.sshlabsuites.specs.Kem.{crossed, kem, kem_answer, kem_checked, kem_number, kem_respond, kem_seal, kem_share, kem_shared, kem_tag, kem_unseal}
use Rattle.sshlabsuites.specs.Lab.{masked}
use Rattle.sshlabsuites.specs.LabLaws.{bytes_masked, guard_some, lab_agreeing, lab_lawful, length_masked, masked_twice, number_front, number_of_packet, same_bytes}
use Rattle.sshlabsuites.specs.Masks.{bytes_sha256}
use Rattle.sshwire.specs.Masks.{bytes_xored, length_xored, xored, xored_twice}
use Rattle.sshpacket.specs.declared.limits.TheConstants.{SHARE_LIMIT}

-- The first four bytes in clear.
module _ (keys : KeysData) (seq : ℕ) (bytes : List ℕ) where
  length_crossed : length (crossed keys seq bytes) ≡ length bytes
  unfolding crossed
  length_crossed =
      let both : length (take 4 bytes ++ masked keys seq (drop 4 bytes)) ≡ length (take 4 bytes) + length (masked keys seq (drop 4 bytes))
      = length-append (take 4 bytes) (masked keys seq (drop 4 bytes)) in
      let same : length (masked keys seq (drop 4 bytes)) ≡ length (drop 4 bytes) = length_masked keys seq (drop 4 bytes) in
      let parts : length (take 4 bytes ++ drop 4 bytes) ≡ length (take 4 bytes) + length (drop 4 bytes) = length-append (take 4 bytes) (drop 4 bytes) in
      let all : length (take 4 bytes ++ drop 4 bytes) ≡ length bytes = ap (λ (xs : List ℕ). length xs) (take-append-drop 4 bytes) in
      omega arith

  front_crossed : 4 ≤ length bytes → take 4 (crossed keys seq bytes) ≡ take 4 bytes
  unfolding crossed
  front_crossed h = take_at (take 4 bytes) (masked keys seq (drop 4 bytes)) 4 (length-take-le 4 bytes h)

  after_crossed : 4 ≤ length bytes → drop 4 (crossed keys seq bytes) ≡ masked keys seq (drop 4 bytes)
  unfolding crossed
  after_crossed h = drop_at (take 4 bytes) (masked keys seq (drop 4 bytes)) 4 (length-take-le 4 bytes h)

  bytes_crossed : IsBytes bytes → IsBytes (crossed keys seq bytes)
  unfolding crossed
  bytes_crossed h = bytes_append (take 4 bytes) (masked keys seq (drop 4 bytes)) (bytes_taken 4 bytes h) (bytes_masked keys seq (drop 4 bytes) (bytes_dropped 4 bytes h))

crossed_is : (keys : KeysData) (seq : ℕ) (bytes : List ℕ) → crossed keys seq bytes ≡ take 4 bytes ++ masked keys seq (drop 4 bytes)
unfolding crossed
crossed_is keys seq bytes = refl

crossed_twice : (keys : KeysData) (seq : ℕ) (bytes : List ℕ) → 4 ≤ length bytes → crossed keys seq (crossed keys seq bytes) ≡ bytes
crossed_twice keys seq bytes h =
    crossed_is keys seq (crossed keys seq bytes)
    ∙ (ap (λ (xs : List ℕ). xs ++ masked keys seq (drop 4 (crossed keys seq bytes))) (front_crossed keys seq bytes h)
    ∙ (ap (λ (xs : List ℕ). take 4 bytes ++ masked keys seq xs) (after_crossed keys seq bytes h)
    ∙ (ap (λ (xs : List ℕ). take 4 bytes ++ xs) (masked_twice keys seq (drop 4 bytes)) ∙ take-append-drop 4 bytes)))

length_tag : (keys : KeysData) (seq : ℕ) (covered : List ℕ) → length (kem_tag keys seq covered) ≡ 16
unfolding kem_tag
length_tag keys seq covered =
    let long : length (sha256 (keys.enc ++ uint32 seq ++ covered)) ≡ 32 = length-sha256 (keys.enc ++ uint32 seq ++ covered) in
    length-take-le 16 (sha256 (keys.enc ++ uint32 seq ++ covered)) (omega arith)

bytes_tag : (keys : KeysData) (seq : ℕ) (covered : List ℕ) → IsBytes (kem_tag keys seq covered)
unfolding kem_tag
bytes_tag keys seq covered = bytes_taken 16 (sha256 (keys.enc ++ uint32 seq ++ covered)) (bytes_sha256 (keys.enc ++ uint32 seq ++ covered))

-- Sealing.
seal_length : (keys : KeysData) (seq : ℕ) (clear : List ℕ) → length (kem_seal keys seq clear) ≡ length clear + 16
unfolding kem_seal
seal_length keys seq clear =
    let front = length_crossed keys seq clear in
    let back = length_tag keys seq (crossed keys seq clear) in
    let both = length-append (crossed keys seq clear) (kem_tag keys seq (crossed keys seq clear)) in
    omega (arith, front, back, both)

head_of_seal : (keys : KeysData) (seq : ℕ) (clear : List ℕ) → 4 ≤ length clear → number (take 4 (kem_seal keys seq clear)) ≡ number clear
unfolding kem_seal
head_of_seal keys seq clear h =
    let long : length (crossed keys seq clear) ≡ length clear = length_crossed keys seq clear in
    ap number (take-append-le 4 (crossed keys seq clear) (kem_tag keys seq (crossed keys seq clear)) (omega arith) ∙ front_crossed keys seq clear h)
    ∙ number_front clear h

unseal_of_seal : (keys : KeysData) (seq : ℕ) (clear : List ℕ) → 4 ≤ length clear → kem_unseal keys seq (kem_seal keys seq clear) ≡ Some clear
unfolding kem_seal kem_unseal kem_checked
unseal_of_seal keys seq clear h =
    let front : List ℕ = crossed keys seq clear in
    let back : List ℕ = kem_tag keys seq front in
    let long : length (front ++ back) ≡ length clear + 16 = seal_length keys seq clear in
    let front_long : length front ≡ length clear = length_crossed keys seq clear in
    let cut : length (front ++ back) - 16 ≡ length clear = omega arith in
    let enough : leb 20 (length (front ++ back)) ≡ true = le-leb 20 (length (front ++ back)) (omega arith) in
    let before : take (length (front ++ back) - 16) (front ++ back) ≡ front
    = ap (λ (n : ℕ). take n (front ++ back)) cut ∙ take_at front back (length clear) front_long in
    let after : drop (length (front ++ back) - 16) (front ++ back) ≡ back
    = ap (λ (n : ℕ). drop n (front ++ back)) cut ∙ drop_at front back (length clear) front_long in
    rw enough (ap (λ (xs : List ℕ). kem_checked keys seq xs (drop (length (front ++ back) - 16) (front ++ back))) before
    ∙ (ap (λ (xs : List ℕ). kem_checked keys seq front xs) after
    ∙ rw (same_bytes back) (ap (λ (xs : List ℕ). Some xs) (crossed_twice keys seq clear h))))

unsealed_is : (keys : KeysData) (seq : ℕ) (sealed clear : List ℕ) → 20 ≤ length sealed → kem_unseal keys seq sealed ≡ Some clear
    → crossed keys seq (take (length sealed - 16) sealed) ≡ clear
unfolding kem_unseal kem_checked
unsealed_is keys seq sealed clear h e =
    let enough : leb 20 (length sealed) ≡ true = le-leb 20 (length sealed) h in
    let covered : List ℕ = take (length sealed - 16) sealed in
    let found : List ℕ = drop (length sealed - 16) sealed in
    let inner : kem_checked keys seq covered found ≡ Some clear = rw enough at e in
    (guard_some (bytes_eq found (kem_tag keys seq covered)) (crossed keys seq covered) clear inner).1

unsealed : (keys : KeysData) (seq : ℕ) (sealed clear : List ℕ) → IsBytes sealed → length sealed ≡ 4 + number (take 4 sealed) + 16
    → kem_unseal keys seq sealed ≡ Some clear → Keeps (number (take 4 sealed)) clear
unsealed keys seq sealed clear h long e =
    let front : List ℕ = take (length sealed - 16) sealed in
    let is : crossed keys seq front ≡ clear = unsealed_is keys seq sealed clear (omega arith) e in
    let front_long : length front ≡ length sealed - 16 = length-take-le (length sealed - 16) sealed (omega arith) in
    let same : length (crossed keys seq front) ≡ length front = length_crossed keys seq front in
    let clear_long : length clear ≡ length (crossed keys seq front) = ap (λ (xs : List ℕ). length xs) (sym is) in
    record {
      length_is = omega arith;
      field_is = sym (number_front clear (omega arith)) ∙ (ap (λ (xs : List ℕ). number (take 4 xs)) (sym is)
          ∙ (ap number (front_crossed keys seq front (omega arith)) ∙ ap number (take-take 4 (length sealed - 16) sealed (omega arith))));
      bytes_are = rw is at (bytes_crossed keys seq front (bytes_taken (length sealed - 16) sealed h));
    }

bytes_seal : (keys : KeysData) (seq : ℕ) (clear : List ℕ) → IsBytes clear → IsBytes (kem_seal keys seq clear)
unfolding kem_seal
bytes_seal keys seq clear h =
    bytes_append (crossed keys seq clear) (kem_tag keys seq (crossed keys seq clear)) (bytes_crossed keys seq clear h) (bytes_tag keys seq (crossed keys seq clear))

-- Shares.
length_number : (random client server : List ℕ) → length (kem_number random client server) ≡ 32
unfolding kem_number
length_number random client server = length-sha256 (random ++ client ++ server)

bytes_number : (random client server : List ℕ) → IsBytes (kem_number random client server)
unfolding kem_number
bytes_number random client server = bytes_sha256 (random ++ client ++ server)

number_short : (random client server : List ℕ) → length (kem_number random client server) ≤ SHARE_LIMIT
number_short random client server = let long = length_number random client server in omega (arith, long)

number_given : (random peer body : List ℕ) → kem_shared random peer ≡ Some body → kem_number (xored (drop 1 peer) random) (kem_share random) peer ≡ body
unfolding kem_shared
number_given random peer body e =
    (guard_some (eqb (length peer) 33 && eqb (slice_index peer 0) 3) (kem_number (xored (drop 1 peer) random) (kem_share random) peer) body e).1

answer_given : (random peer : List ℕ) (r : ResponseData) → kem_respond random peer ≡ Some r
    → (kem_answer random peer ≡ r.share) × (kem_number random peer (kem_answer random peer) ≡ r.shared)
unfolding kem_respond
answer_given random peer r e =
    let is = (guard_some (eqb (length peer) 33 && eqb (slice_index peer 0) 2)
    (let given : ResponseData = record { share = kem_answer random peer; shared = kem_number random peer (kem_answer random peer) } in given) r e).1 in
    (ap (λ (x : ResponseData). x.share) is, ap (λ (x : ResponseData). x.shared) is)

answer_short : (random peer : List ℕ) → length random ≡ 32 → length (kem_answer random peer) ≤ SHARE_LIMIT
answer_short random peer h = let long : length (xored random (drop 1 peer)) ≡ length random = length_xored random (drop 1 peer) in omega arith

bytes_answer : (random peer : List ℕ) → IsBytes random → IsBytes peer → IsBytes (kem_answer random peer)
bytes_answer random peer h k = bytes_cons 3 (xored random (drop 1 peer)) (omega arith) (bytes_xored random (drop 1 peer) h (bytes_dropped 1 peer k))

responds : (a b : List ℕ) → length a ≡ 32
    → kem_respond b (kem_share a) ≡ Some (record { share = 3 ∷ xored b a; shared = kem_number b (kem_share a) (3 ∷ xored b a) })
unfolding kem_respond
responds a b h = let long : eqb (length (2 ∷ a)) 33 ≡ true = eq-eqb (length (2 ∷ a)) 33 (omega arith) in rw long refl

same_number : (a b : List ℕ) → length b ≡ 32 → kem_shared a (3 ∷ xored b a) ≡ Some (kem_number b (kem_share a) (3 ∷ xored b a))
unfolding kem_shared
same_number a b h =
    let same : length (xored b a) ≡ length b = length_xored b a in
    let long : eqb (length (3 ∷ xored b a)) 33 ≡ true = eq-eqb (length (3 ∷ xored b a)) 33 (omega arith) in
    rw long (ap (λ (xs : List ℕ). Some (kem_number xs (kem_share a) (3 ∷ xored b a))) (xored_twice b a))

short_by : (xs ys : List ℕ) → xs ≡ ys → length xs ≤ SHARE_LIMIT → length ys ≤ SHARE_LIMIT
short_by xs ys e h = rw e at h

bytes_by : (xs ys : List ℕ) → xs ≡ ys → IsBytes xs → IsBytes ys
bytes_by xs ys e h = rw e at h

pub kem_lawful : IsLawful kem
kem_lawful = record {
  seal_length = λ keys seq payload clear h p. seal_length keys seq clear;
  head_of_seal = λ keys seq payload clear h p. head_of_seal keys seq clear (number_of_packet _ _ _ payload clear p.1).1;
  unseal_of_seal = λ keys seq payload clear h p. unseal_of_seal keys seq clear (number_of_packet _ _ _ payload clear p.1).1;
  unsealed = λ keys seq sealed clear h bytes long e. unsealed keys seq sealed clear bytes long e;
  share_fits = λ kex a h. omega arith;
  shared_fits = λ kex a peer body h e. rw (number_given a peer body e) at (number_short (xored (drop 1 peer) a) (kem_share a) peer);
  response_fits = λ kex a peer r h e. let parts = answer_given a peer r e in
      (short_by (kem_answer a peer) r.share parts.0 (answer_short a peer h), rw parts.1 at (number_short a peer (kem_answer a peer)));
  block_low = lab_lawful.block_low;
  block_high = lab_lawful.block_high;
  tag_high = λ cipher mac. omega arith;
  iv_high = λ cipher mac. omega arith;
  enc_high = λ cipher mac. omega arith;
  mac_high = λ cipher mac. omega arith;
  padding_length = lab_lawful.padding_length;
  digest_low = lab_lawful.digest_low;
  digest_high = lab_lawful.digest_high;
  digest_even = lab_lawful.digest_even;
  blob_high = lab_lawful.blob_high;
  sign_high = lab_lawful.sign_high;
  seal_bytes = bytes_seal;
  padding_bytes = lab_lawful.padding_bytes;
  share_bytes = λ kex a h. bytes_cons 2 a (omega arith) h;
  shared_bytes = λ kex a peer body h k e. rw (number_given a peer body e) at (bytes_number (xored (drop 1 peer) a) (kem_share a) peer);
  response_bytes = λ kex a peer r h k e. let parts = answer_given a peer r e in
      (bytes_by (kem_answer a peer) r.share parts.0 (bytes_answer a peer h k), rw parts.1 at (bytes_number a peer (kem_answer a peer)));
}

pub kem_agreeing : IsAgreeing kem
kem_agreeing = record {
  agreed = λ kex client server h k bytes more. record {
    answer = record { share = 3 ∷ xored server client; shared = kem_number server (kem_share client) (3 ∷ xored server client) };
    responds = responds client server h;
    same = same_number client server k;
  };
  held = λ algorithm private_key. refl;
  signed = lab_agreeing.signed;
}
