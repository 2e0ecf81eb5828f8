-- The suite has the laws of one end.

use Rattle.std.proofs.Common.{◌≡◌, ℕ, ◌+◌, ◌≤◌, inl, inr, Bool, true, false, List, length, take, refl, sym, ap, ap₂, ◌∙◌, arith, cond, eqb, eqb-true}
use Rattle.std.proofs.lemmas.Bool.{cases_Bool, cond_both}
use Rattle.std.proofs.lemmas.List.{length-append, length-set}
use Rattle.std.specs.Int.{to_be_bytes, w128}
use Rattle.std.specs.Prelude.{◌&&◌, ◌||◌, codes, Option, None, Some, option_map, replicate}
use Rattle.std.proofs.lemmas.Slice.Eq.{bytes_eq-Decides}
use Rattle.std.specs.Str.{bytes_eq}
use Rattle.sha2.proofs.Facts256.{length-sha256}
use Rattle.sha2.specs.Sha256.{sha256}
use Rattle.sshwire.specs.Types.{IsBytes, string}
use Rattle.sshpacket.specs.declared.suite.KeyLens.{KeyLens}
use Rattle.sshpacket.specs.KeysData.{KeysData}
use Rattle.sshpacket.specs.Packet.{number}
use Rattle.sshpacket.specs.Suite.{FitsShare, FitsShared, IsLawful, IsNumberBody, Keeps, ResponseData}
use Rattle.sshwire.specs.declared.share_form.ShareForm.{ShareForm}
use Rattle.sshwire.specs.declared.share_form.ShareForm.TheVariants.{Hybrid, Mpint, OctetString}
use Rattle.sshpacket.specs.declared.limits.TheConstants.{BLOB_LIMIT, BLOCK_LIMIT, KEY_LIMIT, SHARE_LIMIT, TAG_LIMIT}
use Rattle.sshpacket.specs.KeysElsewhere.{public_part}
use Rattle.sshpacket.specs.KeysElsewhereLaws.{public_part_short}
use Rattle.sshsuite.specs.Curve25519.{base_point, x25519}
use Rattle.sshsuite.specs.CurveBytes.{bytes_x25519, length_encode, length_x25519}
use Rattle.sshcurve.specs.EdwardsNumbers.{with_sign}
use Rattle.sshsuite.specs.Edwards25519.{encode_point}
use Rattle.sshsuite.specs.declared.edwards25519.Point.{Point}
use Rattle.sshsuite.specs.Deployed.{deployed, ed25519, exponent_of, is_curve25519, is_group14, is_held, is_hybrid, key_lens, respond, response_with, scalar_of, share, shared, shared_secret, wrapped}
use Rattle.sshsuite.specs.Group14.{group14_share, group14_shared}
use Rattle.sshsuite.specs.Group14Laws.{body_bytes, body_number, bytes_by, group14_share_bytes, group14_share_fits, group14_shared_given}
use Rattle.sshsuite.specs.Hybrid.{hybrid_respond, hybrid_share, hybrid_shared}
use Rattle.sshsuite.specs.HybridLaws as hybrid
use Rattle.sshsuite.specs.MpintBody.{mpint_body}
use Rattle.sshcurve.specs.Scalar.{bytes_of_halves, encode_scalar}
use Rattle.sshsuite.specs.CipherNames.{is_ctr, is_gcm, is_short_key}
use Rattle.sshsuite.specs.Ctr.{is_by_sha512, tag_length}
use Rattle.sshsuite.specs.Ctr as ctr
use Rattle.sshsuite.specs.CtrLaws as ctr_laws
use Rattle.sshsuite.specs.Gcm as gcm
use Rattle.sshsuite.specs.GcmLaws as gcm_laws
use Rattle.sshsuite.specs.Sealing.{head, seal, unseal}
use Rattle.sshsuite.specs.SealingLaws.{bytes_seal, guard_none, head_of_seal, seal_length, some_of_packet, unseal_of_seal, unsealed}
use Rattle.sshsuite.specs.Ed25519.{public_key, signature}
use Rattle.sshsuite.specs.KeyStream.{bytes_stream, length_stream}

number_by : (xs ys : List ℕ) → xs ≡ ys → IsNumberBody xs → IsNumberBody ys
number_by xs ys e h = rw e at h

-- Shares.
share_short : (random : List ℕ) → length (x25519 random base_point) ≤ SHARE_LIMIT
share_short random = let long = length_x25519 random base_point in omega (arith, long)

hybrid_short : (random : List ℕ) → length (hybrid_share random) ≤ SHARE_LIMIT
hybrid_short random = let is = hybrid.share_is random in let long = is.long in omega (arith, long)

-- the form of shares, by whether the method is group14 or the hybrid
abbrev form_of : Bool → Bool → ShareForm
form_of b c = cond b Mpint (cond c Hybrid OctetString)

both_share : (b c : Bool) (random : List ℕ) → FitsShare (form_of b c) (cond b (group14_share (exponent_of random)) (cond c (hybrid_share random) (x25519 (scalar_of random) base_point)))
both_share true c random = group14_share_fits (exponent_of random)
both_share false true random = hybrid_short random
both_share false false random = share_short (scalar_of random)

share_fits : (kex random : List ℕ) → FitsShare (form_of (is_group14 kex) (is_hybrid kex)) (share kex random)
unfolding share
share_fits kex random = both_share (is_group14 kex) (is_hybrid kex) random

both_share_bytes : (b c : Bool) (random : List ℕ) → IsBytes (cond b (group14_share (exponent_of random)) (cond c (hybrid_share random) (x25519 (scalar_of random) base_point)))
both_share_bytes true c random = group14_share_bytes (exponent_of random)
both_share_bytes false true random = let is = hybrid.share_is random in is.bytes
both_share_bytes false false random = bytes_x25519 (scalar_of random) base_point

share_bytes : (kex random : List ℕ) → IsBytes (share kex random)
unfolding share
share_bytes kex random = both_share_bytes (is_group14 kex) (is_hybrid kex) random

-- The shared secret.
shared_secret_given : (secret body : List ℕ) → shared_secret secret ≡ Some body → mpint_body secret ≡ body
unfolding shared_secret
shared_secret_given secret body e =
    let inner = (guard_none (bytes_eq secret (replicate 32 0)) (Some (mpint_body secret)) body e).1 in cc

curve_given : (b : Bool) (random peer body : List ℕ) → cond b (shared_secret (x25519 random peer)) None ≡ Some body → mpint_body (x25519 random peer) ≡ body
curve_given b random peer body e = shared_secret_given (x25519 random peer) body (hybrid.guarded b (shared_secret (x25519 random peer)) body e)

hybrid_given : (random peer body : List ℕ) → hybrid_shared random peer ≡ Some body → FitsShared Hybrid body × IsBytes body
hybrid_given random peer body e = let is = hybrid.shared_is random peer body e in let long = is.long in (omega (arith, long), is.bytes)

both_shared : (b h c : Bool) (random peer body : List ℕ)
    → cond b (group14_shared (exponent_of random) peer) (cond h (hybrid_shared random peer) (cond c (shared_secret (x25519 (scalar_of random) peer)) None)) ≡ Some body
    → FitsShared (form_of b h) body × IsBytes body
both_shared true h c random peer body e = group14_shared_given (exponent_of random) peer body e
both_shared false true c random peer body e = hybrid_given random peer body e
both_shared false false c random peer body e =
    let long = length_x25519 (scalar_of random) peer in
    let same = curve_given c (scalar_of random) peer body e in (
      number_by (mpint_body (x25519 (scalar_of random) peer)) body same (body_number (x25519 (scalar_of random) peer) (omega (arith, long))),
      bytes_by (mpint_body (x25519 (scalar_of random) peer)) body same (body_bytes (x25519 (scalar_of random) peer) (bytes_x25519 (scalar_of random) peer)),
    )

shared_fits : (kex random peer body : List ℕ) → shared kex random peer ≡ Some body → FitsShared (form_of (is_group14 kex) (is_hybrid kex)) body × IsBytes body
unfolding shared
shared_fits kex random peer body e = both_shared (is_group14 kex) (is_hybrid kex) (is_curve25519 kex && eqb (length peer) 32) random peer body e

share_by : (form : ShareForm) (xs ys : List ℕ) → xs ≡ ys → FitsShare form xs → FitsShare form ys
share_by form xs ys e h = rw e at h

response_parts : (own : List ℕ) (o : Option (List ℕ)) (r : ResponseData) → option_map (response_with own) o ≡ Some r
    → (own ≡ r.share) × (o ≡ Some r.shared)
response_parts own None r e = cc
response_parts own (Some body) r e =
    let is : response_with own body ≡ r = hybrid.some_response (response_with own body) r e in
    (ap (λ (x : ResponseData). x.share) is, ap (λ (x : ResponseData). Some x.shared) is)

-- A response, by each method.
abbrev Fits : ShareForm → ResponseData → Type 0
Fits form r = (FitsShare form r.share × FitsShared form r.shared) × (IsBytes r.share × IsBytes r.shared)

hybrid_fits : (b : Bool) (random peer : List ℕ) (r : ResponseData) → b ≡ false → hybrid_respond random peer ≡ Some r → Fits (form_of b true) r
hybrid_fits true random peer r off e = cc
hybrid_fits false random peer r off e =
    let is = hybrid.response_is random peer r e in
    let share_long = is.0.long in
    let shared_long = is.1.long in ((omega (arith, share_long), omega (arith, shared_long)), (is.0.bytes, is.1.bytes))

other_fits : (kex random peer : List ℕ) (r : ResponseData) → option_map (response_with (share kex random)) (shared kex random peer) ≡ Some r
    → Fits (form_of (is_group14 kex) (is_hybrid kex)) r
other_fits kex random peer r e =
    let parts = response_parts (share kex random) (shared kex random peer) r e in
    let given = shared_fits kex random peer r.shared parts.1 in (
      (share_by (form_of (is_group14 kex) (is_hybrid kex)) (share kex random) r.share parts.0 (share_fits kex random), given.0),
      (bytes_by (share kex random) r.share parts.0 (share_bytes kex random), given.1),
    )

-- Host keys.
length_point : (p : Point) → length (encode_point p) ≡ 32
unfolding encode_point with_sign
length_point p = length-set _ 31 _ ∙ length_encode _

length_key : (secret : List ℕ) → length (public_key secret) ≡ 32
unfolding public_key
length_key secret = length_point _

length_scalar : (n : ℕ) → length (encode_scalar n) ≡ 32
unfolding encode_scalar bytes_of_halves
length_scalar n = refl

length_signature : (secret input : List ℕ) → length (signature secret input) ≡ 64
unfolding signature
length_signature secret input = length-append _ _ ∙ ap₂ ◌+◌ (length_point _) (length_scalar _)

length_wrapped : (bytes : List ℕ) → length (wrapped bytes) ≡ 19 + length bytes
unfolding wrapped
length_wrapped bytes = let both = length-append (string ed25519) (string bytes) in omega (arith, both)

-- Each cipher.
abbrev sealed_with : Bool → Bool → KeysData → ℕ → List ℕ → List ℕ
sealed_with c g keys seq clear =
    cond c (ctr.seal keys seq clear) (cond g (gcm.seal (is_short_key keys.cipher) keys.iv keys.enc clear) (seal keys.enc seq clear))

-- packet_length, of the first four bytes of a sealed packet, by the kind of cipher
abbrev head_with : Bool → Bool → KeysData → ℕ → List ℕ → ℕ
head_with c g keys seq first = cond c (ctr.head keys first) (cond g (number first) (head keys.enc seq first))

-- a sealed packet unsealed, by the kind of cipher
abbrev unsealed_with : Bool → Bool → KeysData → ℕ → List ℕ → Option (List ℕ)
unsealed_with c g keys seq sealed =
    cond c (ctr.unseal keys seq sealed) (cond g (gcm.unseal (is_short_key keys.cipher) keys.iv keys.enc sealed) (unseal keys.enc seq sealed))

each_length : (c g : Bool) (keys : KeysData) (seq : ℕ) (clear : List ℕ) → 4 ≤ length clear
    → length (sealed_with c g keys seq clear) ≡ length clear + cond c (tag_length keys.mac) 16
each_length true g keys seq clear h = ctr_laws.seal_length keys seq clear h
each_length false true keys seq clear h = gcm_laws.seal_length (is_short_key keys.cipher) keys.iv keys.enc clear h
each_length false false keys seq clear h = seal_length keys.enc seq clear h

each_head : (c g : Bool) (keys : KeysData) (seq : ℕ) (clear : List ℕ) → 4 ≤ length clear
    → head_with c g keys seq (take 4 (sealed_with c g keys seq clear)) ≡ number clear
each_head true g keys seq clear h = ctr_laws.head_of_seal keys seq clear h
each_head false true keys seq clear h = gcm_laws.head_of_seal (is_short_key keys.cipher) keys.iv keys.enc clear h
each_head false false keys seq clear h = head_of_seal keys.enc seq clear h

each_unseal : (c g : Bool) (keys : KeysData) (seq : ℕ) (clear : List ℕ) → 4 ≤ length clear
    → unsealed_with c g keys seq (sealed_with c g keys seq clear) ≡ Some clear
each_unseal true g keys seq clear h = ctr_laws.unseal_of_seal keys seq clear h
each_unseal false true keys seq clear h = gcm_laws.unseal_of_seal (is_short_key keys.cipher) keys.iv keys.enc clear h
each_unseal false false keys seq clear h = unseal_of_seal keys.enc seq clear h

each_unsealed : (c g : Bool) (keys : KeysData) (seq : ℕ) (sealed clear : List ℕ) → IsBytes sealed
    → length sealed ≡ 4 + head_with c g keys seq (take 4 sealed) + cond c (tag_length keys.mac) 16
    → unsealed_with c g keys seq sealed ≡ Some clear → Keeps (head_with c g keys seq (take 4 sealed)) clear
each_unsealed true g keys seq sealed clear h long e = ctr_laws.unsealed keys seq sealed clear h long e
each_unsealed false true keys seq sealed clear h long e = gcm_laws.unsealed (is_short_key keys.cipher) keys.iv keys.enc sealed clear h long e
each_unsealed false false keys seq sealed clear h long e = unsealed keys.enc seq sealed clear h long e

each_bytes : (c g : Bool) (keys : KeysData) (seq : ℕ) (clear : List ℕ) → IsBytes clear → IsBytes (sealed_with c g keys seq clear)
each_bytes true g keys seq clear h = ctr_laws.bytes_seal keys seq clear h
each_bytes false true keys seq clear h = gcm_laws.bytes_seal (is_short_key keys.cipher) keys.iv keys.enc clear h
each_bytes false false keys seq clear h = bytes_seal keys.enc seq clear h

-- the lengths of the keys, by the kinds of cipher and MAC
abbrev lens_with : Bool → Bool → Bool → Bool → KeyLens
lens_with c g short wide =
    cond c (record { iv = 16; enc = cond short 16 32; mac = cond wide 64 32 }) (cond g (record { iv = 12; enc = cond short 16 32; mac = 0 }) (record { iv = 0; enc = 64; mac = 0 }))

-- the lengths of keys are within the limits
abbrev AreShort : KeyLens → Type 0
AreShort lens = (lens.iv ≤ KEY_LIMIT) × (lens.enc ≤ KEY_LIMIT) × (lens.mac ≤ KEY_LIMIT)

each_short : (c g short wide : Bool) → AreShort (lens_with c g short wide)
each_short true g true true = (omega arith, omega arith, omega arith)
each_short true g true false = (omega arith, omega arith, omega arith)
each_short true g false true = (omega arith, omega arith, omega arith)
each_short true g false false = (omega arith, omega arith, omega arith)
each_short false true true wide = (omega arith, omega arith, omega arith)
each_short false true false wide = (omega arith, omega arith, omega arith)
each_short false false short wide = (omega arith, omega arith, omega arith)

are_short : (cipher mac : List ℕ) → AreShort (key_lens cipher mac)
are_short cipher mac = each_short (is_ctr cipher) (is_gcm cipher) (is_short_key cipher) (is_by_sha512 mac)

tag_short : (c wide : Bool) → cond c (cond wide 64 32) 16 ≤ TAG_LIMIT
tag_short true true = omega arith
tag_short true false = omega arith
tag_short false wide = omega arith

-- the vector of the next packet has as many bytes
wide_length : (b : Bool) (iv : List ℕ) (next : ℕ) → (b ≡ true → length iv ≡ 16) → length (cond b (to_be_bytes w128 next) iv) ≡ length iv
wide_length true iv next h = sym (h refl)
wide_length false iv next h = refl

narrow_length : (b : Bool) (iv : List ℕ) (next : ℕ) → (b ≡ true → length iv ≡ 12) → length (cond b (take 12 (to_be_bytes w128 next)) iv) ≡ length iv
narrow_length true iv next h = sym (h refl)
narrow_length false iv next h = refl

next_with : (c g : Bool) (keys : KeysData) (len : ℕ) → length (cond c (ctr.next_iv keys len) (cond g (gcm.next_iv keys.iv) keys.iv)) ≡ length keys.iv
unfolding ctr.next_iv gcm.next_iv
next_with true g keys len = wide_length (eqb (length keys.iv) 16) keys.iv _ (eqb-true (length keys.iv) 16)
next_with false true keys len = narrow_length (eqb (length keys.iv) 12) keys.iv _ (eqb-true (length keys.iv) 12)
next_with false false keys len = refl

pub next_length : (keys : KeysData) (len : ℕ) → length (deployed.next_iv keys len) ≡ length keys.iv
next_length keys len = next_with (is_ctr keys.cipher) (is_gcm keys.cipher) keys len

-- the names of the methods differ
not_both : (kex : List ℕ) → is_hybrid kex ≡ true → is_group14 kex ≡ false
unfolding is_hybrid is_group14
not_both kex e =
    let is : kex ≡ codes "mlkem768x25519-sha256" = (bytes_eq-Decides kex (codes "mlkem768x25519-sha256")).0 e in
    ap (λ (xs : List ℕ). bytes_eq xs (codes "diffie-hellman-group14-sha256")) is

response_given : (kex random peer : List ℕ) (r : ResponseData) → respond kex random peer ≡ Some r → Fits (form_of (is_group14 kex) (is_hybrid kex)) r
unfolding respond
response_given kex random peer r e =
    elim (cases_Bool (is_hybrid kex)) [
      | inl on ↦ let off = not_both kex on in rw (on, off) (hybrid_fits false random peer r refl (rw on at e))
      | inr off ↦ other_fits kex random peer r (rw off at e)
    ]

pub deployed_lawful : IsLawful deployed
deployed_lawful = record {
  seal_length = λ keys seq payload clear h p. each_length (is_ctr keys.cipher) (is_gcm keys.cipher) keys seq clear (some_of_packet _ _ _ payload clear p.1);
  head_of_seal = λ keys seq payload clear h p. each_head (is_ctr keys.cipher) (is_gcm keys.cipher) keys seq clear (some_of_packet _ _ _ payload clear p.1);
  unseal_of_seal = λ keys seq payload clear h p. each_unseal (is_ctr keys.cipher) (is_gcm keys.cipher) keys seq clear (some_of_packet _ _ _ payload clear p.1);
  unsealed = λ keys seq sealed clear h bytes long e. each_unsealed (is_ctr keys.cipher) (is_gcm keys.cipher) keys seq sealed clear bytes long e;
  share_fits = λ kex a h. share_fits kex a;
  shared_fits = λ kex a peer body h e. (shared_fits kex a peer body e).0;
  response_fits = λ kex a peer r h e. (response_given kex a peer r e).0;
  block_low = λ cipher. cond_both (is_ctr cipher || is_gcm cipher) 16 8 (λ (n : ℕ). 8 ≤ n) (λ _. omega arith) (λ _. omega arith);
  block_high = λ cipher. cond_both (is_ctr cipher || is_gcm cipher) 16 8 (λ (n : ℕ). n ≤ BLOCK_LIMIT) (λ _. omega arith) (λ _. omega arith);
  tag_high = λ cipher mac. tag_short (is_ctr cipher) (is_by_sha512 mac);
  iv_high = λ cipher mac. (are_short cipher mac).0;
  enc_high = λ cipher mac. (are_short cipher mac).1;
  mac_high = λ cipher mac. (are_short cipher mac).2;
  padding_length = λ seed seq len. length_stream (sha256 seed) seq 0 len;
  digest_low = λ kex input. omega (arith, length-sha256 input);
  digest_high = λ kex input. omega (arith, length-sha256 input);
  digest_even = λ kex input other. length-sha256 input ∙ sym (length-sha256 other);
  blob_high = λ alg secret name. let long = length_wrapped (public_key secret) in let key = length_key secret in
      cond_both (is_held alg secret) (wrapped (public_key secret)) (public_part secret) (λ (xs : List ℕ). length xs ≤ BLOB_LIMIT)
      (λ _. omega (arith, long, key)) (λ _. public_part_short secret);
  sign_high = λ alg secret input name. let long = length_wrapped (signature secret input) in let own = length_signature secret input in omega (arith, long, own);
  seal_bytes = λ keys seq clear h. each_bytes (is_ctr keys.cipher) (is_gcm keys.cipher) keys seq clear h;
  padding_bytes = λ seed seq len. bytes_stream (sha256 seed) seq 0 len;
  share_bytes = λ kex a h. share_bytes kex a;
  shared_bytes = λ kex a peer body h k e. (shared_fits kex a peer body e).1;
  response_bytes = λ kex a peer r h k e. (response_given kex a peer r e).1;
}
