-- K-PKE decrypts what it encrypts, exactly where the noise keeps the bits.

use Rattle.sshmlkem.specs.KemBytes.{encoded_10}
use Rattle.std.proofs.Common.{◌≡◌, ℕ, ◌<◌, ◌↔◌, true, List, [], ◌∷◌, ◌++◌, length, drop, take, refl, sym, ap, ap₂, ◌∙◌, arith, map}
use Rattle.std.proofs.lemmas.List.{drop_at, ext_get_or, get_or-map, length-map, take_at}
use Rattle.std.specs.Prelude.{slice_index}
use Prim.{tt}
use Rattle.sshkeccak.specs.Sponge.{sha3_512}
use Rattle.sshmlkem.proofs.CodingLemmas.{encode_1_is}
use Rattle.sshmlkem.proofs.DrawnLemmas.{column_rings, noise_ring, noises_rings}
use Rattle.sshmlkem.proofs.EncodingLemmas.{compressed_again_1, compressed_low_1, decode_of_encode_1, decode_of_encode_10, decode_of_encode_4, encode_of_decode_1}
use Rattle.sshmlkem.proofs.MessageLemmas.{decoded_ring, small_keeps_bits, rounded_ring}
use Rattle.sshmlkem.proofs.NumberLemmas.{deduced, plus_combined}
use Rattle.sshmlkem.proofs.PairLemmas.{IsMasked, products_are, public_rings}
use Rattle.sshmlkem.proofs.ProductLemmas.{AreRings, add_is, add_ring, dot_ring, ntts_rings, subtract_is, subtract_ring}
use Rattle.sshmlkem.proofs.TransformLemmas.{inverse_combines, inverse_ring, ntt_combines, ntt_ring, transform_of_inverse}
use Rattle.sshmlkem.proofs.TransformedNoise.{transformed_noise, transformed_noise_between}
use Rattle.sshmlkem.proofs.VectorLemmas.{part_first, part_rest, part_second, part_third, vector_back, vector_is}
use Rattle.sshmlkem.specs.Bits.{byte_encode}
use Rattle.sshmlkem.specs.Codec.{compressed, decode_1, decode_10, decode_4, decompressed, encode_1}
use Rattle.sshmlkem.specs.Kem.{encapsulated, keys_of}
use Rattle.sshmlkem.specs.KemBytes.{IsBytes, encoded_vector}
use Rattle.sshmlkem.specs.Noise.{KeepsBits, are_small, encryption_seed, public_vector, rounded, rounding, u_errors, u_part, v_of}
use Rattle.sshmlkem.specs.Ntt.{add, inverse_ntt, ntt, subtract}
use Rattle.sshmlkem.specs.Pke.{column, decrypted, dot, encode_vector, encrypted, last_part, masked, noises, ntts, pke_keys}
use Rattle.sshmlkem.specs.Ring.{Combines, IsRing, minus, plus, times}
use Rattle.sshmlkem.specs.Sample.{noise}
use Rattle.sshmlkem.specs.declared.pke.Vector.{Vector}
use Rattle.sshpolynomials.specs.Polynomials.{given, num, var, ◌⊕◌, ◌⊖◌, ◌⊗◌}

-- numbers
minus_combined : (a b : ℕ) → a < 3329 → b < 3329 → minus a b ≡ plus (times 1 a) (times 3328 b)
minus_combined a b la lb = deduced (var 0 ⊖ var 1) (num 1 ⊗ var 0 ⊕ num 3328 ⊗ var 1) [] (a ∷ b ∷ []) (la, (lb, tt)) tt refl

rounding_identity : (u c e : ℕ) → u < 3329 → c < 3329 → e < 3329 → u ≡ plus (times 1 c) (times 1 (plus e (minus u (plus c e))))
rounding_identity u c e lu lc le = deduced (var 0) (num 1 ⊗ var 1 ⊕ num 1 ⊗ (var 2 ⊕ (var 0 ⊖ (var 1 ⊕ var 2)))) [] (u ∷ c ∷ e ∷ []) (lu, (lc, (le, tt))) tt refl

left_over : (v a b p q e m : ℕ) → v < 3329 → a < 3329 → b < 3329 → p < 3329 → q < 3329 → e < 3329 → m < 3329
    → plus (times 1 a) (times 3328 b) ≡ plus (times 1 p) (times 3328 q)
    → minus v b ≡ plus m (minus (plus (plus e (minus v (plus (plus a e) m))) p) q)
left_over v a b p q e m lv la lb lp lq le lm is =
    deduced (var 0 ⊖ var 2) (var 6 ⊕ ((var 5 ⊕ (var 0 ⊖ (var 1 ⊕ var 5 ⊕ var 6)) ⊕ var 3) ⊖ var 4))
    (given (num 1) (num 1 ⊗ var 1 ⊕ num 3328 ⊗ var 2) (num 1 ⊗ var 3 ⊕ num 3328 ⊗ var 4) ∷ [])
    (v ∷ a ∷ b ∷ p ∷ q ∷ e ∷ m ∷ []) (lv, (la, (lb, (lp, (lq, (le, (lm, tt))))))) (is, tt) refl

module _ (rho : List ℕ) (s e y e1 : Vector) (e2 m : List ℕ) (rs : AreRings s) (re : AreRings e) (ry : AreRings y) (r1 : AreRings e1) (r2 : IsRing e2)
    (are : IsBytes m) (long : length m ≡ 32) where
  n : Vector
  n = u_errors rho y e1

  u : Vector
  u = record { first = rounded 10 (u_part rho y 0 e1.first); second = rounded 10 (u_part rho y 1 e1.second); third = rounded 10 (u_part rho y 2 e1.third) }

  u_part_ring : (i : ℕ) (f : List ℕ) → IsRing (u_part rho y i f)
  unfolding u_part
  u_part_ring i f = add_ring _ f (inverse_ring _ (dot_ring (column rho i) y (column_rings rho i) ry))

  error_ring : (i : ℕ) (f : List ℕ) → IsRing f → IsRing (add f (rounding 10 (u_part rho y i f)))
  error_ring i f r = add_ring f _ r

  u_at : (i : ℕ) (f : List ℕ) (x : ℕ) → x < 256 → slice_index (u_part rho y i f) x ≡ plus (slice_index (inverse_ntt (dot (column rho i) y)) x) (slice_index f x)
  unfolding u_part
  u_at i f x l = add_is _ f (inverse_ring _ (dot_ring (column rho i) y (column_rings rho i) ry)) x l

  split : (i : ℕ) (f : List ℕ) → IsRing f → Combines 1 (inverse_ntt (dot (column rho i) y)) 1 (add f (rounding 10 (u_part rho y i f))) (rounded 10 (u_part rho y i f))
  unfolding rounding
  split i f r x l =
      let c : List ℕ = inverse_ntt (dot (column rho i) y) in
      let rc = inverse_ring _ (dot_ring (column rho i) y (column_rings rho i) ry) in
      let g : List ℕ = rounded 10 (u_part rho y i f) in
      let rg = rounded_ring 10 (u_part rho y i f) (u_part_ring i f) in
      rounding_identity (slice_index g x) (slice_index c x) (slice_index f x) (rg.low x) (rc.low x) (r.low x)
      ∙ sym (ap (λ (k : ℕ). plus (times 1 (slice_index c x)) (times 1 k))
      (add_is f _ r x l ∙ ap (plus (slice_index f x)) (subtract_is g (u_part rho y i f) rg (u_part_ring i f) x l ∙ ap (minus (slice_index g x)) (u_at i f x l))))

  -- a part of u, compressed
  part_is : (i : ℕ) (f : List ℕ) → IsRing f → (x : ℕ) → x < 256
      → slice_index (ntt (rounded 10 (u_part rho y i f))) x ≡ plus (slice_index (dot (column rho i) y) x) (slice_index (ntt (add f (rounding 10 (u_part rho y i f)))) x)
  part_is i f r x l =
      let c : List ℕ = dot (column rho i) y in
      let rc = dot_ring (column rho i) y (column_rings rho i) ry in
      let ri = inverse_ring c rc in
      let g : List ℕ = rounded 10 (u_part rho y i f) in
      let rg = rounded_ring 10 (u_part rho y i f) (u_part_ring i f) in
      let h : List ℕ = add f (rounding 10 (u_part rho y i f)) in
      let rh = error_ring i f r in
      let n_rings = ntt_ring h rh in
      ntt_combines 1 1 (omega arith) (omega arith) (inverse_ntt c) h g ri rh rg (split i f r) x l
      ∙ (ap (λ (k : List ℕ). plus (times 1 (slice_index k x)) (times 1 (slice_index (ntt h) x))) (transform_of_inverse c rc)
      ∙ plus_combined (slice_index c x) (slice_index (ntt h) x) (rc.low x) (n_rings.low x))

  n_rings : AreRings n
  unfolding n u_errors
  n_rings = record { first = error_ring 0 e1.first r1.first; second = error_ring 1 e1.second r1.second; third = error_ring 2 e1.third r1.third }

  u_rings : AreRings u
  unfolding u
  u_rings = record { first = rounded_ring 10 _ (u_part_ring 0 e1.first); second = rounded_ring 10 _ (u_part_ring 1 e1.second); third = rounded_ring 10 _ (u_part_ring 2 e1.third) }

  masked_is : IsMasked rho y (ntts n) (ntts u)
  unfolding ntts n u u_errors
  masked_is = record { first = part_is 0 e1.first r1.first; second = part_is 1 e1.second r1.second; third = part_is 2 e1.third r1.third }

  t : Vector
  t = public_vector rho s e

  t_rings : AreRings t
  unfolding t
  t_rings = public_rings rho s e rs

  a : List ℕ
  a = dot t y

  b : List ℕ
  b = dot s (ntts u)

  p : List ℕ
  p = dot e y

  q : List ℕ
  q = dot s (ntts n)

  a_ring : IsRing a
  unfolding a
  a_ring = dot_ring t y t_rings ry

  b_ring : IsRing b
  unfolding b
  b_ring = dot_ring s (ntts u) rs (ntts_rings u u_rings)

  p_ring : IsRing p
  unfolding p
  p_ring = dot_ring e y re ry

  q_ring : IsRing q
  unfolding q
  q_ring = dot_ring s (ntts n) rs (ntts_rings n n_rings)

  same_products : (x : ℕ) → x < 256 → minus (slice_index a x) (slice_index b x) ≡ minus (slice_index p x) (slice_index q x)
  unfolding a b p q t
  same_products x l = products_are rho s e y (ntts n) (ntts u) rs re ry (ntts_rings n n_rings) (ntts_rings u u_rings) masked_is x l

  same_inverses : (x : ℕ) → x < 256 → plus (times 1 (slice_index (inverse_ntt a) x)) (times 3328 (slice_index (inverse_ntt b) x))
      ≡ plus (times 1 (slice_index (inverse_ntt p) x)) (times 3328 (slice_index (inverse_ntt q) x))
  same_inverses x l =
      let d : List ℕ = subtract a b in
      let rd = subtract_ring a b a_ring b_ring in
      let left : Combines 1 a 3328 b d = λ i h. subtract_is a b a_ring b_ring i h ∙ minus_combined (slice_index a i) (slice_index b i) (a_ring.low i) (b_ring.low i) in
      let right : Combines 1 p 3328 q d = λ i h. subtract_is a b a_ring b_ring i h ∙ (same_products i h ∙ minus_combined (slice_index p i) (slice_index q i) (p_ring.low i) (q_ring.low i)) in
      sym (inverse_combines 1 3328 (omega arith) (omega arith) a b d a_ring b_ring rd left x l)
      ∙ inverse_combines 1 3328 (omega arith) (omega arith) p q d p_ring q_ring rd right x l

  v : List ℕ
  v = v_of t y e2 m

  v_ring : IsRing v
  unfolding v v_of a
  v_ring = add_ring _ (decode_1 m) (add_ring _ e2 (inverse_ring a a_ring))

  v_at : (x : ℕ) → x < 256 → slice_index v x ≡ plus (plus (slice_index (inverse_ntt a) x) (slice_index e2 x)) (slice_index (decode_1 m) x)
  unfolding v v_of a
  v_at x l =
      let ri = inverse_ring a a_ring in
      add_is _ (decode_1 m) (add_ring _ e2 ri) x l ∙ ap (λ (k : ℕ). plus k (slice_index (decode_1 m) x)) (add_is (inverse_ntt a) e2 ri x l)

  left : List ℕ
  left = transformed_noise rho s e y e1 e2 m

  w : List ℕ
  w = subtract (rounded 4 v) (inverse_ntt b)

  w_ring : IsRing w
  unfolding w
  w_ring = subtract_ring _ _ (rounded_ring 4 v v_ring) (inverse_ring b b_ring)

  parts : IsRing (add (add e2 (rounding 4 v)) (inverse_ntt p))
  parts = add_ring _ _ (add_ring e2 _ r2)

  noise_is : left ≡ subtract (add (add e2 (rounding 4 v)) (inverse_ntt p)) (inverse_ntt q)
  unfolding left transformed_noise v t p q n
  noise_is = refl

  left_ringed : IsRing left
  left_ringed = rw noise_is (subtract_ring _ _ parts (inverse_ring q q_ring))

  noise_at : (x : ℕ) → x < 256 → slice_index left x
      ≡ minus (plus (plus (slice_index e2 x) (minus (slice_index (rounded 4 v) x) (plus (plus (slice_index (inverse_ntt a) x) (slice_index e2 x)) (slice_index (decode_1 m) x)))) (slice_index (inverse_ntt p) x)) (slice_index (inverse_ntt q) x)
  unfolding rounding
  noise_at x l =
      ap (λ (f : List ℕ). slice_index f x) noise_is
      ∙ (subtract_is _ _ parts (inverse_ring q q_ring) x l
      ∙ ap (λ (k : ℕ). minus k (slice_index (inverse_ntt q) x))
      (add_is _ (inverse_ntt p) (add_ring e2 _ r2) x l
      ∙ ap (λ (k : ℕ). plus k (slice_index (inverse_ntt p) x))
      (add_is e2 _ r2 x l ∙ ap (plus (slice_index e2 x)) (subtract_is (rounded 4 v) v (rounded_ring 4 v v_ring) v_ring x l ∙ ap (minus (slice_index (rounded 4 v) x)) (v_at x l)))))

  -- what is decrypted is the message's numbers, and the noise
  w_at : (x : ℕ) → x < 256 → slice_index w x ≡ plus (slice_index (decode_1 m) x) (slice_index left x)
  unfolding w
  w_at x l =
      let r4 = rounded_ring 4 v v_ring in
      let ia = inverse_ring a a_ring in
      let ib = inverse_ring b b_ring in
      let ip = inverse_ring p p_ring in
      let iq = inverse_ring q q_ring in
      let rm = decoded_ring m in
      subtract_is (rounded 4 v) (inverse_ntt b) r4 ib x l
      ∙ (left_over (slice_index (rounded 4 v) x) (slice_index (inverse_ntt a) x) (slice_index (inverse_ntt b) x) (slice_index (inverse_ntt p) x) (slice_index (inverse_ntt q) x) (slice_index e2 x) (slice_index (decode_1 m) x)
      (r4.low x) (ia.low x) (ib.low x) (ip.low x) (iq.low x) (r2.low x) (rm.low x) (same_inverses x l)
      ∙ sym (ap (plus (slice_index (decode_1 m) x)) (noise_at x l)))

  same_bits : KeepsBits m left → map (compressed 1) w ≡ map (compressed 1) (decode_1 m)
  same_bits keeps_bits =
      let rm = decoded_ring m in
      let lw = w_ring.long in
      let lm = rm.long in
      let cw = length-map w (compressed 1) in
      let cm = length-map (decode_1 m) (compressed 1) in
      ext_get_or 0 (map (compressed 1) w) (map (compressed 1) (decode_1 m)) (omega (arith, lw, lm, cw, cm))
      (λ i h.
      let l : i < 256 = omega (arith, h, cw, lw) in
      get_or-map (compressed 1) w i 0 0 (omega (arith, l, lw))
      ∙ (ap (compressed 1) (w_at i l) ∙ (keeps_bits i l ∙ sym (get_or-map (compressed 1) (decode_1 m) i 0 0 (omega (arith, l, lm))))))

  message_back : KeepsBits m left → encode_1 w ≡ m
  message_back keeps_bits =
      let rm = decoded_ring m in
      encode_1_is w w_ring.long ∙ (ap (byte_encode 1) (same_bits keeps_bits) ∙ (sym (encode_1_is (decode_1 m) rm.long) ∙ encode_of_decode_1 m are long))

  bits_back : encode_1 w ≡ m → KeepsBits m left
  bits_back e i l =
      let lw = w_ring.long in
      let whole : decode_1 m ≡ map (λ n. decompressed 1 (compressed 1 n)) w = ap decode_1 (sym e) ∙ decode_of_encode_1 w lw in
      let one : slice_index (decode_1 m) i ≡ decompressed 1 (compressed 1 (slice_index w i)) =
      ap (λ (f : List ℕ). slice_index f i) whole ∙ get_or-map (λ (n : ℕ). decompressed 1 (compressed 1 n)) w i 0 0 (omega (arith, l, lw)) in
      ap (compressed 1) (sym (w_at i l)) ∙ sym (ap (compressed 1) one ∙ compressed_again_1 (compressed 1 (slice_index w i)) (compressed_low_1 (slice_index w i)))

  -- the ciphertext
  first_bytes : List ℕ
  first_bytes = masked rho y 0 e1.first

  second_bytes : List ℕ
  second_bytes = masked rho y 1 e1.second

  third_bytes : List ℕ
  third_bytes = masked rho y 2 e1.third

  v_bytes : List ℕ
  v_bytes = last_part t y e2 m

  masked_long : (i : ℕ) (f : List ℕ) → length (masked rho y i f) ≡ 320
  unfolding masked
  masked_long i f = let are = encoded_10 (add (inverse_ntt (dot (column rho i) y)) f) in are.long

  u_back : (i : ℕ) (f : List ℕ) → decode_10 (masked rho y i f) ≡ rounded 10 (u_part rho y i f)
  unfolding masked rounded u_part
  u_back i f = let r = u_part_ring i f in decode_of_encode_10 (add (inverse_ntt (dot (column rho i) y)) f) r.long

  last_back : decode_4 v_bytes ≡ rounded 4 v
  unfolding v_bytes last_part rounded v v_of
  last_back = decode_of_encode_4 v v_ring.long

  u_decoded : List ℕ → Vector
  u_decoded c = record { first = decode_10 (take 320 c); second = decode_10 (take 320 (drop 320 c)); third = decode_10 (take 320 (drop 320 (drop 320 c))) }

  c : List ℕ
  c = ((first_bytes ++ second_bytes) ++ third_bytes) ++ v_bytes

  u_is : u_decoded c ≡ u
  unfolding u_decoded c first_bytes second_bytes third_bytes u
  u_is =
      let l0 = masked_long 0 e1.first in
      let l1 = masked_long 1 e1.second in
      let l2 = masked_long 2 e1.third in
      vector_is _ _ _ _ _ _
      (ap decode_10 (part_first first_bytes second_bytes third_bytes v_bytes 320 l0 l1 l2) ∙ u_back 0 e1.first)
      (ap decode_10 (part_second first_bytes second_bytes third_bytes v_bytes 320 l0 l1 l2) ∙ u_back 1 e1.second)
      (ap decode_10 (part_third first_bytes second_bytes third_bytes v_bytes 320 l0 l1 l2) ∙ u_back 2 e1.third)

  last_is : decode_4 (drop 320 (drop 320 (drop 320 c))) ≡ rounded 4 v
  unfolding c first_bytes second_bytes third_bytes
  last_is = ap decode_4 (part_rest first_bytes second_bytes third_bytes v_bytes 320 (masked_long 0 e1.first) (masked_long 1 e1.second) (masked_long 2 e1.third)) ∙ last_back

  decrypted_is : decrypted (encode_vector s) c ≡ encode_1 w
  unfolding decrypted w b u_decoded
  decrypted_is = rw (vector_back s rs) (ap₂ (λ (f : List ℕ) (g : Vector). encode_1 (subtract f (inverse_ntt (dot s (ntts g))))) last_is u_is)

  decrypts : ((decrypted (encode_vector s) c ≡ m) ↔ KeepsBits m left) × IsRing left
  decrypts = (((λ e. bits_back (sym decrypted_is ∙ e)), (λ keeps_bits. decrypted_is ∙ message_back keeps_bits)), left_ringed)

encrypted_is : (rho : List ℕ) (t : Vector) → AreRings t → (m seed : List ℕ)
    → encrypted (encode_vector t ++ rho) m seed
    ≡ ((masked rho (ntts (noises seed 0)) 0 (noises seed 3).first ++ masked rho (ntts (noises seed 0)) 1 (noises seed 3).second) ++ masked rho (ntts (noises seed 0)) 2 (noises seed 3).third)
    ++ last_part t (ntts (noises seed 0)) (noise seed 6) m
unfolding encrypted
encrypted_is rho t t_rings m seed =
    let are = encoded_vector t in
    let front : take 1152 (encode_vector t ++ rho) ≡ encode_vector t = take_at (encode_vector t) rho 1152 are.long in
    let rest : drop 1152 (encode_vector t ++ rho) ≡ rho = drop_at (encode_vector t) rho 1152 are.long in
    rw (rest, front, vector_back t t_rings) refl

by_seed : (rho : List ℕ) (s e : Vector) (m : List ℕ) → AreRings s → AreRings e → IsBytes m → length m ≡ 32 → (seed : List ℕ)
    → (let n : List ℕ = transformed_noise rho s e (ntts (noises seed 0)) (noises seed 3) (noise seed 6) m in
    ((decrypted (encode_vector s) (encrypted (encode_vector (public_vector rho s e) ++ rho) m seed) ≡ m) ↔ KeepsBits m n) × IsRing n)
unfolding c first_bytes second_bytes third_bytes v_bytes t left
by_seed rho s e m rs re are long seed =
    let is = ap (decrypted (encode_vector s)) (encrypted_is rho (public_vector rho s e) (public_rings rho s e rs) m seed) in
    let own = decrypts rho s e (ntts (noises seed 0)) (noises seed 3) (noise seed 6) m rs re (ntts_rings _ (noises_rings seed 0)) (noises_rings seed 3) (noise_ring seed 6) are long in
    (((λ h. own.0.0 (sym is ∙ h)), (λ k. is ∙ own.0.1 k)), own.1)

exactly : (d z m : List ℕ) → IsBytes m → length m ≡ 32
    → ((decrypted (pke_keys d).decryption_key (encapsulated (keys_of d z).encapsulation_key m).ciphertext ≡ m) ↔ KeepsBits m (transformed_noise_between d m)) × IsRing (transformed_noise_between d m)
unfolding keys_of encapsulated pke_keys transformed_noise_between encryption_seed public_vector
exactly d z m are long =
    let seeds : List ℕ = sha3_512 (d ++ 3 ∷ []) in
    by_seed (take 32 seeds) (ntts (noises (drop 32 seeds) 0)) (ntts (noises (drop 32 seeds) 3)) m (ntts_rings _ (noises_rings (drop 32 seeds) 0)) (ntts_rings _ (noises_rings (drop 32 seeds) 3)) are long
    (encryption_seed (pke_keys d).encryption_key m)

-- what is encapsulated is decrypted exactly where the noise keeps the bits
pub decrypted_exactly : (d z m : List ℕ) → IsBytes m → length m ≡ 32
    → (decrypted (pke_keys d).decryption_key (encapsulated (keys_of d z).encapsulation_key m).ciphertext ≡ m) ↔ KeepsBits m (transformed_noise_between d m)
decrypted_exactly d z m are long = (exactly d z m are long).0

-- and so where it is small
pub decrypted_back : (d z m : List ℕ) → IsBytes m → length m ≡ 32 → are_small (transformed_noise_between d m) ≡ true
    → decrypted (pke_keys d).decryption_key (encapsulated (keys_of d z).encapsulation_key m).ciphertext ≡ m
decrypted_back d z m are long small =
    let own = exactly d z m are long in own.0.1 (small_keeps_bits m (transformed_noise_between d m) own.1 small)
