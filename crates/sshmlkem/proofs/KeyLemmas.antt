-- A key that is generated is an encapsulation key: its numbers are below q.

use Rattle.std.proofs.Common.{◌≡◌, ℕ, zero, suc, ◌+◌, ◌*◌, ◌≤◌, ◌<◌, inl, inr, true, List, ◌++◌, length, take, drop, refl, sym, ap, ap₂, ◌∙◌, arith, eqb, append_assoc}
use Rattle.std.proofs.lemmas.Bool.{cases_Bool, cases_lt, eqb-false, eqb-true}
use Rattle.std.proofs.lemmas.List.{drop_at, get_or-set_other, get_or-set_same, get_or_past, length-replicate, length-set, take_at}
use Rattle.std.specs.Prelude.{slice_index, slice_set}
use Rattle.sshkeccak.specs.Repeated.{repeated}
use Rattle.sshmlkem.proofs.EncodingLemmas.{decode_of_encode_12}
use Rattle.sshmlkem.proofs.ModulusLemmas.{key_is}
use Rattle.sshmlkem.specs.Codec.{decode_12, encode_12}
use Rattle.sshmlkem.specs.Field.{sum}
use Rattle.sshmlkem.specs.Kem.{is_key, keys_of}
use Rattle.sshmlkem.specs.KemBytes.{AreBytes, both_parts, digest_bytes, encoded_12, encoded_vector, first_half, keeps}
use Rattle.sshmlkem.specs.Ntt.{add, add_product, sum_at, with_product}
use Rattle.sshmlkem.specs.Pke.{decode_vector, dot, encode_vector, pke_keys, row_sum}
use Rattle.sshmlkem.specs.Ring.{IsRing}
use Rattle.sshmlkem.specs.declared.pke.Vector.{Vector}

abbrev HasLength : List ℕ → Type 0
HasLength f = length f ≡ 256

product_long : (h f g : List ℕ) → length h ≡ 256 → length (add_product h f g) ≡ 256
unfolding add_product with_product
product_long h f g long =
    keeps HasLength (with_product f g) (λ xs i e. length-set _ (2 * i + 1) _ ∙ (length-set xs (2 * i) _ ∙ e)) h 128 long

dot_long : (f g : Vector) → length (dot f g) ≡ 256
unfolding dot
dot_long f g =
    product_long _ f.third g.third (product_long _ f.second g.second (product_long _ f.first g.first (length-replicate {A = ℕ} 256 0)))

sum_below : (a b : ℕ) → sum a b < 3329
unfolding sum
sum_below a b = omega arith

sums_long : (f g : List ℕ) (n : ℕ) → length (repeated (sum_at g) f n) ≡ length f
unfolding repeated sum_at
sums_long f g zero = refl
sums_long f g (suc n) = length-set (repeated (sum_at g) f n) n _ ∙ sums_long f g n

below : (i n : ℕ) → i < suc n → (i ≡ n → ⊥) → i < n
below i n h off = omega arith

sums_low : (f g : List ℕ) → length f ≡ 256 → (n : ℕ) → n ≤ 256 → (i : ℕ) → i < n → slice_index (repeated (sum_at g) f n) i < 3329
unfolding repeated sum_at
sums_low f g long zero h i less = absurd (omega (arith, less))
sums_low f g long (suc n) h i less =
    let xs : List ℕ = repeated (sum_at g) f n in
    let v : ℕ = sum (slice_index xs n) (slice_index g n) in
    let own = sums_long f g n in
    let low = sum_below (slice_index xs n) (slice_index g n) in
    elim (cases_Bool (eqb i n)) [
      | inl e ↦
          let is : i ≡ n = eqb-true i n e in
          let at : slice_index (slice_set xs n v) i ≡ v = ap (slice_index (slice_set xs n v)) is ∙ get_or-set_same xs n v 0 (omega (arith, own, long, h)) in
          omega (arith, at, low)
      | inr e ↦
          let off = eqb-false i n e in
          let at : slice_index (slice_set xs n v) i ≡ slice_index xs i = get_or-set_other xs n i v 0 off in
          let before = sums_low f g long n (omega (arith, h)) i (below i n less off) in
          omega (arith, at, before)
    ]

added_reduced : (f g : List ℕ) → length f ≡ 256 → IsRing (add f g)
unfolding add
added_reduced f g long = record {
  long = sums_long f g 256 ∙ long;
  low = λ i. elim (cases_lt i 256) [
    | inl h ↦ sums_low f g long 256 (omega arith) i h
    | inr h ↦
        let own = sums_long f g 256 in
        let none : slice_index (repeated (sum_at g) f 256) i ≡ 0 = get_or_past (repeated (sum_at g) f 256) i 0 (omega (arith, own, long, h)) in
        omega (arith, none)
  ];
}

row_reduced : (rho : List ℕ) (i : ℕ) (s : Vector) (error : List ℕ) → IsRing (row_sum rho i s error)
unfolding row_sum
row_reduced rho i s error = added_reduced _ error (dot_long _ s)

module _ (f g h : List ℕ) (f_low : IsRing f) (g_low : IsRing g) (h_low : IsRing h) where
  all : List ℕ
  all = (encode_12 f ++ encode_12 g) ++ encode_12 h

  again : (p x : List ℕ) → IsRing x → p ≡ encode_12 x → encode_12 (decode_12 p) ≡ encode_12 x
  again p x low e = ap (λ (y : List ℕ). encode_12 (decode_12 y)) e ∙ ap encode_12 (decode_of_encode_12 x low.long low.low)

  same_again : encode_vector (decode_vector all) ≡ all
  unfolding encode_vector decode_vector all
  same_again =
      let a_are = encoded_12 f in
      let b_are = encoded_12 g in
      let right = append_assoc (encode_12 f) (encode_12 g) (encode_12 h) in
      let a : take 384 ((encode_12 f ++ encode_12 g) ++ encode_12 h) ≡ encode_12 f =
      ap (take 384) right ∙ take_at (encode_12 f) (encode_12 g ++ encode_12 h) 384 a_are.long in
      let rest : drop 384 ((encode_12 f ++ encode_12 g) ++ encode_12 h) ≡ encode_12 g ++ encode_12 h =
      ap (drop 384) right ∙ drop_at (encode_12 f) (encode_12 g ++ encode_12 h) 384 a_are.long in
      let b : take 384 (drop 384 ((encode_12 f ++ encode_12 g) ++ encode_12 h)) ≡ encode_12 g =
      ap (take 384) rest ∙ take_at (encode_12 g) (encode_12 h) 384 b_are.long in
      let c : drop 384 (drop 384 ((encode_12 f ++ encode_12 g) ++ encode_12 h)) ≡ encode_12 h =
      ap (drop 384) rest ∙ drop_at (encode_12 g) (encode_12 h) 384 b_are.long in
      ap₂ ◌++◌ (ap₂ ◌++◌ (again _ f f_low a) (again _ g g_low b)) (again _ h h_low c)

  is_key_of : (rho : List ℕ) → AreBytes 32 rho → is_key (encode_vector (record { first = f; second = g; third = h }) ++ rho) ≡ true
  unfolding encode_vector all
  is_key_of rho rho_are =
      let front = encoded_vector (record { first = f; second = g; third = h }) in
      let whole = both_parts 1152 32 (encode_vector (record { first = f; second = g; third = h })) rho front rho_are in
      let cut : take 1152 (encode_vector (record { first = f; second = g; third = h }) ++ rho) ≡ encode_vector (record { first = f; second = g; third = h }) =
      take_at (encode_vector (record { first = f; second = g; third = h })) rho 1152 front.long in
      (key_is (encode_vector (record { first = f; second = g; third = h }) ++ rho) whole.bytes).1
      (whole.long, ap (λ (x : List ℕ). encode_vector (decode_vector x)) cut ∙ (same_again ∙ sym cut))

pub own_key : (d z : List ℕ) → is_key (keys_of d z).encapsulation_key ≡ true
unfolding keys_of pke_keys
own_key d z =
    is_key_of _ _ _ (row_reduced _ _ _ _) (row_reduced _ _ _ _) (row_reduced _ _ _ _) _ (first_half _ (digest_bytes _))
