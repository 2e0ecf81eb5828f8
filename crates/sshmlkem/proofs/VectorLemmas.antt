-- Vectors of polynomials, encoded one after the other and decoded again.

use Rattle.std.proofs.Common.{◌≡◌, ℕ, List, ◌++◌, length, drop, take, refl, ap, ◌∙◌}
use Rattle.std.proofs.lemmas.List.{append_assoc, drop_at, take_at}
use Rattle.sshmlkem.proofs.EncodingLemmas.{decode_of_encode_12}
use Rattle.sshmlkem.proofs.ProductLemmas.{AreRings}
use Rattle.sshmlkem.specs.Codec.{decode_12, encode_12}
use Rattle.sshmlkem.specs.KemBytes.{encoded_12}
use Rattle.sshmlkem.specs.Pke.{decode_vector, encode_vector}
use Rattle.sshmlkem.specs.declared.pke.Vector.{Vector}

-- parts of a list
module _ (a b c d : List ℕ) (n : ℕ) (la : length a ≡ n) (lb : length b ≡ n) (lc : length c ≡ n) where
  whole : ((a ++ b) ++ c) ++ d ≡ a ++ (b ++ (c ++ d))
  whole = append_assoc (a ++ b) c d ∙ append_assoc a b (c ++ d)

  pub part_first : take n (((a ++ b) ++ c) ++ d) ≡ a
  part_first = ap (take n) whole ∙ take_at a (b ++ (c ++ d)) n la

  after_first : drop n (((a ++ b) ++ c) ++ d) ≡ b ++ (c ++ d)
  after_first = ap (drop n) whole ∙ drop_at a (b ++ (c ++ d)) n la

  pub part_second : take n (drop n (((a ++ b) ++ c) ++ d)) ≡ b
  part_second = ap (take n) after_first ∙ take_at b (c ++ d) n lb

  after_second : drop n (drop n (((a ++ b) ++ c) ++ d)) ≡ c ++ d
  after_second = ap (drop n) after_first ∙ drop_at b (c ++ d) n lb

  pub part_third : take n (drop n (drop n (((a ++ b) ++ c) ++ d))) ≡ c
  part_third = ap (take n) after_second ∙ take_at c d n lc

  pub part_rest : drop n (drop n (drop n (((a ++ b) ++ c) ++ d))) ≡ d
  part_rest = ap (drop n) after_second ∙ drop_at c d n lc

pub vector_is : (a b c p q r : List ℕ) → a ≡ p → b ≡ q → c ≡ r → ◌≡◌ {A = Vector} (record { first = a; second = b; third = c }) (record { first = p; second = q; third = r })
vector_is a b c p q r h1 h2 h3 = rw (h1, h2, h3) refl

pub vector_back : (v : Vector) → AreRings v → decode_vector (encode_vector v) ≡ v
unfolding decode_vector encode_vector
vector_back v r =
    let a = encoded_12 v.first in
    let b = encoded_12 v.second in
    let c = encoded_12 v.third in
    let x : List ℕ = encode_12 v.first in
    let y : List ℕ = encode_12 v.second in
    let z : List ℕ = encode_12 v.third in
    let w : (x ++ y) ++ z ≡ x ++ (y ++ z) = append_assoc x y z in
    let first : take 384 ((x ++ y) ++ z) ≡ x = ap (take 384) w ∙ take_at x (y ++ z) 384 a.long in
    let rest : drop 384 ((x ++ y) ++ z) ≡ y ++ z = ap (drop 384) w ∙ drop_at x (y ++ z) 384 a.long in
    let second : take 384 (drop 384 ((x ++ y) ++ z)) ≡ y = ap (take 384) rest ∙ take_at y z 384 b.long in
    let third : drop 384 (drop 384 ((x ++ y) ++ z)) ≡ z = ap (drop 384) rest ∙ drop_at y z 384 b.long in
    vector_is _ _ _ v.first v.second v.third (ap decode_12 first ∙ decode_of_encode_12 v.first r.first.long r.first.low)
    (ap decode_12 second ∙ decode_of_encode_12 v.second r.second.long r.second.low) (ap decode_12 third ∙ decode_of_encode_12 v.third r.third.long r.third.low)
