-- The suite of a reader without keys has the laws.

use Rattle.std.proofs.Common.{◌≡◌, ℕ, zero, suc, ◌+◌, List, ◌∷◌, length, take, Option, Some, refl, sym, ap, ◌∙◌, arith, lit<, lit≤, subst, false, ltb, []}
use Rattle.std.proofs.lemmas.Bool.{le-ltb}
use Rattle.sshwire.specs.ByteLaws.{bytes_cons, bytes_none}
use Rattle.sshwire.specs.TypeReadings.{uint32_at}
use Rattle.sshwire.specs.Types.{IsBytes}
use Rattle.sshpacket.specs.NoSuite.{no_suite, zeros}
use Rattle.sshpacket.specs.Packet.{number}
use Rattle.sshpacket.specs.Suite.{IsLawful, Keeps}

length_zeros : (n : ℕ) → length (zeros n) ≡ n
length_zeros zero = refl
length_zeros (suc n) = ap (λ (k : ℕ). suc k) (length_zeros n)

bytes_zeros : (n : ℕ) → IsBytes (zeros n)
bytes_zeros zero = bytes_none
bytes_zeros (suc n) = bytes_cons 0 (zeros n) (lit< tt) (bytes_zeros n)

number_first : (bytes : List ℕ) → number (take 4 bytes) ≡ number bytes
unfolding number uint32_at
number_first [] = refl
number_first (a ∷ []) = refl
number_first (a ∷ b ∷ []) = refl
number_first (a ∷ b ∷ c ∷ []) = refl
number_first (a ∷ b ∷ c ∷ d ∷ more) =
    let long : ltb (length (a ∷ b ∷ c ∷ d ∷ more)) 4 ≡ false = le-ltb (length (a ∷ b ∷ c ∷ d ∷ more)) 4 (omega arith) in
    rw long refl

keeps : (sealed : List ℕ) → IsBytes sealed → length sealed ≡ 4 + number (take 4 sealed) + 0 → Keeps (number (take 4 sealed)) sealed
keeps sealed each size = record { length_is = size ∙ omega arith; field_is = sym (number_first sealed); bytes_are = each }

same_some : (a b : List ℕ) → ◌≡◌ {A = Option (List ℕ)} (Some a) (Some b) → a ≡ b
same_some a b e = cc

keeps_some : (sealed clear : List ℕ) → IsBytes sealed → length sealed ≡ 4 + number (take 4 sealed) + 0 → ◌≡◌ {A = Option (List ℕ)} (Some sealed) (Some clear)
    → Keeps (number (take 4 sealed)) clear
keeps_some sealed clear each size e = subst (λ (xs : List ℕ). Keeps (number (take 4 sealed)) xs) (same_some sealed clear e) (keeps sealed each size)

pub no_suite_lawful : IsLawful no_suite
no_suite_lawful = record {
  seal_length = λ keys seq payload clear low is. omega arith;
  head_of_seal = λ keys seq payload clear low is. number_first clear;
  unseal_of_seal = λ keys seq payload clear low is. refl;
  unsealed = λ keys seq sealed clear low each size e. keeps_some sealed clear each size e;
  share_fits = λ kex a long. lit≤ tt;
  shared_fits = λ kex a peer body long e. absurd (cc);
  response_fits = λ kex a peer r long e. absurd (cc);
  block_low = λ cipher. lit≤ tt;
  block_high = λ cipher. lit≤ tt;
  tag_high = λ cipher mac. lit≤ tt;
  iv_high = λ cipher mac. lit≤ tt;
  enc_high = λ cipher mac. lit≤ tt;
  mac_high = λ cipher mac. lit≤ tt;
  padding_length = λ seed seq len. length_zeros len;
  digest_low = λ kex input. lit≤ tt;
  digest_high = λ kex input. lit≤ tt;
  digest_even = λ kex input other. refl;
  blob_high = λ algorithm private_key name. lit≤ tt;
  sign_high = λ algorithm private_key input name. lit≤ tt;
  seal_bytes = λ keys seq clear each. each;
  padding_bytes = λ seed seq len. bytes_zeros len;
  share_bytes = λ kex a each. bytes_none;
  shared_bytes = λ kex a peer body each more e. absurd (cc);
  response_bytes = λ kex a peer r each more e. absurd (cc);
}
