-- How long an EXT_INFO is, pair by pair.

use Rattle.std.proofs.Common.{◌≡◌, ℕ, zero, suc, get_or, ◌+◌, ◌<◌, ◌≤◌, List, [], ◌∷◌, ◌++◌, length, take, nat_le, refl, sym, ap, ◌∙◌, arith, lit≤}
use Rattle.std.proofs.lemmas.Bool.{lt-leb}
use Rattle.std.proofs.lemmas.List.{length-append, take_all}
use Rattle.sshwire.specs.Types.{string}
use Rattle.sshmsg.specs.declared.message.Extension.{Extension}
use Rattle.sshmsg.specs.MessageData.{ExtInfo}
use Rattle.sshmsg.specs.Lengths.{IsCapped}
use Rattle.sshmsg.specs.View.{pair_of, pairs_of}
use Rattle.sshmsg.specs.Written.{pair_written, pairs_written, written_message}
use Rattle.sshmsg.proofs.PutLemmas.{pairs_more}
use Rattle.sshwire.specs.declared.limits.TheConstants.{PAYLOAD_LIMIT}

-- some pairs are no longer than all
front_within : (xs : List Extension) (i : ℕ) → length (pairs_written (pairs_of (take i xs))) ≤ length (pairs_written (pairs_of xs))
front_within xs zero = omega arith
front_within [] (suc i) = lit≤ tt
front_within (x ∷ xs) (suc i) =
    let more : length (pairs_written (pairs_of (take i xs))) ≤ length (pairs_written (pairs_of xs)) = front_within xs i in
    let front : length (pairs_written (pairs_of (take (suc i) (x ∷ xs)))) ≡ length (pair_written (pair_of x)) + length (pairs_written (pairs_of (take i xs)))
    = length-append (pair_written (pair_of x)) (pairs_written (pairs_of (take i xs))) in
    let all : length (pairs_written (pairs_of (x ∷ xs))) ≡ length (pair_written (pair_of x)) + length (pairs_written (pairs_of xs))
    = length-append (pair_written (pair_of x)) (pairs_written (pairs_of xs)) in
    omega arith

-- what a length that is told says
pub exactly : (number len : ℕ) → number ≡ len → IsCapped number len
unfolding IsCapped
exactly number len is = rw is (refl, λ within. refl)

pub capped_limit : (number len : ℕ) → IsCapped number len → nat_le number PAYLOAD_LIMIT ≡ nat_le len PAYLOAD_LIMIT
unfolding IsCapped
capped_limit number len (limit, exact) = limit

pub capped_exact : (number len : ℕ) → IsCapped number len → len ≤ PAYLOAD_LIMIT → number ≡ len
unfolding IsCapped
capped_exact number len (limit, exact) within = exact within

pub request_length : (user service method : List ℕ) (two more : ℕ) → two ≡ 1 + length (user ++ service) → more ≡ length method → two + more ≡ length (50 ∷ (user ++ (service ++ method)))
request_length user service method two more is of =
    let both : length (user ++ service) ≡ length user + length service = length-append user service in
    let all : length (user ++ (service ++ method)) ≡ length user + length (service ++ method) = length-append user (service ++ method) in
    let after : length (service ++ method) ≡ length service + length method = length-append service method in
    omega arith

pub failure_length : (names flag : List ℕ) (n : ℕ) → n ≡ length names → length flag ≡ 1 → 2 + n ≡ length (51 ∷ (names ++ flag))
failure_length names flag n is one =
    let all : length (names ++ flag) ≡ length names + length flag = length-append names flag in
    omega arith

-- a front that is too long is told as the whole is
pub too_long : (xs : List Extension) (i len : ℕ) → len ≡ 5 + length (pairs_written (pairs_of (take i xs))) → PAYLOAD_LIMIT < len
    → IsCapped len (length (written_message (ExtInfo (pairs_of xs))))
unfolding written_message IsCapped
too_long xs i len is over =
    let within : length (pairs_written (pairs_of (take i xs))) ≤ length (pairs_written (pairs_of xs)) = front_within xs i in
    let whole : PAYLOAD_LIMIT < length (written_message (ExtInfo (pairs_of xs))) = omega arith in
    (lt-leb len PAYLOAD_LIMIT over ∙ sym (lt-leb (length (written_message (ExtInfo (pairs_of xs)))) PAYLOAD_LIMIT whole), λ low. absurd (omega (arith, low)))

-- one more pair
pub length_more : (xs : List Extension) (i len : ℕ) (x : Extension) → i < length xs → x ≡ get_or xs i x
    → len ≡ 5 + length (pairs_written (pairs_of (take i xs)))
    → len + length (string x.name.now ++ string x.value.now) ≡ 5 + length (pairs_written (pairs_of (take (i + 1) xs)))
length_more xs i len x h e is =
    let more : length (pairs_written (pairs_of (take (i + 1) xs))) ≡ length (pairs_written (pairs_of (take i xs)) ++ pair_written (pair_of x))
    = ap (λ (bs : List ℕ). length bs) (pairs_more xs i x h e) in
    let both : length (pairs_written (pairs_of (take i xs)) ++ pair_written (pair_of x)) ≡ length (pairs_written (pairs_of (take i xs))) + length (pair_written (pair_of x))
    = length-append (pairs_written (pairs_of (take i xs))) (pair_written (pair_of x)) in
    omega arith

-- all pairs
pub length_all : (xs : List Extension) (i len : ℕ) → length xs ≤ i → len ≡ 5 + length (pairs_written (pairs_of (take i xs)))
    → IsCapped len (length (written_message (ExtInfo (pairs_of xs))))
unfolding written_message
length_all xs i len h is =
    let same : length (pairs_written (pairs_of (take i xs))) ≡ length (pairs_written (pairs_of xs))
    = ap (λ (ys : List Extension). length (pairs_written (pairs_of ys))) (take_all i xs h) in
    exactly len (length (written_message (ExtInfo (pairs_of xs)))) (omega arith)
