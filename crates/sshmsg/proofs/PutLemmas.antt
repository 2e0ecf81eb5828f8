-- What is appended part by part.

use Rattle.std.proofs.Common.{◌≡◌, ℕ, zero, suc, get_or, ◌+◌, ◌<◌, ◌≤◌, List, [], ◌∷◌, ◌++◌, length, map, take, refl, OnErr, OnOk, Result, Ok, Err, sym, ap, ◌∙◌, arith, lit≤}
use Rattle.std.specs.List.{AllByRecursion}
use Rattle.std.proofs.lemmas.List.{append_assoc, flat_map_more, length-append, length-map, map_more, take-take, take_at}
use Rattle.sshwire.specs.Types.{string, uint32}
use Rattle.sshmsg.specs.declared.message.Extension.{Extension}
use Rattle.sshmsg.specs.MessageData.{ExtInfo}
use Rattle.sshmsg.specs.View.{pair_of, pairs_of}
use Rattle.sshmsg.specs.Written.{IsPair, IsWellFormed, pair_written, pairs_written, written_message}
use Rattle.sshwire.specs.declared.limits.TheConstants.{PAYLOAD_LIMIT}

-- what keeps more than a front keeps the front
pub keeps_on : {A E : Type 0} (r : Result A E) (old more mid new : List ℕ) → mid ≡ old ++ more
    → OnErr r (take (length mid) new ≡ mid) → OnErr r (take (length old) new ≡ old)
keeps_on (Ok x) old more mid new is keeps = tt
keeps_on (Err e) old more mid new is keeps =
    let long : length (old ++ more) ≡ length old + length more = length-append old more in
    let within : length old ≤ length (old ++ more) = omega arith in
    let kept : take (length (old ++ more)) new ≡ old ++ more = rw is at keeps in
    sym (take-take (length old) (length (old ++ more)) new within)
    ∙ (ap (λ (xs : List ℕ). take (length old) xs) kept ∙ take_at old more (length old) refl)

-- the parts of a KEXINIT, one after another: two lists, and four, and four
pub thirteen_parts : (out a b c d e f g h i j k l m n : List ℕ)
    → ((((out ++ a) ++ b) ++ ((c ++ d) ++ (((e ++ f) ++ (g ++ h)) ++ ((i ++ j) ++ (k ++ l))))) ++ m) ++ n
    ≡ out ++ (a ++ (b ++ (c ++ (d ++ (e ++ (f ++ (g ++ (h ++ (i ++ (j ++ (k ++ (l ++ (m ++ n)))))))))))))
thirteen_parts out a b c d e f g h i j k l m n = simp append_assoc

pub few_pairs : (pairs : List (List ℕ × List ℕ)) → length pairs ≤ length (pairs_written pairs)
few_pairs [] = lit≤ tt
few_pairs (p ∷ ps) =
    let more : length ps ≤ length (pairs_written ps) = few_pairs ps in
    let all : length (pairs_written (p ∷ ps)) ≡ length (pair_written p) + length (pairs_written ps) = length-append (pair_written p) (pairs_written ps) in
    let one : length (pair_written p) ≡ length (string p.0) + length (string p.1) = length-append (string p.0) (string p.1) in
    let name : length (string p.0) ≡ 4 + length p.0 = length-append (uint32 (length p.0)) p.0 in
    omega arith

pub short_pairs : (pairs : List (List ℕ × List ℕ)) → length (pairs_written pairs) ≤ PAYLOAD_LIMIT → AllByRecursion IsPair pairs
short_pairs [] h = tt
short_pairs (p ∷ ps) h =
    let all : length (pairs_written (p ∷ ps)) ≡ length (pair_written p) + length (pairs_written ps) = length-append (pair_written p) (pairs_written ps) in
    let one : length (pair_written p) ≡ length (string p.0) + length (string p.1) = length-append (string p.0) (string p.1) in
    let name : length (string p.0) ≡ 4 + length p.0 = length-append (uint32 (length p.0)) p.0 in
    let value : length (string p.1) ≡ 4 + length p.1 = length-append (uint32 (length p.1)) p.1 in
    ((omega arith, omega arith), short_pairs ps (omega arith))

-- one more pair
pub pairs_more : (xs : List Extension) (i : ℕ) (x : Extension) → i < length xs → x ≡ get_or xs i x
    → pairs_written (pairs_of (take (i + 1) xs)) ≡ pairs_written (pairs_of (take i xs)) ++ pair_written (pair_of x)
pairs_more xs i x h e =
    ap pairs_written (map_more pair_of xs i x h)
    ∙ (ap (λ (y : Extension). pairs_written (map pair_of (take i xs) ++ pair_of y ∷ [])) (sym e)
    ∙ sym (flat_map_more pair_written [] (pairs_of (take i xs)) (pair_of x)))

-- a pair is no longer than all of them
pair_within : (xs : List Extension) (i : ℕ) (d : Extension) → i < length xs
    → length (pair_written (pair_of (get_or xs i d))) ≤ length (pairs_written (pairs_of xs))
pair_within [] i d h = absurd (omega (arith, h))
pair_within (y ∷ ys) zero d h =
    let all : length (pairs_written (pairs_of (y ∷ ys))) ≡ length (pair_written (pair_of y)) + length (pairs_written (pairs_of ys)) = length-append (pair_written (pair_of y)) (pairs_written (pairs_of ys)) in
    omega arith
pair_within (y ∷ ys) (suc i) d h =
    let all : length (pairs_written (pairs_of (y ∷ ys))) ≡ length (pair_written (pair_of y)) + length (pairs_written (pairs_of ys)) = length-append (pair_written (pair_of y)) (pairs_written (pairs_of ys)) in
    let on : length (pair_written (pair_of (get_or ys i d))) ≤ length (pairs_written (pairs_of ys)) = pair_within ys i d (omega (arith, h)) in
    omega arith

pub pair_short : (xs : List Extension) (i : ℕ) (d : Extension) → i < length xs → length (pairs_written (pairs_of xs)) ≤ PAYLOAD_LIMIT
    → length (pair_written (pair_of (get_or xs i d))) ≤ PAYLOAD_LIMIT
pair_short xs i d h short =
    let within : length (pair_written (pair_of (get_or xs i d))) ≤ length (pairs_written (pairs_of xs)) = pair_within xs i d h in
    omega (arith, within, short)

pub few_extensions : (xs : List Extension) → length xs ≤ length (pairs_written (pairs_of xs))
few_extensions xs =
    let long : length (pairs_of xs) ≡ length xs = length-map xs pair_of in
    let few : length (pairs_of xs) ≤ length (pairs_written (pairs_of xs)) = few_pairs (pairs_of xs) in
    omega arith

pub well_formed_pairs : {A E : Type 0} (r : Result A E) (xs : List Extension) → length (written_message (ExtInfo (pairs_of xs))) ≤ PAYLOAD_LIMIT
    → OnOk r (IsWellFormed (ExtInfo (pairs_of xs)))
unfolding written_message
well_formed_pairs (Ok x) xs h =
    let few : length (pairs_of xs) ≤ length (pairs_written (pairs_of xs)) = few_pairs (pairs_of xs) in
    (omega (arith, h, few), short_pairs (pairs_of xs) (omega (arith, h)))
well_formed_pairs (Err e) xs h = tt
