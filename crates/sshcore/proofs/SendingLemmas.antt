-- The key switch and the number of the next packet that is sent, with one payload more sent.

use Rattle.std.proofs.Common.{◌≡◌, ℕ, ◌+◌, ◌==◌, Bool, true, false, cond, List, [], ◌∷◌, ◌++◌, length, length-append, refl, ap, ◌∙◌}
use Rattle.std.specs.Prelude.{◌%◌, ◌^◌}
use Rattle.sshmsg.specs.Numbers.{message_number}
use Rattle.sshpacket.specs.Places.{after_first, stands}
use Rattle.sshpacket.specs.Stream.{Units}
use Rattle.sshpacket.proofs.Places.{after-push, stands-push}
use Rattle.sshcore.specs.Counting.{is_newkeys, number_by, number_out, switched_out}
use Rattle.sshcore.proofs.CountingLemmas.{counted, mod_more, switched}

pub switched_push : (sent : Units) (a : List ℕ) → switched_out (sent ++ a ∷ []) ≡ cond (switched_out sent) true (message_number a == 21)
unfolding switched_out
switched_push sent a = stands-push is_newkeys [] sent a

length_one : (b : Bool) (xs : Units) (a : List ℕ) → length (cond b (xs ++ a ∷ []) []) ≡ cond b (length xs + 1) 0
length_one true xs a = length-append xs (a ∷ [])
length_one false xs a = refl

since_out : (sent : Units) (a : List ℕ) (b : Bool) → switched_out sent ≡ b
    → length (after_first is_newkeys [] (sent ++ a ∷ [])) ≡ cond b (length (after_first is_newkeys [] sent) + 1) 0
unfolding switched_out
since_out sent a b e =
    ap length (after-push is_newkeys [] sent a) ∙ length_one (stands is_newkeys [] sent) (after_first is_newkeys [] sent) a
    ∙ ap (λ (x : Bool). cond x (length (after_first is_newkeys [] sent) + 1) 0) e

number_by_cases : (strict : Bool) (sent : Units) (a : List ℕ) (b c : Bool) → switched_out sent ≡ b → (message_number a == 21) ≡ c
    → number_out strict (sent ++ a ∷ []) ≡ cond b ((number_out strict sent + 1) % 2 ^ 32) (cond c (cond strict 0 ((number_out strict sent + 1) % 2 ^ 32)) ((number_out strict sent + 1) % 2 ^ 32))
unfolding number_out
number_by_cases strict sent a b c e f =
    let now : switched_out (sent ++ a ∷ []) ≡ cond b true c = switched_push sent a ∙ rw (e, f) refl in
    let since = since_out sent a b e in
    rw (now, since, e) (ap (λ n. number_by (cond b true c) strict (cond b (length (after_first is_newkeys [] sent) + 1) 0) n) (length-append sent (a ∷ [])) ∙ at b c)
  where
    at : (b c : Bool) → number_by (cond b true c) strict (cond b (length (after_first is_newkeys [] sent) + 1) 0) (length sent + 1)
        ≡ cond b ((number_by b strict (length (after_first is_newkeys [] sent)) (length sent) + 1) % 2 ^ 32)
        (cond c (cond strict 0 ((number_by b strict (length (after_first is_newkeys [] sent)) (length sent) + 1) % 2 ^ 32)) ((number_by b strict (length (after_first is_newkeys [] sent)) (length sent) + 1) % 2 ^ 32))
    at true c = counted strict (length (after_first is_newkeys [] sent)) (length sent)
    at false true = switched strict (length sent)
    at false false = mod_more (length sent)

pub number_next : (strict : Bool) (sent : Units) (a : List ℕ)
    → number_out strict (sent ++ a ∷ []) ≡ cond (switched_out sent) ((number_out strict sent + 1) % 2 ^ 32)
    (cond (message_number a == 21) (cond strict 0 ((number_out strict sent + 1) % 2 ^ 32)) ((number_out strict sent + 1) % 2 ^ 32))
number_next strict sent a = number_by_cases strict sent a (switched_out sent) (message_number a == 21) refl refl

pub none_sent : (strict : Bool) → (switched_out [] ≡ false) × (number_out strict [] ≡ 0)
unfolding switched_out number_out
none_sent strict = (refl, refl)
