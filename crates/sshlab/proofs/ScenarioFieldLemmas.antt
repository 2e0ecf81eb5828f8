-- Parts of a text, and numbers.

use Rattle.std.proofs.Common.{◌≡◌, ◌∙◌, ℕ, ◌+◌, ◌<◌, ◌≤◌, Bool, true, false, List, [], ◌∷◌, ◌++◌, length, take, drop, get_or, suc, add-one, refl, sym, ap, arith}
use Rattle.std.specs.Borrow.{Bor}
use Rattle.std.specs.Prelude.{◌==◌, map, nat_lt}
use Rattle.std.specs.List.{after_first, before_first, position_or_len}
use Rattle.std.proofs.lemmas.List.{append_assoc, map-append}
use Rattle.sshlab.specs.ScenarioFields.{begins_with, number_of, parts, with_digit, with_digits}
use Rattle.std.proofs.lemmas.Bool.Decides.{nat_tests}
use Rattle.std.proofs.Math.ListN.{drop_of_length-le}
use Rattle.std.proofs.Math.Seq.{drop-cons, take-suc}
use Rattle.std.specs.declared.alloc.Global.{Global}
use Rattle.std.specs.Prelude.{Option, Some, None, String, string_bytes}

module _ (c b : ℕ) (s : List ℕ) where
  parts_at : b == c ≡ true → parts c (b ∷ s) ≡ [] ∷ parts c s
  unfolding parts
  parts_at e = rw e refl

  parts_before : b == c ≡ false → parts c (b ∷ s) ≡ begins_with b (parts c s)
  unfolding parts
  parts_before e = rw e refl

  uncut_by : (t : Bool) → b == c ≡ t → position_or_len (λ x. x == c) (b ∷ s) ≡ length (b ∷ s)
      → (position_or_len (λ x. x == c) s ≡ length s → parts c s ≡ s ∷ []) → parts c (b ∷ s) ≡ (b ∷ s) ∷ []
  uncut_by true e h more = let none : 0 ≡ length (b ∷ s) = rw e at h in absurd (omega arith)
  uncut_by false e h more =
      let all : 1 + position_or_len (λ x. x == c) s ≡ length (b ∷ s) = rw e at h in
      parts_before e ∙ ap (begins_with b) (more (omega arith))

  cut_by : (t : Bool) → b == c ≡ t → position_or_len (λ x. x == c) (b ∷ s) < length (b ∷ s)
      → (position_or_len (λ x. x == c) s < length s → parts c s ≡ before_first (λ x. x == c) s ∷ parts c (after_first (λ x. x == c) s))
      → parts c (b ∷ s) ≡ before_first (λ x. x == c) (b ∷ s) ∷ parts c (after_first (λ x. x == c) (b ∷ s))
  cut_by true e h more = parts_at e ∙ rw e refl
  cut_by false e h more =
      let within : 1 + position_or_len (λ x. x == c) s < length (b ∷ s) = rw e at h in
      let n : ℕ = position_or_len (λ x. x == c) s in
      let one : 1 + n ≡ suc n = omega arith in
      let two : 1 + n + 1 ≡ suc (n + 1) = omega arith in
      let front : before_first (λ x. x == c) (b ∷ s) ≡ b ∷ before_first (λ x. x == c) s = rw e (ap (λ (k : ℕ). take k (b ∷ s)) one) in
      let back : after_first (λ x. x == c) (b ∷ s) ≡ after_first (λ x. x == c) s = rw e (ap (λ (k : ℕ). drop k (b ∷ s)) two) in
      parts_before e ∙ (ap (begins_with b) (more (omega arith))
      ∙ (ap (λ (xs : List ℕ). (b ∷ before_first (λ x. x == c) s) ∷ parts c xs) (sym back)
      ∙ ap (λ (xs : List ℕ). xs ∷ parts c (after_first (λ x. x == c) (b ∷ s))) (sym front)))

-- an empty text is one part
pub parts_none : (c : ℕ) → parts c [] ≡ [] ∷ []
unfolding parts
parts_none c = refl

-- a text without the byte is one part
pub parts_uncut : (c : ℕ) (s : List ℕ) → position_or_len (λ x. x == c) s ≡ length s → parts c s ≡ s ∷ []
parts_uncut c [] h = parts_none c
parts_uncut c (b ∷ s) h = uncut_by c b s (b == c) refl h (parts_uncut c s)

-- a text with the byte has the part before it, and those that follow it
pub parts_cut : (c : ℕ) (s : List ℕ) → position_or_len (λ x. x == c) s < length s
    → parts c s ≡ before_first (λ x. x == c) s ∷ parts c (after_first (λ x. x == c) s)
parts_cut c [] h = absurd (omega arith)
parts_cut c (b ∷ s) h = cut_by c b s (b == c) refl h (parts_cut c s)

-- the parts found so far and those of the rest are those of the whole text
pub found_more : (found : List (Bor (List ℕ))) (part : Bor (List ℕ)) (rest after whole : List (List ℕ))
    → map (λ p. p.now) found ++ rest ≡ whole → rest ≡ part.now ∷ after
    → map (λ p. p.now) (found ++ part ∷ []) ++ after ≡ whole
found_more found part rest after whole h e =
    ap (λ (xs : List (List ℕ)). xs ++ after) (map-append (λ p. p.now) found (part ∷ []))
    ∙ (append_assoc (map (λ p. p.now) found) (part.now ∷ []) after
    ∙ (ap (λ (xs : List (List ℕ)). map (λ p. p.now) found ++ xs) (sym e) ∙ h))

-- a digit taken
pub digits_more : (whole : Option ℕ) (n m d i : ℕ) (digits : List ℕ) → i < length digits → whole ≡ with_digits (Some n) (drop i digits)
    → with_digit n (get_or digits i d) ≡ Some m → whole ≡ with_digits (Some m) (drop (i + 1) digits)
unfolding with_digits
digits_more whole n m d i digits within h e =
    h ∙ (ap (with_digits (Some n)) (drop-cons digits i d within)
    ∙ (ap (λ (o : Option ℕ). with_digits o (drop (suc i) digits)) e
    ∙ ap (λ (k : ℕ). with_digits (Some m) (drop k digits)) (sym (add-one i))))

digits_none : (digits : List ℕ) → with_digits None digits ≡ None
unfolding with_digits
digits_none [] = refl
digits_none (digit ∷ digits) = refl

-- a digit refused
pub digits_stop : (whole : Option ℕ) (n d i : ℕ) (digits : List ℕ) → i < length digits → whole ≡ with_digits (Some n) (drop i digits)
    → with_digit n (get_or digits i d) ≡ None → whole ≡ None
unfolding with_digits
digits_stop whole n d i digits within h e =
    h ∙ (ap (with_digits (Some n)) (drop-cons digits i d within)
    ∙ (ap (λ (o : Option ℕ). with_digits o (drop (suc i) digits)) e ∙ digits_none (drop (suc i) digits)))

-- all digits taken
pub digits_end : (whole : Option ℕ) (n i : ℕ) (digits : List ℕ) → length digits ≤ i → whole ≡ with_digits (Some n) (drop i digits) → whole ≡ Some n
unfolding with_digits
digits_end whole n i digits past h = h ∙ ap (with_digits (Some n)) (drop_of_length-le digits past)

-- a text more
pub texts_more : (texts : List (String Global)) (text : String Global) (fields : List (Bor (List ℕ))) (i : ℕ) (d : Bor (List ℕ)) → i < length fields
    → map string_bytes texts ≡ map (λ field. field.now) (take i fields) → string_bytes text ≡ (get_or fields i d).now
    → map string_bytes (texts ++ text ∷ []) ≡ map (λ field. field.now) (take (i + 1) fields)
texts_more texts text fields i d within h e =
    map-append string_bytes texts (text ∷ [])
    ∙ (ap (λ (xs : List (List ℕ)). xs ++ string_bytes text ∷ []) h
    ∙ (ap (λ (x : List ℕ). map (λ field. field.now) (take i fields) ++ x ∷ []) e
    ∙ (sym (map-append (λ field. field.now) (take i fields) (get_or fields i d ∷ []))
    ∙ (ap (λ (xs : List (Bor (List ℕ))). map (λ field. field.now) xs) (sym (take-suc fields i d within))
    ∙ ap (λ (k : ℕ). map (λ field. field.now) (take k fields)) (sym (add-one i))))))

-- the parts found, and the last one
pub found_last : (new found : List (Bor (List ℕ))) (part : Bor (List ℕ)) (rest whole : List (List ℕ)) → new ≡ found ++ part ∷ [] → rest ≡ part.now ∷ []
    → map (λ p. p.now) found ++ rest ≡ whole → map (λ p. p.now) new ≡ whole
found_last new found part rest whole is one h =
    ap (λ (xs : List (Bor (List ℕ))). map (λ p. p.now) xs) is
    ∙ (map-append (λ p. p.now) found (part ∷ [])
    ∙ (ap (λ (xs : List (List ℕ)). map (λ p. p.now) found ++ xs) (sym one) ∙ h))

-- a text with the byte, where the two parts are named
pub parts_split : (c : ℕ) (s front back : List ℕ) → position_or_len (λ x. x == c) s < length s → front ≡ before_first (λ x. x == c) s
    → back ≡ after_first (λ x. x == c) s → parts c s ≡ front ∷ parts c back
parts_split c s front back h is after = parts_cut c s h ∙ rw (is, after) refl

pub number_empty : (field : List ℕ) → length field ≡ 0 → number_of field ≡ None
unfolding number_of
number_empty field h = rw h refl

pub number_long : (field : List ℕ) → 10 < length field → number_of field ≡ None
unfolding number_of
number_long field h =
    let some : (length field == 0) ≡ false = grind (arith, nat_tests) in
    let long : nat_lt 10 (length field) ≡ true = grind (arith, nat_tests) in
    rw (some, long) refl

pub number_is : (field : List ℕ) → 0 < length field → length field ≤ 10 → number_of field ≡ with_digits (Some 0) field
unfolding number_of
number_is field h k =
    let some : (length field == 0) ≡ false = grind (arith, nat_tests) in
    let short : nat_lt 10 (length field) ≡ false = grind (arith, nat_tests) in
    rw (some, short) refl

-- the same, where the longer list is named
pub found_next : (new found : List (Bor (List ℕ))) (part : Bor (List ℕ)) (rest after whole : List (List ℕ)) → new ≡ found ++ part ∷ []
    → map (λ p. p.now) found ++ rest ≡ whole → rest ≡ part.now ∷ after → map (λ p. p.now) new ++ after ≡ whole
found_next new found part rest after whole is h e =
    ap (λ (xs : List (Bor (List ℕ))). map (λ p. p.now) xs ++ after) is ∙ found_more found part rest after whole h e
