-- The readings of data types against their texts.

use Rattle.std.proofs.Common.{◌≡◌, ℕ, ◌+◌, ◌/◌, ◌%◌, ◌^◌, ◌<◌, ◌≤◌, Bool, true, false, not, List, [], ◌∷◌, ◌++◌, length, take, drop, Result, Ok, Err, refl, sym, ap, ◌∙◌, arith, cond, eqb, ltb}
use Rattle.byteorder.specs.Endian.{big_number}
use Rattle.std.proofs.lemmas.Bool.{ltb-false, le-ltb}
use Rattle.std.proofs.lemmas.List.{append_assoc, length-append, length-take-le, take_at, drop_at, take-append-drop, get_or-append-add}
use Rattle.sshwire.specs.declared.fault.WireFault.{WireFault}
use Rattle.sshwire.specs.declared.fault.WireFault.TheVariants.{Short, NotCanonical}
use Rattle.sshwire.proofs.NameLemmas.{TakesNames, names_complete, names_taken}
use Rattle.sshwire.proofs.ShortestBody.{canonical_shortest, shortest_canonical}
use Rattle.sshwire.specs.ByteLaws.{bytes_taken, uint32_read}
use Rattle.sshwire.specs.Types.{boolean, BooleanText, IsBytes, MpintText, NameListText, StringText, Uint32Text, names_body, string, uint32}
use Rattle.sshwire.specs.TypeReadings.{IsReading, ◌>>=◌, boolean_at, is_canonical, mpint_at, mpint_in, names_at, names_in, string_at, uint32_at}

-- more or fewer bytes are bytes
pub bytes_after : (text rest : List ℕ) → IsBytes (text ++ rest) → IsBytes rest
bytes_after text rest h = λ i. rw (← get_or-append-add text rest i 0) (h (length text + i))

-- two readings of one front are one
one_from : {V : Type 0} (Text : V → List ℕ → Type 0) (read : List ℕ → Result (V × List ℕ) WireFault)
    → ((value : V) (text rest : List ℕ) → Text value text → read (text ++ rest) ≡ Ok (value, rest))
    → (value other : V) (text more rest after : List ℕ) → Text value text → Text other more
    → text ++ rest ≡ more ++ after → (value ≡ other) × (rest ≡ after)
one_from {V = V} Text read complete value other text more rest after t u e =
    let same : ◌≡◌ {A = Result (V × List ℕ) WireFault} (Ok (value, rest)) (Ok (other, after))
    = sym (complete value text rest t) ∙ (ap read e ∙ complete other more after u) in
    let pairs : ◌≡◌ {A = V × List ℕ} (value, rest) (other, after) = cc in
    (ap (λ (p : V × List ℕ). p.0) pairs, ap (λ (p : V × List ℕ). p.1) pairs)

-- the steps of a reading
pub bind_ok : {A B : Type 0} (r : Result A WireFault) (f : A → Result B WireFault) (y : B) → (r >>= f) ≡ Ok y → (x : A) × (r ≡ Ok x) × (f x ≡ Ok y)
bind_ok (Ok x) f y e = (x, refl, e)
bind_ok (Err d) f y e = cc

pub guard_ok : {A : Type 0} (b : Bool) (d : WireFault) (x y : A) → cond b (Err d) (Ok x) ≡ Ok y → (b ≡ false) × (x ≡ y)
guard_ok true d x y e = cc
guard_ok false d x y e = (refl, cc)

canonical_ok : {A : Type 0} (b : Bool) (x y : A) → cond b (Ok x) (Err NotCanonical) ≡ Ok y → (b ≡ true) × (x ≡ y)
canonical_ok true x y e = (refl, cc)
canonical_ok false x y e = cc

-- boolean
boolean_sound : (bytes : List ℕ) (value : Bool) (rest : List ℕ) → IsBytes bytes → boolean_at bytes ≡ Ok (value, rest)
    → (text : List ℕ) × BooleanText value text × (bytes ≡ text ++ rest)
boolean_sound [] value rest h e = cc
boolean_sound (b ∷ bs) value rest h e =
    let same : ◌≡◌ {A = Bool × List ℕ} (not (eqb b 0), bs) (value, rest) = cc in
    (b ∷ [], sym (ap (λ (p : Bool × List ℕ). p.0) same), ap (λ (p : Bool × List ℕ). b ∷ p.1) same)

boolean_complete : (value : Bool) (text rest : List ℕ) → BooleanText value text → boolean_at (text ++ rest) ≡ Ok (value, rest)
boolean_complete value [] rest t = absurd t
boolean_complete value (b ∷ []) rest t = ap (λ (v : Bool). Ok (v, rest)) (sym t)
boolean_complete value (b ∷ c ∷ more) rest t = absurd t

pub boolean_written : (value : Bool) → BooleanText value (boolean value)
boolean_written true = refl
boolean_written false = refl

pub boolean_reading : IsReading BooleanText boolean_at
boolean_reading = record { sound = boolean_sound; complete = boolean_complete; one = one_from BooleanText boolean_at boolean_complete }

-- uint32
number_of_bytes : (a b c d : ℕ) (rest : List ℕ) → a < 256 → b < 256 → c < 256 → d < 256
    → uint32 (big_number 4 (a ∷ b ∷ c ∷ d ∷ rest)) ≡ a ∷ b ∷ c ∷ d ∷ []
number_of_bytes a b c d rest ha hb hc hd =
    let n : ℕ = big_number 4 (a ∷ b ∷ c ∷ d ∷ rest) in
    let e₀ : n / 16777216 % 256 ≡ a = omega arith in
    let e₁ : n / 65536 % 256 ≡ b = omega arith in
    let e₂ : n / 256 % 256 ≡ c = omega arith in
    let e₃ : n % 256 ≡ d = omega arith in
    cc

number_below : (a b c d : ℕ) (rest : List ℕ) → a < 256 → b < 256 → c < 256 → d < 256 → big_number 4 (a ∷ b ∷ c ∷ d ∷ rest) < 2 ^ 32
number_below a b c d rest ha hb hc hd = omega arith

pub record TakesNumber (bytes : List ℕ) (n : ℕ) (rest : List ℕ) : Type 0 where
  pub fits : n < 2 ^ 32
  pub bytes_are : bytes ≡ uint32 n ++ rest

pub number_taken : (bytes : List ℕ) (n : ℕ) (rest : List ℕ) → IsBytes bytes → uint32_at bytes ≡ Ok (n, rest) → TakesNumber bytes n rest
unfolding uint32_at
number_taken [] n rest h e = cc
number_taken (a ∷ []) n rest h e = cc
number_taken (a ∷ b ∷ []) n rest h e = cc
number_taken (a ∷ b ∷ c ∷ []) n rest h e = cc
number_taken (a ∷ b ∷ c ∷ d ∷ bs) n rest h e =
    let long : ltb (length (a ∷ b ∷ c ∷ d ∷ bs)) 4 ≡ false = le-ltb _ _ (omega arith) in
    let read : ◌≡◌ {A = Result (ℕ × List ℕ) WireFault} (Ok (big_number 4 (a ∷ b ∷ c ∷ d ∷ bs), bs)) (Ok (n, rest)) = rw long at e in
    let same : ◌≡◌ {A = ℕ × List ℕ} (big_number 4 (a ∷ b ∷ c ∷ d ∷ bs), bs) (n, rest) = cc in
    let number : big_number 4 (a ∷ b ∷ c ∷ d ∷ bs) ≡ n = ap (λ (p : ℕ × List ℕ). p.0) same in
    let after : bs ≡ rest = ap (λ (p : ℕ × List ℕ). p.1) same in
    record {
      fits = rw number at (number_below a b c d bs (h 0) (h 1) (h 2) (h 3));
      bytes_are = ap (λ (xs : List ℕ). xs ++ bs) (sym (number_of_bytes a b c d bs (h 0) (h 1) (h 2) (h 3)))
          ∙ (ap (λ (m : ℕ). uint32 m ++ bs) number ∙ ap (λ (xs : List ℕ). uint32 n ++ xs) after);
    }

pub uint32_reading : IsReading Uint32Text uint32_at
uint32_reading = record {
  sound = λ bytes n rest h e. let t = number_taken bytes n rest h e in (uint32 n, (t.fits, refl), t.bytes_are);
  complete = λ n text rest t. rw t.1 (uint32_read n rest t.0);
  one = one_from Uint32Text uint32_at (λ n text rest t. rw t.1 (uint32_read n rest t.0));
}

-- string
pub record TakesString (bytes s rest : List ℕ) : Type 0 where
  pub fits : length s < 2 ^ 32
  pub bytes_are : bytes ≡ string s ++ rest
  pub each : IsBytes s

pub string_taken : (bytes s rest : List ℕ) → IsBytes bytes → string_at bytes ≡ Ok (s, rest) → TakesString bytes s rest
unfolding string_at
string_taken bytes s rest h e =
    let b = bind_ok (uint32_at bytes) (λ (n : ℕ × List ℕ). cond (ltb (length n.1) n.0) (Err Short) (Ok (take n.0 n.1, drop n.0 n.1))) (s, rest) e in
    let n : ℕ = b.0.0 in
    let after : List ℕ = b.0.1 in
    let t = number_taken bytes n after h b.1 in
    let g = guard_ok (ltb (length after) n) Short (take n after, drop n after) (s, rest) b.2 in
    let within : n ≤ length after = ltb-false _ _ g.0 in
    let front : take n after ≡ s = ap (λ (p : List ℕ × List ℕ). p.0) g.1 in
    let back : drop n after ≡ rest = ap (λ (p : List ℕ × List ℕ). p.1) g.1 in
    let long : length s ≡ n = sym (ap (λ (xs : List ℕ). length xs) front) ∙ length-take-le n after within in
    let whole : after ≡ s ++ rest = sym (take-append-drop n after) ∙ (ap (λ (xs : List ℕ). xs ++ drop n after) front ∙ ap (λ (xs : List ℕ). s ++ xs) back) in
    let fits : n < 2 ^ 32 = t.fits in
    record {
      fits = omega arith;
      bytes_are = t.bytes_are ∙ (ap (λ (m : ℕ). uint32 m ++ after) (sym long)
          ∙ (ap (λ (xs : List ℕ). uint32 (length s) ++ xs) whole ∙ sym (append_assoc (uint32 (length s)) s rest)));
      each = (let all : IsBytes (uint32 n ++ after) = rw t.bytes_are at h in rw front at (bytes_taken n after (bytes_after (uint32 n) after all)));
    }

pub string_complete : (s rest : List ℕ) → length s < 2 ^ 32 → string_at (string s ++ rest) ≡ Ok (s, rest)
unfolding string_at
string_complete s rest h =
    let grouped : string s ++ rest ≡ uint32 (length s) ++ (s ++ rest) = append_assoc (uint32 (length s)) s rest in
    let number : uint32_at (string s ++ rest) ≡ Ok (length s, s ++ rest) = ap uint32_at grouped ∙ uint32_read (length s) (s ++ rest) h in
    let all : length (s ++ rest) ≡ length s + length rest = length-append s rest in
    let long : ltb (length (s ++ rest)) (length s) ≡ false = le-ltb _ _ (omega arith) in
    let front : take (length s) (s ++ rest) ≡ s = take_at s rest (length s) refl in
    let back : drop (length s) (s ++ rest) ≡ rest = drop_at s rest (length s) refl in
    ap (λ (r : Result (ℕ × List ℕ) WireFault). r >>= (λ (n : ℕ × List ℕ). cond (ltb (length n.1) n.0) (Err Short) (Ok (take n.0 n.1, drop n.0 n.1)))) number
    ∙ rw (long, front, back) refl

pub string_reading : IsReading StringText string_at
string_reading = record {
  sound = λ bytes s rest h e. let t = string_taken bytes s rest h e in (string s, (t.fits, refl), t.bytes_are);
  complete = λ s text rest t. rw t.1 (string_complete s rest t.0);
  one = one_from StringText string_at (λ s text rest t. rw t.1 (string_complete s rest t.0));
}

-- mpint
record TakesMpint (body taken : List ℕ) : Type 0 where
  canonical : is_canonical body ≡ true
  same : body ≡ taken

mpint_taken : (body taken : List ℕ) → mpint_in body ≡ Ok taken → TakesMpint body taken
unfolding mpint_in
mpint_taken body taken e =
    let c = canonical_ok (is_canonical body) body taken e in record { canonical = c.0; same = c.1 }

mpint_in_complete : (body : List ℕ) → is_canonical body ≡ true → mpint_in body ≡ Ok body
unfolding mpint_in
mpint_in_complete body t = rw t refl

mpint_sound : (bytes body rest : List ℕ) → IsBytes bytes → mpint_at bytes ≡ Ok (body, rest)
    → (text : List ℕ) × MpintText body text × (bytes ≡ text ++ rest)
unfolding mpint_at
mpint_sound bytes body rest h e =
    let b = bind_ok (string_at bytes) (λ (s : List ℕ × List ℕ). mpint_in s.0 >>= (λ (m : List ℕ). Ok (m, s.1))) (body, rest) e in
    let n = bind_ok (mpint_in b.0.0) (λ (m : List ℕ). Ok (m, b.0.1)) (body, rest) b.2 in
    let same : ◌≡◌ {A = List ℕ × List ℕ} (n.0, b.0.1) (body, rest) = cc in
    let c = mpint_taken b.0.0 n.0 n.1 in
    let front : b.0.0 ≡ body = c.same ∙ ap (λ (p : List ℕ × List ℕ). p.0) same in
    let back : b.0.1 ≡ rest = ap (λ (p : List ℕ × List ℕ). p.1) same in
    let t = string_taken bytes b.0.0 b.0.1 h b.1 in
    let each : IsBytes body = rw front at t.each in
    let canonical : is_canonical body ≡ true = rw front at c.canonical in
    let fits : length body < 2 ^ 32 = rw front at t.fits in (
      string body,
      (each, canonical_shortest body each canonical, (fits, refl)),
      t.bytes_are ∙ (ap (λ (xs : List ℕ). string b.0.0 ++ xs) back ∙ ap (λ (xs : List ℕ). string xs ++ rest) front),
    )

mpint_complete : (body text rest : List ℕ) → MpintText body text → mpint_at (text ++ rest) ≡ Ok (body, rest)
unfolding mpint_at
mpint_complete body text rest (each, shortest, (fits, is)) =
    let read : string_at (text ++ rest) ≡ Ok (body, rest) = ap (λ (xs : List ℕ). string_at (xs ++ rest)) is ∙ string_complete body rest fits in
    ap (λ (r : Result (List ℕ × List ℕ) WireFault). r >>= (λ (s : List ℕ × List ℕ). mpint_in s.0 >>= (λ (m : List ℕ). Ok (m, s.1)))) read
    ∙ ap (λ (r : Result (List ℕ) WireFault). r >>= (λ (m : List ℕ). Ok (m, rest))) (mpint_in_complete body (shortest_canonical body each shortest))

pub mpint_reading : IsReading MpintText mpint_at
mpint_reading = record { sound = mpint_sound; complete = mpint_complete; one = one_from MpintText mpint_at mpint_complete }

-- name-list
list_sound : (bytes : List ℕ) (names : List (List ℕ)) (rest : List ℕ) → IsBytes bytes → names_at bytes ≡ Ok (names, rest)
    → (text : List ℕ) × NameListText names text × (bytes ≡ text ++ rest)
unfolding names_at
list_sound bytes names rest h e =
    let b = bind_ok (string_at bytes) (λ (s : List ℕ × List ℕ). names_in s.0 >>= (λ (ns : List (List ℕ)). Ok (ns, s.1))) (names, rest) e in
    let n = bind_ok (names_in b.0.0) (λ (ns : List (List ℕ)). Ok (ns, b.0.1)) (names, rest) b.2 in
    let same : ◌≡◌ {A = List (List ℕ) × List ℕ} (n.0, b.0.1) (names, rest) = cc in
    let front : n.0 ≡ names = ap (λ (p : List (List ℕ) × List ℕ). p.0) same in
    let back : b.0.1 ≡ rest = ap (λ (p : List (List ℕ) × List ℕ). p.1) same in
    let t = string_taken bytes b.0.0 b.0.1 h b.1 in
    let taken : TakesNames b.0.0 names = rw front at (names_taken b.0.0 n.0 n.1) in
    let fits : length (names_body names) < 2 ^ 32 = rw taken.body_is at t.fits in (
      string (names_body names),
      (taken.each, (fits, refl)),
      t.bytes_are ∙ (ap (λ (xs : List ℕ). string b.0.0 ++ xs) back ∙ ap (λ (xs : List ℕ). string xs ++ rest) taken.body_is),
    )

list_complete : (names : List (List ℕ)) (text rest : List ℕ) → NameListText names text → names_at (text ++ rest) ≡ Ok (names, rest)
unfolding names_at
list_complete names text rest (each, (fits, is)) =
    let read : string_at (text ++ rest) ≡ Ok (names_body names, rest)
    = ap (λ (xs : List ℕ). string_at (xs ++ rest)) is ∙ string_complete (names_body names) rest fits in
    ap (λ (r : Result (List ℕ × List ℕ) WireFault). r >>= (λ (s : List ℕ × List ℕ). names_in s.0 >>= (λ (ns : List (List ℕ)). Ok (ns, s.1)))) read
    ∙ ap (λ (r : Result (List (List ℕ)) WireFault). r >>= (λ (ns : List (List ℕ)). Ok (ns, rest))) (names_complete names each)

pub list_reading : IsReading NameListText names_at
list_reading = record { sound = list_sound; complete = list_complete; one = one_from NameListText names_at list_complete }

-- What a reading says at a call of a reader.
pub stands_not : {V : Type 0} (Text : V → List ℕ → Type 0) (read : List ℕ → Result (V × List ℕ) WireFault) → IsReading Text read
    → (bytes : List ℕ) (code : WireFault) → read bytes ≡ Err code → (value : V) (text rest : List ℕ) → Text value text → bytes ≡ text ++ rest → ⊥
stands_not {V = V} Text read r bytes code e value text rest t is =
    let bad : ◌≡◌ {A = Result (V × List ℕ) WireFault} (Err code) (Ok (value, rest)) = sym e ∙ (ap read is ∙ r.complete value text rest t) in cc

pub rest_bytes : {V : Type 0} (Text : V → List ℕ → Type 0) (read : List ℕ → Result (V × List ℕ) WireFault) → IsReading Text read
    → (bytes : List ℕ) (value : V) (rest : List ℕ) → IsBytes bytes → read bytes ≡ Ok (value, rest) → IsBytes rest
rest_bytes Text read r bytes value rest h e =
    let s = r.sound bytes value rest h e in
    let all : IsBytes (s.0 ++ rest) = rw s.2 at h in
    bytes_after s.0 rest all
