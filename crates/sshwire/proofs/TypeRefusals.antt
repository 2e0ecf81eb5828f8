-- What the readings of data types refuse, against the claims.

use Rattle.std.proofs.Common.{◌≡◌, ◌<◌, ◌⊎◌, ℕ, inl, inr, Bool, true, false, List, [], ◌∷◌, length, Result, Ok, Err, refl, ap, ◌∙◌, arith, cond, ltb}
use Rattle.std.proofs.lemmas.Bool.{both_ways, cases_Bool, ltb-true, lt-ltb}
use Rattle.sshwire.specs.declared.fault.WireFault.{WireFault}
use Rattle.sshwire.specs.declared.fault.WireFault.TheVariants.{Short, Name, NotCanonical}
use Rattle.sshwire.proofs.NameLemmas.{names_fault, names_taken}
use Rattle.sshwire.proofs.ShortestBody.{canonical_shortest, shortest_canonical}
use Rattle.sshwire.proofs.TypeLemmas.{number_taken, string_complete, string_reading, string_taken, stands_not}
use Rattle.sshwire.specs.ByteLaws.{uint32_read}
use Rattle.sshwire.specs.Types.{IsBytes, StringText, string}
use Rattle.sshwire.specs.TypeReadings.{◌>>=◌, boolean_at, is_canonical, mpint_at, mpint_in, names_at, names_in, string_at, uint32_at}
use Rattle.sshwire.specs.TypeRefusals.{AreNoNames, BeginsString, BooleanRefused, IsCutAfterLength, IsNotShortest, MpintRefused, NameListRefused, NoString, OnlyShort, RefusesExactly, StringRefused, Uint32Refused}

-- the steps of a reading that is refused
bind_err : {A B : Type 0} (r : Result A WireFault) (f : A → Result B WireFault) (code : WireFault) → (r >>= f) ≡ Err code
    → (r ≡ Err code) ⊎ ((x : A) × (r ≡ Ok x) × (f x ≡ Err code))
bind_err (Ok x) f code e = inr (x, refl, e)
bind_err (Err d) f code e = let same : d ≡ code = cc in inl (ap (λ (c : WireFault). Err c) same)

guard_err : {A : Type 0} (b : Bool) (d : WireFault) (x : A) (code : WireFault) → cond b (Err d) (Ok x) ≡ Err code → (b ≡ true) × (code ≡ d)
guard_err true d x code e = (refl, cc)
guard_err false d x code e = cc

canonical_err : {A : Type 0} (b : Bool) (x : A) (code : WireFault) → cond b (Ok x) (Err NotCanonical) ≡ Err code → (b ≡ false) × (code ≡ NotCanonical)
canonical_err true x code e = cc
canonical_err false x code e = (refl, cc)

-- where Short is the one refusal
only_forth : (P : Type 0) (code : WireFault) → code ≡ Short → P → OnlyShort P code
only_forth P code e p = rw e p

only_back : {A : Type 0} (P : Type 0) (r : Result A WireFault) → (P → r ≡ Err Short) → (code : WireFault) → OnlyShort P code → r ≡ Err code
only_back P r f Short p = f p
only_back P r f _ p = absurd p

boolean_forth : (bytes : List ℕ) (code : WireFault) → boolean_at bytes ≡ Err code → BooleanRefused bytes code
boolean_forth [] code e = let same : code ≡ Short = cc in rw same refl
boolean_forth (b ∷ bs) code e = cc

boolean_short : (bytes : List ℕ) → length bytes ≡ 0 → boolean_at bytes ≡ Err Short
boolean_short [] e = refl
boolean_short (b ∷ bs) e = absurd (omega arith)

pub boolean_refuses : RefusesExactly BooleanRefused boolean_at
boolean_refuses bytes code h = (boolean_forth bytes code, only_back (length bytes ≡ 0) (boolean_at bytes) (boolean_short bytes) code)

-- uint32
uint32_err : (bytes : List ℕ) (code : WireFault) → uint32_at bytes ≡ Err code → (length bytes < 4) × (code ≡ Short)
unfolding uint32_at
uint32_err bytes code e = let g = guard_err (ltb (length bytes) 4) Short _ code e in (ltb-true _ _ g.0, g.1)

uint32_short : (bytes : List ℕ) → length bytes < 4 → uint32_at bytes ≡ Err Short
unfolding uint32_at
uint32_short bytes few = rw (lt-ltb _ _ few) refl

pub uint32_refuses : RefusesExactly Uint32Refused uint32_at
uint32_refuses bytes code h = (
  λ e. let s = uint32_err bytes code e in only_forth (length bytes < 4) code s.1 s.0,
  only_back (length bytes < 4) (uint32_at bytes) (uint32_short bytes) code,
)

-- string
abbrev IsCut : List ℕ → Type 0
IsCut bytes = (length bytes < 4) ⊎ IsCutAfterLength bytes

string_err : (bytes : List ℕ) (code : WireFault) → IsBytes bytes → string_at bytes ≡ Err code → IsCut bytes × (code ≡ Short)
unfolding string_at
string_err bytes code h e = elim (bind_err (uint32_at bytes) _ code e) [
  | inl first ↦ let s = uint32_err bytes code first in (inl s.0, s.1)
  | inr then ↦
      let t = number_taken bytes then.0.0 then.0.1 h then.1 in
      let g = guard_err (ltb (length then.0.1) then.0.0) Short _ code then.2 in
      (inr (record { len = then.0.0; rest = then.0.1; fits = t.fits; bytes_are = t.bytes_are; fewer = ltb-true _ _ g.0 }), g.1)
]

string_short : (bytes : List ℕ) → IsCut bytes → string_at bytes ≡ Err Short
unfolding string_at
string_short bytes (inl few) = rw (uint32_short bytes few) refl
string_short bytes (inr c) = rw (c.bytes_are, uint32_read c.len c.rest c.fits, lt-ltb _ _ c.fewer) refl

pub string_refuses : RefusesExactly StringRefused string_at
string_refuses bytes code h = (
  λ e. let s = string_err bytes code h e in only_forth (IsCut bytes) code s.1 s.0,
  only_back (IsCut bytes) (string_at bytes) (string_short bytes) code,
)

-- a string whose body is read
abbrev body_at : {A : Type 0} → (List ℕ → Result A WireFault) → List ℕ → Result (A × List ℕ) WireFault
body_at inside bytes = string_at bytes >>= (λ s. inside s.0 >>= (λ x. Ok (x, s.1)))

no_err : {A B : Type 0} (r : Result A WireFault) (f : A → B) (code : WireFault) → (r >>= (λ x. Ok (f x))) ≡ Err code → r ≡ Err code
no_err (Ok x) f code e = cc
no_err (Err d) f code e = let same : d ≡ code = cc in ap (λ (c : WireFault). Err c) same

body_err : {A : Type 0} (inside : List ℕ → Result A WireFault) (bytes : List ℕ) (code : WireFault) → IsBytes bytes → body_at inside bytes ≡ Err code
    → ((code ≡ Short) × NoString bytes) ⊎ BeginsString (λ s. IsBytes s × (inside s ≡ Err code)) bytes
body_err inside bytes code h e = elim (bind_err (string_at bytes) _ code e) [
  | inl first ↦ let s = string_err bytes code h first in inl (s.1, stands_not StringText string_at string_reading bytes code first)
  | inr then ↦
      let t = string_taken bytes then.0.0 then.0.1 h then.1 in
      inr (record { body = then.0.0; rest = then.0.1; fits = t.fits; bytes_are = t.bytes_are; holds = (t.each, no_err (inside then.0.0) (λ x. (x, then.0.1)) code then.2) })
]

no_string_err : (r : Result (List ℕ × List ℕ) WireFault) (bytes : List ℕ) → IsBytes bytes → string_at bytes ≡ r → NoString bytes → string_at bytes ≡ Err Short
no_string_err (Ok x) bytes h e none =
    let t = string_taken bytes x.0 x.1 h e in absurd (none x.0 (string x.0) x.1 (t.fits, refl) t.bytes_are)
no_string_err (Err code) bytes h e none = e ∙ ap (λ (c : WireFault). Err c) (string_err bytes code h e).1

body_short : {A : Type 0} (inside : List ℕ → Result A WireFault) (bytes : List ℕ) → IsBytes bytes → NoString bytes → body_at inside bytes ≡ Err Short
body_short inside bytes h none = rw (no_string_err (string_at bytes) bytes h refl none) refl

body_bad : {A : Type 0} (inside : List ℕ → Result A WireFault) (bytes : List ℕ) (code : WireFault) → IsBytes bytes
    → BeginsString (λ s. IsBytes s → inside s ≡ Err code) bytes → body_at inside bytes ≡ Err code
body_bad inside bytes code h b =
    let read : string_at bytes ≡ Ok (b.body, b.rest) = ap string_at b.bytes_are ∙ string_complete b.body b.rest b.fits in
    let t = string_taken bytes b.body b.rest h read in
    rw (read, b.holds t.each) refl

-- mpint
mpint_in_err : (body : List ℕ) (code : WireFault) → IsBytes body → mpint_in body ≡ Err code → IsNotShortest body × (code ≡ NotCanonical)
unfolding mpint_in
mpint_in_err body code h e =
    let c = canonical_err (is_canonical body) body code e in
    (λ s. both_ways (is_canonical body) c.0 (shortest_canonical body h s), c.1)

mpint_in_bad : (body : List ℕ) → IsNotShortest body → IsBytes body → mpint_in body ≡ Err NotCanonical
unfolding mpint_in
mpint_in_bad body bad h = elim (cases_Bool (is_canonical body)) [
  | inl t ↦ absurd (bad (canonical_shortest body h t))
  | inr f ↦ rw f refl
]

mpint_forth : (bytes : List ℕ) (code : WireFault) → IsBytes bytes → mpint_at bytes ≡ Err code → MpintRefused bytes code
unfolding mpint_at
mpint_forth bytes code h e = elim (body_err mpint_in bytes code h e) [
  | inl none ↦ rw none.0 none.1
  | inr b ↦
      let bad = mpint_in_err b.body code b.holds.0 b.holds.1 in
      rw bad.1 (record { body = b.body; rest = b.rest; fits = b.fits; bytes_are = b.bytes_are; holds = bad.0 })
]

mpint_back : (bytes : List ℕ) (code : WireFault) → IsBytes bytes → MpintRefused bytes code → mpint_at bytes ≡ Err code
unfolding mpint_at
mpint_back bytes Short h none = body_short mpint_in bytes h none
mpint_back bytes NotCanonical h b =
    body_bad mpint_in bytes NotCanonical h (record { body = b.body; rest = b.rest; fits = b.fits; bytes_are = b.bytes_are; holds = mpint_in_bad b.body b.holds })
mpint_back bytes _ h b = absurd b

pub mpint_refuses : RefusesExactly MpintRefused mpint_at
mpint_refuses bytes code h = (mpint_forth bytes code h, mpint_back bytes code h)

-- name-list
names_in_bad : (r : Result (List (List ℕ)) WireFault) (body : List ℕ) → names_in body ≡ r → AreNoNames body → names_in body ≡ Err Name
names_in_bad (Ok names) body e bad = let t = names_taken body names e in absurd (bad names t.each t.body_is)
names_in_bad (Err code) body e bad = e ∙ ap (λ (c : WireFault). Err c) (names_fault body code e).0

list_forth : (bytes : List ℕ) (code : WireFault) → IsBytes bytes → names_at bytes ≡ Err code → NameListRefused bytes code
unfolding names_at
list_forth bytes code h e = elim (body_err names_in bytes code h e) [
  | inl none ↦ rw none.0 none.1
  | inr b ↦
      let bad = names_fault b.body code b.holds.1 in
      rw bad.0 (record { body = b.body; rest = b.rest; fits = b.fits; bytes_are = b.bytes_are; holds = bad.1 })
]

list_back : (bytes : List ℕ) (code : WireFault) → IsBytes bytes → NameListRefused bytes code → names_at bytes ≡ Err code
unfolding names_at
list_back bytes Short h none = body_short names_in bytes h none
list_back bytes Name h b =
    body_bad names_in bytes Name h (record { body = b.body; rest = b.rest; fits = b.fits; bytes_are = b.bytes_are; holds = λ each. names_in_bad (names_in b.body) b.body refl b.holds })
list_back bytes _ h b = absurd b

pub list_refuses : RefusesExactly NameListRefused names_at
list_refuses bytes code h = (list_forth bytes code h, list_back bytes code h)
