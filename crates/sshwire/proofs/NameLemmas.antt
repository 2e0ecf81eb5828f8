-- Names and the commas between them.

use Rattle.std.proofs.Common.{◌≡◌, ℕ, zero, suc, ◌+◌, ◌*◌, ◌^◌, ◌<◌, ◌≤◌, inl, inr, Bool, true, false, not, ◌&&◌, List, [], ◌∷◌, ◌++◌, length, get_or, map, Result, Ok, Err, refl, sym, ap, ◌∙◌, arith, cond, eqb, leb, lit<, ◌↔◌}
use Rattle.std.proofs.lemmas.Slice.Eq.{bytes_eq-Decides}
use Rattle.std.specs.List.{Contains, list_any, AllByRecursion, list_all}
use Rattle.std.proofs.lemmas.Bool.{leb-true, le-leb, eqb-false, ne_eqb, and_parts, and_from, or_cases, or_left, or_right, not-true, not_from_false}
use Rattle.std.proofs.lemmas.List.{append_assoc, length-append}
use Rattle.std.specs.Str.{IsAscii, IsUtf8, bytes_eq}
use Rattle.std.proofs.lemmas.Str.{IsUtf8-from_ascii}
use Rattle.std.proofs.lemmas.List.Splits.{slice_split_none, slice_split_at, join_with_byte-slice_split}
use Rattle.std.proofs.lemmas.List.Elements.{All-from_recursion}
use Rattle.sshwire.proofs.VersionText.{all_from_test, all_tested}
use Rattle.sshwire.specs.declared.fault.WireFault.{WireFault}
use Rattle.sshwire.specs.declared.fault.WireFault.TheVariants.{Name}
use Rattle.sshwire.specs.Types.{AreNames, IsName, IsNameByte, names_body}
use Rattle.sshwire.specs.TypeReadings.{IsNameTable, IsNamesBody, NameTable, NamesBody, ends_from, is_comma, is_name, is_name_byte, names_in, names_of, parts}

-- The tests on names decide the claims.
name_byte : (b : ℕ) → is_name_byte b ≡ true → IsNameByte b
name_byte b t =
    let p = and_parts (leb 33 b) (leb b 126 && not (eqb b 44)) t in
    let q = and_parts (leb b 126) (not (eqb b 44)) p.1 in
    record { above_space = leb-true 33 b p.0; printable = leb-true b 126 q.0; no_comma = eqb-false b 44 (not-true _ q.1) }

name_byte_tested : (b : ℕ) → IsNameByte b → is_name_byte b ≡ true
name_byte_tested b h =
    and_from _ _ (le-leb 33 b h.above_space) (and_from _ _ (le-leb b 126 h.printable) (not_from_false _ (ne_eqb b 44 h.no_comma)))

pub name_from_test : (name : List ℕ) → is_name name ≡ true → IsName name
name_from_test name t =
    let p = and_parts (leb 1 (length name)) (leb (length name) 64 && list_all is_name_byte name) t in
    let q = and_parts (leb (length name) 64) (list_all is_name_byte name) p.1 in
    record { not_empty = leb-true 1 (length name) p.0; short = leb-true (length name) 64 q.0; bytes = all_from_test is_name_byte IsNameByte name_byte name q.1 }

pub name_tested : (name : List ℕ) → IsName name → is_name name ≡ true
name_tested name h =
    and_from _ _ (le-leb 1 (length name) h.not_empty)
    (and_from _ _ (le-leb (length name) 64 h.short) (all_tested is_name_byte IsNameByte name_byte_tested name h.bytes))

pub names_from_test : (names : List (List ℕ)) → list_all is_name names ≡ true → AreNames names
names_from_test [] t = tt
names_from_test (name ∷ names) t =
    let p = and_parts (is_name name) (list_all is_name names) t in (name_from_test name p.0, names_from_test names p.1)

pub names_tested : (names : List (List ℕ)) → AreNames names → list_all is_name names ≡ true
names_tested [] h = refl
names_tested (name ∷ names) h = and_from _ _ (name_tested name h.0) (names_tested names h.1)

-- The names of a body, and the body of names.
name_no_comma : (name : List ℕ) → AllByRecursion IsNameByte name → AllByRecursion (λ b. is_comma b ≡ false) name
name_no_comma [] h = tt
name_no_comma (b ∷ bs) h = (ne_eqb b 44 h.0.no_comma, name_no_comma bs h.1)

parts_names : (name : List ℕ) (names : List (List ℕ)) → AreNames (name ∷ names) → parts (names_body (name ∷ names)) ≡ name ∷ names
parts_names name [] h = slice_split_none is_comma name (All-from_recursion _ name (name_no_comma name h.0.bytes))
parts_names name (next ∷ names) h =
    slice_split_at is_comma name 44 (names_body (next ∷ names)) (All-from_recursion _ name (name_no_comma name h.0.bytes)) refl
    ∙ ap (λ (xs : List (List ℕ)). name ∷ xs) (parts_names next names h.1)

body_some : (name : List ℕ) (names : List (List ℕ)) → IsName name → 0 < length (names_body (name ∷ names))
body_some name [] h = h.not_empty
body_some name (next ∷ names) h =
    let some : 0 < length name = h.not_empty in
    let all : length (names_body (name ∷ next ∷ names)) ≡ length name + length (44 ∷ names_body (next ∷ names)) = length-append name (44 ∷ names_body (next ∷ names)) in
    omega arith

pub names_complete : (names : List (List ℕ)) → AreNames names → names_in (names_body names) ≡ Ok names
unfolding names_in
names_complete [] h = refl
names_complete (name ∷ names) h =
    let some : 0 < length (names_body (name ∷ names)) = body_some name names h.0 in
    let f : eqb (length (names_body (name ∷ names))) 0 ≡ false = ne_eqb _ _ (λ e. omega arith) in
    let split : parts (names_body (name ∷ names)) ≡ name ∷ names = parts_names name names h in
    let t : list_all is_name (parts (names_body (name ∷ names))) ≡ true = rw split (names_tested (name ∷ names) h) in
    rw (f, t) (ap (λ (xs : List (List ℕ)). Ok xs) split)

pub record TakesNames (body : List ℕ) (names : List (List ℕ)) : Type 0 where
  pub each : AreNames names
  pub body_is : body ≡ names_body names

names_chosen : (body : List ℕ) (b : Bool) (names : List (List ℕ)) → list_all is_name (parts body) ≡ b → cond b (Ok (parts body)) (Err Name) ≡ Ok names
    → TakesNames body names
names_chosen body true names t e =
    let same : parts body ≡ names = cc in
    record { each = rw same at (names_from_test (parts body) t); body_is = sym (join_with_byte-slice_split 44 body) ∙ ap (λ (xs : List (List ℕ)). names_body xs) same }
names_chosen body false names t e = cc

pub names_taken : (body : List ℕ) (names : List (List ℕ)) → names_in body ≡ Ok names → TakesNames body names
unfolding names_in
names_taken [] names e =
    let same : [] ≡ names = cc in
    record { each = rw (← same) tt; body_is = ap (λ (xs : List (List ℕ)). names_body xs) same }
names_taken (b ∷ bs) names e =
    let f : eqb (length (b ∷ bs)) 0 ≡ false = ne_eqb _ _ (λ z. omega arith) in
    names_chosen (b ∷ bs) (list_all is_name (parts (b ∷ bs))) names refl (rw f at e)

-- a name of a list
pub name_among : {X : Type 0} (view : X → List ℕ) (xs : List X) (i : ℕ) (d : X) → AreNames (map view xs) → i < length xs → IsName (view (get_or xs i d))
name_among view [] i d h within = absurd (omega arith)
name_among view (x ∷ xs) zero d h within = h.0
name_among view (x ∷ xs) (suc i) d h within = name_among view xs i d h.1 (omega arith)

names_push : (names : List (List ℕ)) (name : List ℕ) → AreNames names → IsName name → AreNames (names ++ name ∷ [])
names_push [] name h n = (n, tt)
names_push (x ∷ names) name h n = (h.0, names_push names name h.1 n)

pub ascii_cell : (b : ℕ) (bs : List ℕ) → b < 128 → IsAscii bs → (i : ℕ) → get_or (b ∷ bs) i 0 < 128
ascii_cell b bs h more zero = h
ascii_cell b bs h more (suc i) = more i

-- a name is text
pub ascii_name : (name : List ℕ) → AllByRecursion IsNameByte name → IsAscii name
ascii_name [] h = λ i. lit< tt
ascii_name (b ∷ bs) h = ascii_cell b bs (let low : b ≤ 126 = h.0.printable in omega arith) (ascii_name bs h.1)

-- one more name after a comma
pub body_push : (names : List (List ℕ)) (name : List ℕ) → 0 < length names → names_body (names ++ name ∷ []) ≡ names_body names ++ (44 ∷ name)
body_push [] name some = absurd (omega arith)
body_push (x ∷ []) name some = refl
body_push (x ∷ y ∷ xs) name some =
    ap (λ (ws : List ℕ). x ++ (44 ∷ ws)) (body_push (y ∷ xs) name (omega arith)) ∙ sym (append_assoc x (44 ∷ names_body (y ∷ xs)) (44 ∷ name))

pub name_utf8 : (name : List ℕ) → is_name name ≡ true → IsUtf8 name
name_utf8 name t =
    let n = name_from_test name t in
    IsUtf8-from_ascii name (ascii_name name n.bytes)

names_chosen_err : (body : List ℕ) (b : Bool) (code : WireFault) → cond b (Ok (parts body)) (Err Name) ≡ Err code → code ≡ Name
names_chosen_err body true code e = cc
names_chosen_err body false code e = cc

names_err : (body : List ℕ) (code : WireFault) → names_in body ≡ Err code → code ≡ Name
unfolding names_in
names_err [] code e = cc
names_err (b ∷ bs) code e =
    let f : eqb (length (b ∷ bs)) 0 ≡ false = ne_eqb _ _ (λ z. omega arith) in
    names_chosen_err (b ∷ bs) (list_all is_name (parts (b ∷ bs))) code (rw f at e)

pub names_fault : (body : List ℕ) (code : WireFault) → names_in body ≡ Err code
    → (code ≡ Name) × ((names : List (List ℕ)) → AreNames names → body ≡ names_body names → ⊥)
names_fault body code e = (
  names_err body code e,
  λ names each is.
      let bad : ◌≡◌ {A = Result (List (List ℕ)) WireFault} (Err code) (Ok names) = sym e ∙ (ap (λ (xs : List ℕ). names_in xs) is ∙ names_complete names each) in cc,
)

-- the text of the names that were put so far
pub record PutNames (names : List (List ℕ)) (text : List ℕ) : Type 0 where
  pub each : AreNames names
  pub text_is : text ≡ names_body names
  pub short : length text ≤ 65 * length names

put_onto : (names : List (List ℕ)) (name : List ℕ) → PutNames names (names_body names) → IsName name
    → PutNames (names ++ name ∷ []) (cond (eqb (length (names_body names)) 0) name (names_body names ++ 44 ∷ name))
put_onto [] name p n = let few : length name ≤ 64 = n.short in record { each = (n, tt); text_is = refl; short = omega arith }
put_onto (x ∷ names) name p n =
    let some : 0 < length (names_body (x ∷ names)) = body_some x names p.each.0 in
    let f : eqb (length (names_body (x ∷ names))) 0 ≡ false = ne_eqb _ _ (λ e. omega arith) in
    let few : length name ≤ 64 = n.short in
    let short : length (names_body (x ∷ names)) ≤ 65 * length (x ∷ names) = p.short in
    let one_more : length ((x ∷ names) ++ name ∷ []) ≡ length (x ∷ names) + 1 = length-append (x ∷ names) (name ∷ []) in
    let all : length (names_body (x ∷ names) ++ 44 ∷ name) ≡ length (names_body (x ∷ names)) + length (44 ∷ name)
    = length-append (names_body (x ∷ names)) (44 ∷ name) in
    rw f (record { each = names_push (x ∷ names) name p.each n; text_is = sym (body_push (x ∷ names) name (omega arith)); short = omega arith })

pub put_name : (names more : List (List ℕ)) (text text₂ name : List ℕ) → PutNames names text → IsName name → more ≡ names ++ name ∷ []
    → text₂ ≡ cond (eqb (length text) 0) name (text ++ 44 ∷ name) → PutNames more text₂
put_name names more text text₂ name p n m e =
    let q : PutNames names (names_body names) = record { each = p.each; text_is = refl; short = rw (← p.text_is) p.short } in
    rw (m, e, p.text_is) (put_onto names name q n)

names_of_ok : (body : List ℕ) (b c : Bool) (names : List (List ℕ)) → cond b (Ok []) (cond c (Ok (parts body)) (Err Name)) ≡ Ok names
    → cond b [] (parts body) ≡ names
names_of_ok body true c names e = cc
names_of_ok body false true names e = cc
names_of_ok body false false names e = cc

pub names_of_taken : (body : List ℕ) (names : List (List ℕ)) → names_in body ≡ Ok names → names_of body ≡ names
unfolding names_in names_of
names_of_taken body names e = names_of_ok body (eqb (length body) 0) (list_all is_name (parts body)) names e

pub names_of_body : (names : List (List ℕ)) → AreNames names → names_of (names_body names) ≡ names
names_of_body names each = names_of_taken (names_body names) names (names_complete names each)

-- there are no more names than bytes
pub names_few : (names : List (List ℕ)) → AreNames names → length names ≤ length (names_body names)
names_few [] each = omega arith
names_few (name ∷ []) each = let some : 0 < length name = each.0.not_empty in omega arith
names_few (name ∷ next ∷ names) each =
    let more : length (next ∷ names) ≤ length (names_body (next ∷ names)) = names_few (next ∷ names) each.1 in
    let all : length (names_body (name ∷ next ∷ names)) ≡ length name + length (44 ∷ names_body (next ∷ names)) = length-append name (44 ∷ names_body (next ∷ names)) in
    omega arith

-- what is held, opened and closed
pub table_of : (body ends : List ℕ) → IsNameTable body ends → NameTable body ends
unfolding IsNameTable
table_of body ends t = t

pub to_table : (body ends : List ℕ) → NameTable body ends → IsNameTable body ends
unfolding IsNameTable
to_table body ends t = t

pub body_of : (body : List ℕ) (count : ℕ) → IsNamesBody body count → NamesBody body count
unfolding IsNamesBody
body_of body count b = b

pub to_body : (body : List ℕ) (count : ℕ) → NamesBody body count → IsNamesBody body count
unfolding IsNamesBody
to_body body count b = b

pub names_put : (names : List (List ℕ)) (text ends : List ℕ) → PutNames names text → length names < 2 ^ 25 → ends ≡ ends_from 0 (names_of text)
    → IsNameTable text ends
names_put names text ends p few e =
    let short : length text ≤ 65 * length names = p.short in
    let of : names_of text ≡ names = ap (λ (xs : List ℕ). names_of xs) p.text_is ∙ names_of_body names p.each in
    let taken : names_in text ≡ Ok names = ap (λ (xs : List ℕ). names_in xs) p.text_is ∙ names_complete names p.each in
    to_table text ends (record { names = taken ∙ ap (λ (xs : List (List ℕ)). Ok xs) (sym of); short = omega arith; ends_are = e })

-- Whether a name stands in a list.
any_contains : (names : List (List ℕ)) (q : List ℕ) → list_any (λ x. bytes_eq q x) names ≡ true → Contains names q
any_contains [] q e = cc
any_contains (x ∷ xs) q e = elim (or_cases (bytes_eq q x) (list_any (λ y. bytes_eq q y) xs) e) [
  | inl t ↦ (0, omega arith, sym ((bytes_eq-Decides q x).0 t))
  | inr t ↦ let c = any_contains xs q t in let within : c.0 < length xs = c.1 in (suc c.0, omega arith, c.2)
]

contains_any : (names : List (List ℕ)) (q : List ℕ) (k : ℕ) → k < length names → get_or names k q ≡ q → list_any (λ x. bytes_eq q x) names ≡ true
contains_any [] q k within e = absurd (omega arith)
contains_any (x ∷ xs) q zero within e = or_left _ _ ((bytes_eq-Decides q x).1 (sym e))
contains_any (x ∷ xs) q (suc k) within e = or_right _ _ (contains_any xs q k (omega arith) e)

pub contains_name : (names : List (List ℕ)) (q : List ℕ) → (list_any (λ x. bytes_eq q x) names ≡ true) ↔ Contains names q
contains_name names q = (any_contains names q, λ c. contains_any names q c.0 c.1 c.2)
