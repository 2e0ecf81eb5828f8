-- Where the names of a body end, and the name that stands between two ends.

use Rattle.std.proofs.Common.{◌≡◌, ℕ, zero, suc, ◌+◌, ◌-◌, ◌<◌, ◌≤◌, List, [], ◌∷◌, ◌++◌, length, take, drop, get_or, Some, Ok, refl, sym, ap, subst, ◌∙◌, arith, lit<}
use Rattle.std.specs.List.{onto_first, slice_get}
use Rattle.std.specs.Str.{IsAscii, IsCharBoundary, IsUtf8}
use Rattle.std.proofs.lemmas.Bool.{eq-eqb, ne_eqb}
use Rattle.std.proofs.lemmas.List.{append_assoc, append-nil, length-append, at_drop_more, at_drop_all, drop_at, take_at}
use Rattle.std.proofs.lemmas.List.Splits.{slice_split-cons_no, slice_split-cons_yes}
use Rattle.std.proofs.lemmas.Option.{slice_get-get_or}
use Rattle.std.proofs.lemmas.Str.{IsAscii-append, IsCharBoundary-from_ascii, IsUtf8-from_ascii}
use Rattle.sshwire.specs.Types.{AreNames, IsName, names_body}
use Rattle.sshwire.specs.TypeReadings.{IsNameTable, ends_from, is_comma, names_in, names_of, parts}
use Rattle.sshwire.proofs.NameLemmas.{ascii_cell, ascii_name, names_taken, table_of}
use Rattle.sshwire.proofs.NamesLeft.{first_of}

-- The loop over the bytes of a body.
ends_comma : (place b : ℕ) (bs : List ℕ) → b ≡ 44 → ends_from place (parts (b ∷ bs)) ≡ place ∷ ends_from (place + 1) (parts bs)
ends_comma place b bs e =
    let here : place + length {A = ℕ} [] ≡ place = omega arith in
    ap (λ (ps : List (List ℕ)). ends_from place ps) (slice_split-cons_yes is_comma b bs (eq-eqb b 44 e))
    ∙ ap (λ (n : ℕ). n ∷ ends_from (n + 1) (parts bs)) here

ends_other : (place b : ℕ) (bs : List ℕ) → (b ≡ 44 → ⊥) → ends_from place (parts (b ∷ bs)) ≡ ends_from (place + 1) (parts bs)
ends_other place b bs other =
    let p = first_of bs in
    let split : parts (b ∷ bs) ≡ (b ∷ p.0) ∷ p.1
    = slice_split-cons_no is_comma b bs (ne_eqb b 44 other) ∙ ap (λ (ps : List (List ℕ)). onto_first b ps) p.2 in
    let here : place + length (b ∷ p.0) ≡ place + 1 + length p.0 = omega arith in
    ap (λ (ps : List (List ℕ)). ends_from place ps) split
    ∙ (ap (λ (n : ℕ). n ∷ ends_from (n + 1) p.1) here ∙ ap (λ (ps : List (List ℕ)). ends_from (place + 1) ps) (sym p.2))

pub ends_after_comma : (body ends all : List ℕ) (i : ℕ) → ends ++ ends_from i (parts (drop i body)) ≡ all → i < length body → get_or body i 0 ≡ 44
    → (ends ++ i ∷ []) ++ ends_from (i + 1) (parts (drop (i + 1) body)) ≡ all
ends_after_comma body ends all i before within comma =
    append_assoc ends (i ∷ []) (ends_from (i + 1) (parts (drop (i + 1) body)))
    ∙ (ap (λ (xs : List ℕ). ends ++ xs)
    (sym (at_drop_more (λ (xs : List ℕ). ends_from i (parts xs)) body i 0 within ∙ ends_comma i (get_or body i 0) (drop (i + 1) body) comma))
    ∙ before)

pub ends_after_other : (body ends all : List ℕ) (i : ℕ) → ends ++ ends_from i (parts (drop i body)) ≡ all → i < length body
    → (get_or body i 0 ≡ 44 → ⊥) → ends ++ ends_from (i + 1) (parts (drop (i + 1) body)) ≡ all
ends_after_other body ends all i before within other =
    ap (λ (xs : List ℕ). ends ++ xs)
    (sym (at_drop_more (λ (xs : List ℕ). ends_from i (parts xs)) body i 0 within ∙ ends_other i (get_or body i 0) (drop (i + 1) body) other))
    ∙ before

pub ends_whole : (body ends all : List ℕ) (i : ℕ) → ends ++ ends_from i (parts (drop i body)) ≡ all → length body ≡ i → ends ++ length body ∷ [] ≡ all
ends_whole body ends all i before done =
    let last : ends_from i (parts (drop i body)) ≡ length body ∷ []
    = at_drop_all (λ (xs : List ℕ). ends_from i (parts xs)) body i (omega arith) ∙ ap (λ (n : ℕ). n ∷ []) (omega arith) in
    ap (λ (xs : List ℕ). ends ++ xs) (sym last) ∙ before

pub names_of_empty : (body : List ℕ) → length body ≡ 0 → names_of body ≡ []
unfolding names_of
names_of_empty body e = rw (eq-eqb _ _ e) refl

pub names_of_some : (body : List ℕ) → (length body ≡ 0 → ⊥) → names_of body ≡ parts body
unfolding names_of
names_of_some body some = rw (ne_eqb _ _ some) refl

pub length-ends_from : (place : ℕ) (names : List (List ℕ)) → length (ends_from place names) ≡ length names
length-ends_from place [] = refl
length-ends_from place (name ∷ names) =
    let more : length (ends_from (place + length name + 1) names) ≡ length names = length-ends_from (place + length name + 1) names in
    omega arith

-- where the name at a position starts: after the end before it
abbrev start_at : ℕ → List ℕ → ℕ → ℕ
start_at place ends zero = place
start_at place ends (suc i) = get_or ends i 0 + 1

start_next : (place e : ℕ) (ends : List ℕ) (i : ℕ) → start_at place (e ∷ ends) (suc i) ≡ start_at (e + 1) ends i
start_next place e ends zero = refl
start_next place e ends (suc i) = refl

start_after : (ends : List ℕ) (i : ℕ) → 0 < i → start_at 0 ends i ≡ get_or ends (i - 1) 0 + 1
start_after ends zero some = absurd (omega arith)
start_after ends (suc i) some = let one : suc i - 1 ≡ i = omega arith in rw one refl

-- the name is that part of the body
record IsPiece (body name : List ℕ) (start end : ℕ) : Type 0 where
  pub front : List ℕ
  pub after : List ℕ
  pub body_is : body ≡ front ++ (name ++ after)
  pub start_is : start ≡ length front
  pub end_is : end ≡ length front + length name

piece : (front : List ℕ) (names : List (List ℕ)) (i : ℕ) → i < length names
    → IsPiece (front ++ names_body names) (get_or names i []) (start_at (length front) (ends_from (length front) names) i)
    (get_or (ends_from (length front) names) i 0)
piece front [] i within = absurd (omega arith)
piece front (name ∷ []) zero within = record {
  front = front;
  after = [];
  body_is = ap (λ (xs : List ℕ). front ++ xs) (sym (append-nil name));
  start_is = refl;
  end_is = refl;
}
piece front (name ∷ []) (suc i) within = absurd (omega arith)
piece front (name ∷ next ∷ names) zero within = record {
  front = front;
  after = 44 ∷ names_body (next ∷ names);
  body_is = refl;
  start_is = refl;
  end_is = refl;
}
piece front (name ∷ next ∷ names) (suc i) within =
    let more : List ℕ = front ++ (name ++ 44 ∷ []) in
    let inner : length (name ++ 44 ∷ []) ≡ length name + 1 = length-append name (44 ∷ []) in
    let outer : length more ≡ length front + length (name ++ 44 ∷ []) = length-append front (name ++ 44 ∷ []) in
    let long : length more ≡ length front + length name + 1 = omega arith in
    let p = piece more (next ∷ names) i (omega arith) in
    let whole : more ++ names_body (next ∷ names) ≡ front ++ names_body (name ∷ next ∷ names)
    = append_assoc front (name ++ 44 ∷ []) (names_body (next ∷ names))
    ∙ ap (λ (xs : List ℕ). front ++ xs) (append_assoc name (44 ∷ []) (names_body (next ∷ names))) in
    record {
      front = p.front;
      after = p.after;
      body_is = sym whole ∙ p.body_is;
      start_is = start_next (length front) (length front + length name) (ends_from (length front + length name + 1) (next ∷ names)) i
          ∙ (ap (λ (n : ℕ). start_at n (ends_from n (next ∷ names)) i) (sym long) ∙ p.start_is);
      end_is = ap (λ (n : ℕ). get_or (ends_from n (next ∷ names)) i 0) (sym long) ∙ p.end_is;
    }

ascii_body : (names : List (List ℕ)) → AreNames names → IsAscii (names_body names)
ascii_body [] each = λ i. lit< tt
ascii_body (name ∷ []) each = ascii_name name each.0.bytes
ascii_body (name ∷ next ∷ names) each =
    IsAscii-append name (44 ∷ names_body (next ∷ names)) (ascii_name name each.0.bytes)
    (ascii_cell 44 (names_body (next ∷ names)) (lit< tt) (ascii_body (next ∷ names) each.1))

pub body_utf8 : (body : List ℕ) → names_in body ≡ Ok (names_of body) → IsUtf8 body
body_utf8 body e =
    let t = names_taken body (names_of body) e in
    rw t.body_is (IsUtf8-from_ascii _ (ascii_body (names_of body) t.each))

pub named_at : (names : List (List ℕ)) (i : ℕ) → AreNames names → i < length names → IsName (get_or names i [])
named_at [] i each within = absurd (omega arith)
named_at (name ∷ names) zero each within = each.0
named_at (name ∷ names) (suc i) each within = named_at names i each.1 (omega arith)

-- The part of a text between a name's start and its end.
pub record IsCut (body : List ℕ) (i start end : ℕ) : Type 0 where
  pub ordered : start ≤ end
  pub at_start : IsCharBoundary body start
  pub at_end : IsCharBoundary body end
  pub gets : (part : List ℕ) → part ≡ take (end - start) (drop start body) → slice_get (names_of body) i ≡ Some part
  pub named : (part : List ℕ) → part ≡ take (end - start) (drop start body) → IsName part

cut_out : (body front name after : List ℕ) (start end : ℕ) → body ≡ front ++ (name ++ after) → start ≡ length front → end ≡ length front + length name
    → take (end - start) (drop start body) ≡ name
cut_out body front name after start end is starts stops =
    ap (λ (xs : List ℕ). take (end - start) (drop start xs)) is
    ∙ (ap (λ (xs : List ℕ). take (end - start) xs) (drop_at front (name ++ after) start (sym starts))
    ∙ take_at name after (end - start) (omega arith))

cut_piece : (body : List ℕ) (i start end : ℕ) → AreNames (names_of body) → IsAscii body → i < length (names_of body)
    → IsPiece body (get_or (names_of body) i []) start end → IsCut body i start end
cut_piece body i start end each ascii inside p =
    let name : List ℕ = get_or (names_of body) i [] in
    let starts : start ≡ length p.front = p.start_is in
    let stops : end ≡ length p.front + length name = p.end_is in
    let inner : length (name ++ p.after) ≡ length name + length p.after = length-append name p.after in
    let outer : length (p.front ++ (name ++ p.after)) ≡ length p.front + length (name ++ p.after) = length-append p.front (name ++ p.after) in
    let whole : length body ≡ length (p.front ++ (name ++ p.after)) = ap (λ (xs : List ℕ). length xs) p.body_is in
    let is : take (end - start) (drop start body) ≡ name = cut_out body p.front name p.after start end p.body_is starts stops in
    record {
      ordered = omega arith;
      at_start = IsCharBoundary-from_ascii body start ascii (omega arith);
      at_end = IsCharBoundary-from_ascii body end ascii (omega arith);
      gets = λ part e. slice_get-get_or (names_of body) i [] inside ∙ ap (λ (xs : List ℕ). Some xs) (sym (e ∙ is));
      named = λ part e. rw (e ∙ is) (named_at (names_of body) i each inside);
    }

cut : (body ends : List ℕ) (i : ℕ) → IsNameTable body ends → i < length ends → IsCut body i (start_at 0 ends i) (get_or ends i 0)
cut body ends i held within =
    let table = table_of body ends held in
    let names : List (List ℕ) = names_of body in
    let t = names_taken body names table.names in
    let count : length ends ≡ length names = ap (λ (xs : List ℕ). length xs) table.ends_are ∙ length-ends_from 0 names in
    let in_body : IsPiece body (get_or names i []) (start_at 0 (ends_from 0 names) i) (get_or (ends_from 0 names) i 0)
    = subst (λ (xs : List ℕ). IsPiece xs (get_or names i []) (start_at 0 (ends_from 0 names) i) (get_or (ends_from 0 names) i 0)) (sym t.body_is)
    (piece [] names i (omega arith)) in
    cut_piece body i (start_at 0 ends i) (get_or ends i 0) t.each (rw t.body_is (ascii_body names t.each)) (omega arith)
    (subst (λ (es : List ℕ). IsPiece body (get_or names i []) (start_at 0 es i) (get_or es i 0)) (sym table.ends_are) in_body)

pub cut_first : (body ends : List ℕ) (i : ℕ) → IsNameTable body ends → i < length ends → i ≡ 0 → IsCut body i 0 (get_or ends i 0)
cut_first body ends i table within first =
    let start : start_at 0 ends i ≡ 0 = rw first refl in
    subst (λ (s : ℕ). IsCut body i s (get_or ends i 0)) start (cut body ends i table within)

pub cut_after : (body ends : List ℕ) (i : ℕ) → IsNameTable body ends → i < length ends → 0 < i → IsCut body i (get_or ends (i - 1) 0 + 1) (get_or ends i 0)
cut_after body ends i table within some = subst (λ (s : ℕ). IsCut body i s (get_or ends i 0)) (start_after ends i some) (cut body ends i table within)

-- the name at a position is the first of those that are left there
pub left_at : (names : List (List ℕ)) (i : ℕ) (name : List ℕ) → slice_get names i ≡ Some name → drop i names ≡ name ∷ drop (i + 1) names
left_at [] i name e = cc
left_at (x ∷ names) zero name e = let same : x ≡ name = cc in ap (λ (ys : List ℕ). ys ∷ names) same
left_at (x ∷ names) (suc i) name e =
    let next : suc i + 1 ≡ suc (i + 1) = omega arith in
    rw next (left_at names i name e)
