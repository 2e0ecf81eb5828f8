-- A body of names, judged byte by byte.

use Rattle.std.proofs.Common.{◌≡◌, ◌≢◌, ℕ, ◌+◌, ◌<◌, ◌≤◌, inl, inr, true, false, not, ◌&&◌, List, [], ◌∷◌, ◌++◌, length, get_or, drop, Option, None, Some, Ok, Err, refl, sym, ap, ◌∙◌, arith, cond, eqb, leb}
use Rattle.std.specs.Option.{option_map}
use Rattle.std.specs.List.{AllByRecursion, list_all, onto_first, slice_split}
use Rattle.std.proofs.lemmas.Bool.{cases_Bool, lt-leb, le-leb, eqb-true, eqb-false, ne_eqb, eq-eqb, and_parts, and_from, and_left, and_right, not-true}
use Rattle.std.proofs.lemmas.List.{append_assoc, append-nil, length-append, at_drop_more, at_drop_all}
use Rattle.std.proofs.lemmas.List.Folds.{list_all-append}
use Rattle.std.proofs.lemmas.List.Splits.{slice_split_none, slice_split_at, slice_split-cons_no, slice_split-cons_yes}
use Rattle.std.proofs.lemmas.List.Elements.{All-from_recursion}
use Rattle.sshwire.specs.declared.fault.WireFault.TheVariants.{Name}
use Rattle.sshwire.specs.TypeReadings.{is_comma, is_name, is_name_byte, names_in, names_of, parts}

-- how many names are left, where so many bytes of the first were seen before
abbrev pub names_left : ℕ → List ℕ → Option ℕ
names_left len [] = cond (eqb len 0) None (Some 1)
names_left len (b ∷ bs) =
    cond (eqb b 44) (cond (eqb len 0) None (option_map (λ n. 1 + n) (names_left 0 bs)))
    (cond (eqb len 64) None (cond (is_name_byte b) (names_left (len + 1) bs) None))

-- how many parts there are, where each is a name
abbrev pub counted : List (List ℕ) → Option ℕ
counted ps = cond (list_all is_name ps) (Some (length ps)) None

counted_refused : (ps : List (List ℕ)) (part : List ℕ) (more : List (List ℕ)) → ps ≡ part ∷ more → is_name part ≡ false → None ≡ counted ps
counted_refused ps part more e f =
    let bad : list_all is_name (part ∷ more) ≡ false = and_left _ _ f in
    rw (e, bad) refl

counted_taken : (ps : List (List ℕ)) (part : List ℕ) (more : List (List ℕ)) → ps ≡ part ∷ more → is_name part ≡ true
    → option_map (λ n. 1 + n) (counted more) ≡ counted ps
counted_taken ps part more e t = elim (cases_Bool (list_all is_name more)) [
  | inl m ↦
      let all : list_all is_name (part ∷ more) ≡ true = and_from _ _ t m in
      let long : 1 + length more ≡ length (part ∷ more) = omega arith in
      rw (e, all, m) (ap (λ (n : ℕ). Some n) long)
  | inr m ↦
      let all : list_all is_name (part ∷ more) ≡ false = and_right _ _ m in
      rw (e, all, m) refl
]

-- the first part
pub first_of : (bs : List ℕ) → (part : List ℕ) × (more : List (List ℕ)) × (slice_split is_comma bs ≡ part ∷ more)
first_of [] = ([], [], refl)
first_of (b ∷ bs) = elim (cases_Bool (is_comma b)) [
  | inl t ↦ ([], slice_split is_comma bs, slice_split-cons_yes is_comma b bs t)
  | inr f ↦
      let p = first_of bs in
      (b ∷ p.0, p.1, slice_split-cons_no is_comma b bs f ∙ ap (λ (ps : List (List ℕ)). onto_first b ps) p.2)
]

before_first : (name bs part : List ℕ) (more : List (List ℕ)) → AllByRecursion (λ b. is_comma b ≡ false) name → slice_split is_comma bs ≡ part ∷ more
    → slice_split is_comma (name ++ bs) ≡ (name ++ part) ∷ more
before_first [] bs part more h e = e
before_first (b ∷ name) bs part more h e =
    slice_split-cons_no is_comma b (name ++ bs) h.0
    ∙ ap (λ (ps : List (List ℕ)). onto_first b ps) (before_first name bs part more h.1 e)

no_comma : (name : List ℕ) → list_all is_name_byte name ≡ true → AllByRecursion (λ b. is_comma b ≡ false) name
no_comma [] t = tt
no_comma (b ∷ bs) t =
    let p = and_parts (is_name_byte b) (list_all is_name_byte bs) t in
    let q = and_parts (leb 33 b) (leb b 126 && not (eqb b 44)) p.0 in
    (not-true _ (and_parts (leb b 126) (not (eqb b 44)) q.1).1, no_comma bs p.1)

empty_refused : (name : List ℕ) → eqb (length name) 0 ≡ true → is_name name ≡ false
empty_refused name z =
    let none : length name ≡ 0 = eqb-true _ _ z in
    and_left _ _ (lt-leb 1 (length name) (omega arith))

long_refused : (name more : List ℕ) (b : ℕ) → length name ≡ 64 → is_name (name ++ b ∷ more) ≡ false
long_refused name more b e =
    let long : length (name ++ b ∷ more) ≡ length name + length (b ∷ more) = length-append name (b ∷ more) in
    and_right _ _ (and_left _ _ (lt-leb (length (name ++ b ∷ more)) 64 (omega arith)))

other_refused : (name more : List ℕ) (b : ℕ) → is_name_byte b ≡ false → is_name (name ++ b ∷ more) ≡ false
other_refused name more b f =
    let bad : list_all is_name_byte (b ∷ more) ≡ false = and_left _ _ f in
    let all : list_all is_name_byte (name ++ b ∷ more) ≡ false = list_all-append is_name_byte name (b ∷ more) ∙ and_right _ _ bad in
    and_right _ _ (and_right _ _ all)

name_taken : (name : List ℕ) → eqb (length name) 0 ≡ false → length name ≤ 64 → list_all is_name_byte name ≡ true → is_name name ≡ true
name_taken name z short t =
    let some : length name ≢ 0 = eqb-false _ _ z in
    and_from _ _ (le-leb 1 (length name) (omega arith)) (and_from _ _ (le-leb (length name) 64 short) t)

-- the bytes that are left, after those of a name that were seen, are as many names as there are parts
left_counted : (name bs : List ℕ) → list_all is_name_byte name ≡ true → length name ≤ 64 → names_left (length name) bs ≡ counted (slice_split is_comma (name ++ bs))
left_counted name [] t short =
    let whole : slice_split is_comma (name ++ []) ≡ name ∷ []
    = ap (λ (xs : List ℕ). slice_split is_comma xs) (append-nil name) ∙ slice_split_none is_comma name (All-from_recursion _ name (no_comma name t)) in
    elim (cases_Bool (eqb (length name) 0)) [
      | inl z ↦ rw z (counted_refused _ name [] whole (empty_refused name z))
      | inr z ↦ rw z (counted_taken _ name [] whole (name_taken name z short t))
    ]
left_counted name (b ∷ bs) t short = elim (cases_Bool (eqb b 44)) [
  | inl comma ↦
      let whole : slice_split is_comma (name ++ b ∷ bs) ≡ name ∷ slice_split is_comma bs
      = slice_split_at is_comma name b bs (All-from_recursion _ name (no_comma name t)) comma in
      elim (cases_Bool (eqb (length name) 0)) [
        | inl z ↦ rw (comma, z) (counted_refused _ name _ whole (empty_refused name z))
        | inr z ↦
            rw (comma, z)
            (ap (λ (x : Option ℕ). option_map (λ n. 1 + n) x) (left_counted [] bs refl (omega arith))
            ∙ counted_taken _ name _ whole (name_taken name z short t))
      ]
  | inr other ↦
      let p = first_of bs in
      let here : slice_split is_comma (b ∷ bs) ≡ (b ∷ p.0) ∷ p.1
      = slice_split-cons_no is_comma b bs other ∙ ap (λ (ps : List (List ℕ)). onto_first b ps) p.2 in
      let whole : slice_split is_comma (name ++ b ∷ bs) ≡ (name ++ b ∷ p.0) ∷ p.1
      = before_first name (b ∷ bs) (b ∷ p.0) p.1 (no_comma name t) here in
      elim (cases_Bool (eqb (length name) 64)) [
        | inl full ↦ rw (other, full) (counted_refused _ (name ++ b ∷ p.0) p.1 whole (long_refused name p.0 b (eqb-true _ _ full)))
        | inr room ↦ elim (cases_Bool (is_name_byte b)) [
          | inl valid ↦
              let some : length name ≢ 64 = eqb-false _ _ room in
              let long : length (name ++ b ∷ []) ≡ length name + 1 = length-append name (b ∷ []) in
              let all : list_all is_name_byte (name ++ b ∷ []) ≡ true
              = list_all-append is_name_byte name (b ∷ []) ∙ and_from _ _ t (and_from _ _ valid refl) in
              rw (valid, other, room)
              (ap (λ (n : ℕ). names_left n bs) (sym long)
              ∙ (left_counted (name ++ b ∷ []) bs all (omega arith)
              ∙ ap (λ (xs : List ℕ). counted (slice_split is_comma xs)) (append_assoc name (b ∷ []) bs)))
          | inr bad ↦ rw (bad, other, room) (counted_refused _ (name ++ b ∷ p.0) p.1 whole (other_refused name p.0 b bad))
        ]
      ]
]

body_counted : (body : List ℕ) (x : Option ℕ) → names_left 0 body ≡ x → counted (parts body) ≡ x
body_counted body x e = sym (left_counted [] body refl (omega arith)) ∙ e

-- what the count says of the body
pub body_refused : (body : List ℕ) → (length body ≡ 0 → ⊥) → names_left 0 body ≡ None → names_in body ≡ Err Name
unfolding names_in
body_refused body some e =
    let f : eqb (length body) 0 ≡ false = ne_eqb _ _ some in
    let c = body_counted body None e in
    elim (cases_Bool (list_all is_name (parts body))) [
      | inl t ↦ let bad : Some (length (parts body)) ≡ None = rw t at c in cc
      | inr t ↦ rw (f, t) refl
    ]

pub record IsCount (body : List ℕ) (count : ℕ) : Type 0 where
  pub names : names_in body ≡ Ok (names_of body)
  pub count_is : count ≡ length (names_of body)

pub body_taken : (body : List ℕ) (count : ℕ) → (length body ≡ 0 → ⊥) → names_left 0 body ≡ Some count → IsCount body count
unfolding names_in names_of
body_taken body count some e =
    let f : eqb (length body) 0 ≡ false = ne_eqb _ _ some in
    let c = body_counted body (Some count) e in
    elim (cases_Bool (list_all is_name (parts body))) [
      | inl t ↦
          let same : Some (length (parts body)) ≡ Some count = rw t at c in
          let is : count ≡ length (parts body) = cc in
          record { names = rw (f, t) refl; count_is = rw f is }
      | inr t ↦ let bad : None ≡ Some count = rw t at c in cc
    ]

pub body_empty : (body : List ℕ) → length body ≡ 0 → IsCount body 0
unfolding names_in names_of
body_empty body e = let t : eqb (length body) 0 ≡ true = eq-eqb _ _ e in record { names = rw t refl; count_is = rw t refl }

-- The loop over the bytes: so many whole names stand before, and so many bytes of the next.
pub record IsCounting (body : List ℕ) (i count len : ℕ) : Type 0 where
  pub left : option_map (λ n. count + n) (names_left len (drop i body)) ≡ names_left 0 body
  pub few : count ≤ i
  pub short : len ≤ 64

module _ (body : List ℕ) (i count len : ℕ) (c : IsCounting body i count len) (b : ℕ) (within : i < length body) (is : get_or body i 0 ≡ b) where
  here : names_left len (drop i body) ≡ names_left len (b ∷ drop (i + 1) body)
  here = at_drop_more (names_left len) body i 0 within ∙ ap (λ (x : ℕ). names_left len (x ∷ drop (i + 1) body)) is

  refused_here : names_left len (b ∷ drop (i + 1) body) ≡ None → names_left 0 body ≡ None
  refused_here e = sym c.left ∙ ap (λ (x : Option ℕ). option_map (λ n. count + n) x) (here ∙ e)

  pub comma_after_none : b ≡ 44 → len ≡ 0 → names_left 0 body ≡ None
  comma_after_none comma none =
      let t : eqb b 44 ≡ true = eq-eqb _ _ comma in
      let z : eqb len 0 ≡ true = eq-eqb _ _ none in
      refused_here (rw (t, z) refl)

  pub past_limit : b ≢ 44 → len ≡ 64 → names_left 0 body ≡ None
  past_limit other full =
      let f : eqb b 44 ≡ false = ne_eqb _ _ other in
      let z : eqb len 64 ≡ true = eq-eqb _ _ full in
      refused_here (rw (f, z) refl)

  pub no_name_byte : b ≢ 44 → len ≢ 64 → is_name_byte b ≡ false → names_left 0 body ≡ None
  no_name_byte other room bad =
      let f : eqb b 44 ≡ false = ne_eqb _ _ other in
      let z : eqb len 64 ≡ false = ne_eqb _ _ room in
      refused_here (rw (bad, f, z) refl)

counting_end : (body : List ℕ) (i count len : ℕ) → IsCounting body i count len → length body ≤ i → names_left 0 body ≡ option_map (λ n. count + n) (names_left len [])
counting_end body i count len c all =
    sym c.left ∙ ap (λ (x : Option ℕ). option_map (λ n. count + n) x) (at_drop_all (names_left len) body i all)

pub ends_in_none : (body : List ℕ) (i count len : ℕ) → IsCounting body i count len → length body ≤ i → len ≡ 0 → names_left 0 body ≡ None
ends_in_none body i count len c all none =
    let z : eqb len 0 ≡ true = eq-eqb _ _ none in
    counting_end body i count len c all ∙ rw z refl

pub ends_in_name : (body : List ℕ) (i count len : ℕ) → IsCounting body i count len → length body ≤ i → len ≢ 0 → names_left 0 body ≡ Some (count + 1)
ends_in_name body i count len c all some =
    let z : eqb len 0 ≡ false = ne_eqb _ _ some in
    counting_end body i count len c all ∙ rw z refl
