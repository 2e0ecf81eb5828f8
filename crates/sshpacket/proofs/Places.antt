-- What more elements at the end change at the places of a list.

use Rattle.std.proofs.Common.{◌≡◌, ◌+◌, Bool, true, List, [], ◌∷◌, ◌++◌, refl, sym, ap, ◌∙◌, arith, cond, subst, inl, inr, append_assoc}
use Rattle.std.proofs.lemmas.Bool.{cases_Bool}
use Rattle.std.proofs.lemmas.List.{append-nil}
use Rattle.sshpacket.specs.Places.{IsPrefix, EachPlace, flat_places, stands, first_where, after_first, count_places}

module _ {A : Type 0} where
  -- the accumulator with one element more
  passed : (before : List A) (x : A) (xs : List A) → (before ++ x ∷ []) ++ xs ≡ before ++ x ∷ xs
  passed before x xs = append_assoc before (x ∷ []) xs

  pub each-append : (Q : List A → A → Type 0) (before xs ys : List A) → EachPlace Q before xs → EachPlace Q (before ++ xs) ys → EachPlace Q before (xs ++ ys)
  each-append Q before [] ys p q = subst (λ (b : List A). EachPlace Q b ys) (append-nil before) q
  each-append Q before (x ∷ xs) ys p q = (p.0, each-append Q (before ++ x ∷ []) xs ys p.1 (subst (λ (b : List A). EachPlace Q b ys) (sym (passed before x xs)) q))

  pub each-prefix : (Q : List A → A → Type 0) (before xs ys : List A) → EachPlace Q before (xs ++ ys) → EachPlace Q before xs
  each-prefix Q before [] ys p = tt
  each-prefix Q before (x ∷ xs) ys p = (p.0, each-prefix Q (before ++ x ∷ []) xs ys p.1)

  pub each-after : (Q : List A → A → Type 0) (before xs ys : List A) → EachPlace Q before (xs ++ ys) → EachPlace Q (before ++ xs) ys
  each-after Q before [] ys p = subst (λ (b : List A). EachPlace Q b ys) (sym (append-nil before)) p
  each-after Q before (x ∷ xs) ys p = subst (λ (b : List A). EachPlace Q b ys) (passed before x xs) (each-after Q (before ++ x ∷ []) xs ys p.1)

  pub each-push : (Q : List A → A → Type 0) (before xs : List A) (x : A) → EachPlace Q before xs → Q (before ++ xs) x → EachPlace Q before (xs ++ x ∷ [])
  each-push Q before xs x p q = each-append Q before xs (x ∷ []) p (q, tt)

  pub each-last : (Q : List A → A → Type 0) (before xs : List A) (x : A) → EachPlace Q before (xs ++ x ∷ []) → Q (before ++ xs) x
  each-last Q before xs x p = (each-after Q before xs (x ∷ []) p).0

  -- what holds at each place implies what follows from it
  pub each-weaker : (P Q : List A → A → Type 0) → ((before : List A) (x : A) → P before x → Q before x) → (before xs : List A) → EachPlace P before xs → EachPlace Q before xs
  each-weaker P Q f before [] p = tt
  each-weaker P Q f before (x ∷ xs) p = (f before x p.0, each-weaker P Q f (before ++ x ∷ []) xs p.1)

  pub flat-append : {B : Type 0} (f : List A → A → List B) (before xs ys : List A) → flat_places f before (xs ++ ys) ≡ flat_places f before xs ++ flat_places f (before ++ xs) ys
  flat-append f before [] ys = ap (λ (b : List A). flat_places f b ys) (sym (append-nil before))
  flat-append {B = B} f before (x ∷ xs) ys =
      ap (λ (r : List B). f before x ++ r) (flat-append f (before ++ x ∷ []) xs ys)
      ∙ (ap (λ (b : List A). f before x ++ (flat_places f (before ++ x ∷ []) xs ++ flat_places f b ys)) (passed before x xs)
      ∙ sym (append_assoc (f before x) (flat_places f (before ++ x ∷ []) xs) (flat_places f (before ++ x ∷ xs) ys)))

  pub flat-push : {B : Type 0} (f : List A → A → List B) (before xs : List A) (x : A) → flat_places f before (xs ++ x ∷ []) ≡ flat_places f before xs ++ f (before ++ xs) x
  flat-push {B = B} f before xs x = flat-append f before xs (x ∷ []) ∙ ap (λ (r : List B). flat_places f before xs ++ r) (append-nil (f (before ++ xs) x))

  -- functions that agree at each place give the same
  pub flat-same : {B : Type 0} (f g : List A → A → List B) (before xs : List A) → EachPlace (λ b x. f b x ≡ g b x) before xs → flat_places f before xs ≡ flat_places g before xs
  flat-same f g before [] e = refl
  flat-same {B = B} f g before (x ∷ xs) e = ap (λ (r : List B). r ++ flat_places f (before ++ x ∷ []) xs) e.0 ∙ ap (λ (r : List B). g before x ++ r) (flat-same f g (before ++ x ∷ []) xs e.1)

  pub stands-append : (t : List A → A → Bool) (before xs ys : List A) → stands t before (xs ++ ys) ≡ cond (stands t before xs) true (stands t (before ++ xs) ys)
  stands-append t before [] ys = ap (λ (b : List A). stands t b ys) (sym (append-nil before))
  stands-append t before (x ∷ xs) ys = elim (cases_Bool (t before x)) [
    | inl h ↦ rw h refl
    | inr h ↦ rw h (stands-append t (before ++ x ∷ []) xs ys ∙ ap (λ (b : List A). cond (stands t (before ++ x ∷ []) xs) true (stands t b ys)) (passed before x xs))
  ]

  pub first-append : (other : A) (t : List A → A → Bool) (before xs ys : List A)
      → first_where other t before (xs ++ ys) ≡ cond (stands t before xs) (first_where other t before xs) (first_where other t (before ++ xs) ys)
  first-append other t before [] ys = ap (λ (b : List A). first_where other t b ys) (sym (append-nil before))
  first-append other t before (x ∷ xs) ys = elim (cases_Bool (t before x)) [
    | inl h ↦ rw h refl
    | inr h ↦ rw h (first-append other t (before ++ x ∷ []) xs ys
        ∙ ap (λ (b : List A). cond (stands t (before ++ x ∷ []) xs) (first_where other t (before ++ x ∷ []) xs) (first_where other t b ys)) (passed before x xs))
  ]

  pub after-append : (t : List A → A → Bool) (before xs ys : List A)
      → after_first t before (xs ++ ys) ≡ cond (stands t before xs) (after_first t before xs ++ ys) (after_first t (before ++ xs) ys)
  after-append t before [] ys = ap (λ (b : List A). after_first t b ys) (sym (append-nil before))
  after-append t before (x ∷ xs) ys = elim (cases_Bool (t before x)) [
    | inl h ↦ rw h refl
    | inr h ↦ rw h (after-append t (before ++ x ∷ []) xs ys
        ∙ ap (λ (b : List A). cond (stands t (before ++ x ∷ []) xs) (after_first t (before ++ x ∷ []) xs ++ ys) (after_first t b ys)) (passed before x xs))
  ]

  pub count-append : (t : List A → A → Bool) (before xs ys : List A) → count_places t before (xs ++ ys) ≡ count_places t before xs + count_places t (before ++ xs) ys
  count-append t before [] ys = ap (λ (b : List A). count_places t b ys) (sym (append-nil before)) ∙ omega arith
  count-append t before (x ∷ xs) ys =
      let more : count_places t (before ++ x ∷ []) (xs ++ ys) ≡ count_places t (before ++ x ∷ []) xs + count_places t (before ++ x ∷ xs) ys
      = count-append t (before ++ x ∷ []) xs ys ∙ ap (λ (b : List A). count_places t (before ++ x ∷ []) xs + count_places t b ys) (passed before x xs) in
      elim (cases_Bool (t before x)) [
        | inl h ↦ rw h (omega arith)
        | inr h ↦ rw h more
      ]

  pub stands-push : (t : List A → A → Bool) (before xs : List A) (x : A) → stands t before (xs ++ x ∷ []) ≡ cond (stands t before xs) true (t (before ++ xs) x)
  stands-push t before xs x = elim (cases_Bool (t (before ++ xs) x)) [
    | inl h ↦ stands-append t before xs (x ∷ []) ∙ rw h refl
    | inr h ↦ stands-append t before xs (x ∷ []) ∙ rw h refl
  ]

  pub first-push : (other : A) (t : List A → A → Bool) (before xs : List A) (x : A)
      → first_where other t before (xs ++ x ∷ []) ≡ cond (stands t before xs) (first_where other t before xs) (cond (t (before ++ xs) x) x other)
  first-push other t before xs x = first-append other t before xs (x ∷ [])

  pub after-push : (t : List A → A → Bool) (before xs : List A) (x : A)
      → after_first t before (xs ++ x ∷ []) ≡ cond (stands t before xs) (after_first t before xs ++ x ∷ []) []
  after-push t before xs x = elim (cases_Bool (t (before ++ xs) x)) [
    | inl h ↦ after-append t before xs (x ∷ []) ∙ rw h refl
    | inr h ↦ after-append t before xs (x ∷ []) ∙ rw h refl
  ]

  pub count-push : (t : List A → A → Bool) (before xs : List A) (x : A)
      → count_places t before (xs ++ x ∷ []) ≡ cond (t (before ++ xs) x) (count_places t before xs + 1) (count_places t before xs)
  count-push t before xs x =
      let more : count_places t before (xs ++ x ∷ []) ≡ count_places t before xs + count_places t (before ++ xs) (x ∷ []) = count-append t before xs (x ∷ []) in
      more ∙ elim (cases_Bool (t (before ++ xs) x)) [
        | inl h ↦ rw h (omega arith)
        | inr h ↦ rw h (omega arith)
      ]

  -- prefixes
  pub prefix-append : (xs ys : List A) → IsPrefix xs (xs ++ ys)
  prefix-append xs ys = record { rest = ys; whole_is = refl }

  pub prefix-all : (xs : List A) → IsPrefix xs xs
  prefix-all xs = record { rest = []; whole_is = sym (append-nil xs) }

  pub prefix-through : (xs ys zs : List A) → IsPrefix xs ys → IsPrefix ys zs → IsPrefix xs zs
  prefix-through xs ys zs p q = record { rest = p.rest ++ q.rest; whole_is = q.whole_is ∙ (ap (λ (l : List A). l ++ q.rest) p.whole_is ∙ append_assoc xs p.rest q.rest) }

  pub prefix-cons : (x : A) (xs ys : List A) → IsPrefix xs ys → IsPrefix (x ∷ xs) (x ∷ ys)
  prefix-cons x xs ys p = record { rest = p.rest; whole_is = ap (λ (l : List A). x ∷ l) p.whole_is }

  -- a prefix in which the test holds decides what stands first
  pub stands-prefix : (t : List A → A → Bool) (xs ys : List A) → IsPrefix xs ys → stands t [] xs ≡ true → stands t [] ys ≡ true
  stands-prefix t xs ys p h = rw p.whole_is (stands-append t [] xs p.rest ∙ rw h refl)

  pub first-prefix : (other : A) (t : List A → A → Bool) (xs ys : List A) → IsPrefix xs ys → stands t [] xs ≡ true → first_where other t [] ys ≡ first_where other t [] xs
  first-prefix other t xs ys p h = rw p.whole_is (first-append other t [] xs p.rest ∙ rw h refl)

  -- what holds at each place holds there too with an element more in front
  pub each-shift : (Q R : List A → A → Type 0) (v : A) → ((before : List A) (x : A) → Q before x → R (v ∷ before) x)
      → (before xs : List A) → EachPlace Q before xs → EachPlace R (v ∷ before) xs
  each-shift Q R v f before [] e = tt
  each-shift Q R v f before (x ∷ xs) e = (f before x e.0, each-shift Q R v f (before ++ x ∷ []) xs e.1)

  -- what holds of every element by what stands before it holds at each place
  pub each-from : (Q : List A → A → Type 0) (before xs : List A)
      → ((front : List A) (x : A) (after : List A) → xs ≡ front ++ x ∷ after → Q (before ++ front) x) → EachPlace Q before xs
  each-from Q before [] f = tt
  each-from Q before (x ∷ xs) f = (
    subst (λ (b : List A). Q b x) (append-nil before) (f [] x xs refl),
    each-from Q (before ++ x ∷ []) xs
        (λ front y after e. subst (λ (b : List A). Q b y) (sym (append_assoc before (x ∷ []) front)) (f (x ∷ front) y after (ap (λ (l : List A). x ∷ l) e))),
  )

  -- no list but the empty one is a prefix of the empty one, and a prefix begins with the same element
  pub prefix-nil : (xs : List A) → IsPrefix xs [] → xs ≡ []
  prefix-nil [] p = refl
  prefix-nil (x ∷ xs) p = let bad : [] ≡ x ∷ (xs ++ p.rest) = p.whole_is in cc

  pub prefix-tail : (x y : A) (xs ys : List A) → IsPrefix (x ∷ xs) (y ∷ ys) → (x ≡ y) × IsPrefix xs ys
  prefix-tail x y xs ys p = let e : y ∷ ys ≡ x ∷ (xs ++ p.rest) = p.whole_is in (cc, record { rest = p.rest; whole_is = cc })
