-- What a pattern means, by rows over its ends.

use Rattle.std.proofs.Common.{◌≡◌, ◌∙◌, ◌++◌, ◌==◌, ◌-◌, Bool, List, [], ◌∷◌, ℕ, ap, false, length, arith, map, refl, reverse, subst, suc, sym, take, true, Some, ◌+◌, ◌<◌, get_or}
use Rattle.std.specs.Prelude.{◌&&◌, ◌||◌}
use Rattle.std.specs.List.{slice_get, zip}
use Rattle.std.specs.Option.{unwrap_or}
use Rattle.std.proofs.lemmas.Bool.{eqb-true}
use Rattle.std.proofs.lemmas.List.{map-append, map_more, take_more, reverse-append, reverse-reverse}
use Rattle.sshauth.specs.HostNames.{any_end, is_like, matches}
use Rattle.sshauth.specs.PatternRows.{first_row, next_row, row_after_any, row_after_one}

-- the row of a pattern: whether it means the last 0, 1, 2 .. bytes of a text
pub row_of : List ℕ → List ℕ → List Bool
row_of ps [] = matches ps [] ∷ []
row_of ps (b ∷ bs) = row_of ps bs ++ matches ps (b ∷ bs) ∷ []

-- ---- the pattern without bytes
no_more : (text : List ℕ) → map (λ (byte : ℕ). false) text ++ false ∷ [] ≡ false ∷ map (λ (byte : ℕ). false) text
no_more [] = refl
no_more (b ∷ bs) = ap (λ (row : List Bool). false ∷ row) (no_more bs)

-- one byte more of a text that is gone through
pub no_next : (text : List ℕ) (i d : ℕ) → i < length text
    → map (λ (byte : ℕ). false) (take (i + 1) text) ≡ map (λ (byte : ℕ). false) (take i text) ++ false ∷ []
no_next text i d h = map_more (λ (byte : ℕ). false) text i d h

pub row_of-none : (text : List ℕ) → row_of [] text ≡ first_row text
unfolding matches row_of
row_of-none [] = refl
row_of-none (b ∷ bs) = ap (λ (row : List Bool). row ++ false ∷ []) (row_of-none bs) ∙ ap (λ (row : List Bool). true ∷ row) (no_more bs)

-- ---- `*`
-- one of a row, or one before it
pub found_in : Bool → List Bool → Bool
found_in found [] = found
found_in found (x ∷ row) = found_in (found || x) row

pub found_in-more : (found : Bool) (row : List Bool) (x : Bool) → found_in found (row ++ x ∷ []) ≡ (found_in found row || x)
unfolding found_in
found_in-more found [] x = refl
found_in-more found (y ∷ row) x = found_in-more (found || y) row x

pub row_after_any-more : (found : Bool) (row : List Bool) (x : Bool) → row_after_any found (row ++ x ∷ []) ≡ row_after_any found row ++ (found_in found row || x) ∷ []
unfolding row_after_any found_in
row_after_any-more found [] x = refl
row_after_any-more found (y ∷ row) x = ap (λ (rest : List Bool). (found || y) ∷ rest) (row_after_any-more (found || y) row x)

-- one more of a row that is gone through
pub row_after_any_next : (row : List Bool) (i : ℕ) (d : Bool) → i < length row
    → row_after_any false (take (i + 1) row) ≡ row_after_any false (take i row) ++ (found_in false (take i row) || get_or row i d) ∷ []
row_after_any_next row i d h = rw (take_more row i d h) (row_after_any-more false (take i row) (get_or row i d))

pub found_in_next : (row : List Bool) (i : ℕ) (d : Bool) → i < length row
    → found_in false (take (i + 1) row) ≡ (found_in false (take i row) || get_or row i d)
found_in_next row i d h = rw (take_more row i d h) (found_in-more false (take i row) (get_or row i d))

pub nothing_yet : (row : List Bool) → row ≡ [] → (row ≡ row_after_any false []) × (false ≡ found_in false [])
unfolding row_after_any found_in
nothing_yet row e = (e, refl)

or-comm : (a b : Bool) → (a || b) ≡ (b || a)
or-comm true true = refl
or-comm true false = refl
or-comm false true = refl
or-comm false false = refl

found_in-row : (ps text : List ℕ) → found_in false (row_of ps text) ≡ any_end (matches ps) text
unfolding matches found_in row_of
found_in-row ps [] = refl
found_in-row ps (b ∷ bs) =
    found_in-more false (row_of ps bs) (matches ps (b ∷ bs))
    ∙ (ap (λ (found : Bool). found || matches ps (b ∷ bs)) (found_in-row ps bs) ∙ or-comm (any_end (matches ps) bs) (matches ps (b ∷ bs)))

row_of-any : (ps text : List ℕ) → row_of (42 ∷ ps) text ≡ row_after_any false (row_of ps text)
unfolding matches row_after_any row_of
row_of-any ps [] = refl
row_of-any ps (b ∷ bs) =
    ap (λ (row : List Bool). row ++ any_end (matches ps) (b ∷ bs) ∷ []) (row_of-any ps bs)
    ∙ (ap (λ (found : Bool). row_after_any false (row_of ps bs) ++ found ∷ []) (or-comm (matches ps (b ∷ bs)) (any_end (matches ps) bs))
    ∙ (ap (λ (found : Bool). row_after_any false (row_of ps bs) ++ (found || matches ps (b ∷ bs)) ∷ []) (sym (found_in-row ps bs))
    ∙ sym (row_after_any-more false (row_of ps bs) (matches ps (b ∷ bs)))))

-- ---- another byte
-- a row without its last answer
front : List ℕ → List ℕ → List Bool
front ps [] = []
front ps (b ∷ bs) = row_of ps bs

row_of-front : (ps text : List ℕ) → row_of ps text ≡ front ps text ++ matches ps text ∷ []
unfolding front row_of
row_of-front ps [] = refl
row_of-front ps (b ∷ bs) = refl

long_more : {A : Type 0} (xs : List A) (x : A) → length (xs ++ x ∷ []) ≡ suc (length xs)
long_more [] x = refl
long_more (y ∷ xs) x = ap suc (long_more xs x)

row_of-long : (ps text : List ℕ) → length (row_of ps text) ≡ suc (length text)
unfolding row_of
row_of-long ps [] = refl
row_of-long ps (b ∷ bs) = long_more (row_of ps bs) (matches ps (b ∷ bs)) ∙ ap suc (row_of-long ps bs)

front-long : (ps text : List ℕ) → length (front ps text) ≡ length text
unfolding front
front-long ps [] = refl
front-long ps (b ∷ bs) = row_of-long ps bs

reverse-long : (text : List ℕ) → length (reverse text) ≡ length text
reverse-long [] = refl
reverse-long (b ∷ bs) = ap (λ (l : List ℕ). length l) (reverse-append (b ∷ []) bs) ∙ (long_more (reverse bs) b ∙ ap suc (reverse-long bs))

zip-more : (text : List ℕ) (row : List Bool) (b : ℕ) (x y : Bool) → length text ≡ length row
    → zip (text ++ b ∷ []) ((row ++ x ∷ []) ++ y ∷ []) ≡ zip text (row ++ x ∷ []) ++ (b, x) ∷ []
zip-more [] [] b x y e = refl
zip-more [] (z ∷ row) b x y e = absurd (omega (arith, e))
zip-more (c ∷ text) [] b x y e = absurd (omega (arith, e))
zip-more (c ∷ text) (z ∷ row) b x y e = ap (λ (rest : List (ℕ × Bool)). (c, z) ∷ rest) (zip-more text row b x y (omega (arith, e)))

-- the answers of a byte, one by one
answers : ℕ → List ℕ → List Bool → List Bool
answers p text row = map (λ (pair : ℕ × Bool). is_like p pair.0 && pair.1) (zip text row)

answers-more : (p : ℕ) (ps : List ℕ) (b : ℕ) (bs : List ℕ) (y : Bool)
    → answers p (reverse bs ++ b ∷ []) (row_of ps bs ++ y ∷ []) ≡ answers p (reverse bs) (row_of ps bs) ++ (is_like p b && matches ps bs) ∷ []
unfolding answers
answers-more p ps b bs y = rw (row_of-front ps bs)
    (ap (λ (pairs : List (ℕ × Bool)). map (λ (pair : ℕ × Bool). is_like p pair.0 && pair.1) pairs)
    (zip-more (reverse bs) (front ps bs) b (matches ps bs) y (reverse-long bs ∙ sym (front-long ps bs)))
    ∙ map-append (λ (pair : ℕ × Bool). is_like p pair.0 && pair.1) (zip (reverse bs) (front ps bs ++ matches ps bs ∷ [])) ((b, matches ps bs) ∷ []))

row_of-one : (p : ℕ) (ps text : List ℕ) → (p == 42) ≡ false → row_of (p ∷ ps) text ≡ row_after_one p (reverse text) (row_of ps text)
unfolding matches row_of answers
row_of-one p ps [] e = rw e refl
row_of-one p ps (b ∷ bs) e = rw e
    (ap (λ (row : List Bool). row ++ (is_like p b && matches ps bs) ∷ []) (row_of-one p ps bs e)
    ∙ ap (λ (row : List Bool). false ∷ row)
    (sym (answers-more p ps b bs (matches ps (b ∷ bs))) ∙ ap (λ (text : List ℕ). answers p text (row_of ps (b ∷ bs))) (sym (reverse-append (b ∷ []) bs))))

-- ---- the next row, and what the last one says
pub row_of-next : (p : ℕ) (ps text : List ℕ) → row_of (p ∷ ps) text ≡ next_row p (reverse text) (row_of ps text)
row_of-next p ps text = by (p == 42) refl where
  by : (any : Bool) → (p == 42) ≡ any → row_of (p ∷ ps) text ≡ next_row p (reverse text) (row_of ps text)
  by true e = subst (λ (n : ℕ). row_of (n ∷ ps) text ≡ next_row n (reverse text) (row_of ps text)) (sym (eqb-true p 42 e)) (row_of-any ps text)
  by false e = rw e (row_of-one p ps text e)

last_more : (row : List Bool) (x : Bool) → slice_get (row ++ x ∷ []) (length row) ≡ Some x
last_more [] x = refl
last_more (y ∷ row) x = last_more row x

less_one : (n : ℕ) → suc n - 1 ≡ n
less_one n = omega arith

pub row_of-last : (ps text : List ℕ) → unwrap_or (slice_get (row_of ps text) (length (row_of ps text) - 1)) false ≡ matches ps text
row_of-last ps text =
    rw (row_of-front ps text, long_more (front ps text) (matches ps text), less_one (length (front ps text)), last_more (front ps text) (matches ps text)) refl

-- one byte more of the pattern in front of those so far
pub row_more : {W : Type 0} (now : W → ℕ) (seen : List W) (byte : W) (text turned : List ℕ) (before after : List Bool)
    → before ≡ row_of (reverse (map now seen)) text → turned ≡ reverse text → after ≡ next_row (now byte) turned before
    → after ≡ row_of (reverse (map now (seen ++ byte ∷ []))) text
row_more now seen byte text turned before after e t step =
    step
    ∙ (ap (λ (row : List Bool). next_row (now byte) turned row) e
    ∙ (ap (λ (bytes : List ℕ). next_row (now byte) bytes (row_of (reverse (map now seen)) text)) t
    ∙ (sym (row_of-next (now byte) (reverse (map now seen)) text)
    ∙ ap (λ (ps : List ℕ). row_of ps text) (sym (ap (λ (ps : List ℕ). reverse ps) (map-append now seen (byte ∷ [])) ∙ reverse-append (map now seen) (now byte ∷ []))))))

-- the row of the whole pattern, which was gone through from its end
pub row_whole : (pattern seen text : List ℕ) (row : List Bool) → row ≡ row_of (reverse seen) text → seen ≡ reverse pattern
    → unwrap_or (slice_get row (length row - 1)) false ≡ matches pattern text
row_whole pattern seen text row e whole = rw (e, whole, reverse-reverse pattern) (row_of-last pattern text)
