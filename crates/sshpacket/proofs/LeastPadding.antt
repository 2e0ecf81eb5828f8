-- The least padding against its closed form.

use Rattle.std.proofs.Common.{◌≡◌, ◌≢◌, ℕ, ◌+◌, ◌-◌, ◌%◌, ◌<◌, ◌≤◌, Bool, true, false, refl, sym, ap, ◌∙◌, arith, cond, ltb, eqb}
use Rattle.std.proofs.Math.Nat.{add-mod_right, le-max_left, mod-add-mod, mod-eq_of_lt, mod_self}
use Rattle.std.proofs.lemmas.Bool.{eqb-false, eqb-true, ltb-false, ltb-true}
use Rattle.std.proofs.lemmas.Nat.{mod_below}
use Rattle.sshpacket.specs.Packet.{IsLeastPadding, IsPadding, counted, least_padding, to_multiple, alignment, with_four}

-- what lies a little after a multiple isn't one
after_multiple : (u n j : ℕ) → n % u + j < u → (n + j) % u ≡ n % u + j
after_multiple u n j h = sym (mod-add-mod n u j) ∙ mod-eq_of_lt h

-- with what is missing it is a multiple
pub to_multiple_is : (u n : ℕ) (b : Bool) → 0 < u → eqb (n % u) 0 ≡ b → (n + to_multiple u n) % u ≡ 0
to_multiple_is u n true some t =
    let none : n % u ≡ 0 = eqb-true (n % u) 0 t in
    let gap : u - n % u ≡ u = omega (arith, none) in
    let missing : to_multiple u n ≡ u % u = ap (λ (r : ℕ). r % u) gap in
    let zero_more : n + to_multiple u n ≡ n = (let m : to_multiple u n ≡ 0 = missing ∙ mod_self u in omega arith) in
    ap (λ (k : ℕ). k % u) zero_more ∙ none
to_multiple_is u n false some f =
    let more : n % u ≢ 0 = eqb-false (n % u) 0 f in
    let below : n % u < u = mod_below n u some in
    let less : u - n % u < u = omega (arith, more) in
    let missing : to_multiple u n ≡ u - n % u = mod-eq_of_lt less in
    let whole : n % u + to_multiple u n ≡ u = omega (arith, missing, below) in
    sym (mod-add-mod n u (to_multiple u n)) ∙ (ap (λ (k : ℕ). k % u) whole ∙ mod_self u)

-- no fewer do
missing_of : (u n : ℕ) → 0 < u → n % u ≢ 0 → to_multiple u n ≡ u - n % u
missing_of u n some more =
    let less : u - n % u < u = (let below : n % u < u = mod_below n u some in omega (arith, more)) in
    mod-eq_of_lt less

too_few : (u n j : ℕ) (b : Bool) → 0 < u → n % u ≢ 0 → (n + j) % u ≡ 0 → ltb (n % u + j) u ≡ b → to_multiple u n ≤ j
too_few u n j true some more e t =
    let short : n % u + j < u = ltb-true (n % u + j) u t in
    let same : 0 ≡ n % u + j = sym e ∙ after_multiple u n j short in
    absurd (more (omega (arith, same)))
too_few u n j false some more e t =
    let long : u ≤ n % u + j = ltb-false (n % u + j) u t in
    let missing : to_multiple u n ≡ u - n % u = missing_of u n some more in
    omega (arith, missing, long)

pub to_multiple_least : (u n j : ℕ) (b : Bool) → 0 < u → eqb (n % u) 0 ≡ b → (n + j) % u ≡ 0 → to_multiple u n ≤ j
to_multiple_least u n j true some t e =
    let none : n % u ≡ 0 = eqb-true (n % u) 0 t in
    let gap : u - n % u ≡ u = omega (arith, none) in
    let missing : to_multiple u n ≡ 0 = ap (λ (r : ℕ). r % u) gap ∙ mod_self u in
    omega (arith, missing)
to_multiple_least u n j false some f e = too_few u n j (ltb (n % u + j) u) some (eqb-false (n % u) 0 f) e refl

-- the next multiple is a whole unit away
pub next_multiple : (u n j : ℕ) (b : Bool) → n % u ≡ 0 → (n + j) % u ≡ 0 → 0 < j → ltb j u ≡ b → u ≤ j
next_multiple u n j true e f some t =
    let short : j < u = ltb-true j u t in
    let low : n % u + j < u = omega (arith, e, short) in
    let same : 0 ≡ n % u + j = sym f ∙ after_multiple u n j low in
    omega (arith, same, some)
next_multiple u n j false e f some t = ltb-false j u t

-- packet_length has four bytes at most that count
pub counted_high : (counts : Bool) → counted counts ≤ 4
counted_high true = omega arith
counted_high false = omega arith

module _ (counts : Bool) (block len : ℕ) where
  abbrev u : ℕ
  u = alignment block

  abbrev n : ℕ
  n = with_four counts len

  wide : 8 ≤ u
  wide = le-max_left 8 block

  some : 0 < u
  some = omega (arith, wide)

  up : (n + to_multiple u n) % u ≡ 0
  up = to_multiple_is u n (eqb (n % u) 0) some refl

  reached : (padding : ℕ) → IsPadding counts block len padding → to_multiple u n ≤ padding - 4
  reached padding h =
      let low : 4 ≤ padding = h.low in
      let same : counted counts + (1 + len + padding) ≡ n + (padding - 4) = omega arith in
      to_multiple_least u n (padding - 4) (eqb (n % u) 0) some refl (ap (λ (k : ℕ). k % u) (sym same) ∙ h.multiple)

  plain : 8 + counted counts ≤ 5 + len + to_multiple u n → IsLeastPadding counts block len (4 + to_multiple u n)
  plain enough = record {
    allowed = record {
      low = omega arith;
      multiple = (let same : counted counts + (1 + len + (4 + to_multiple u n)) ≡ n + to_multiple u n = omega arith in ap (λ (k : ℕ). k % u) same ∙ up);
      enough = omega (arith, enough);
    };
    least = λ other h.
        let below : to_multiple u n ≤ other - 4 = reached other h in
        let low : 4 ≤ other = h.low in
        omega arith;
  }

  one_more : 5 + len + to_multiple u n < 8 + counted counts → IsLeastPadding counts block len (4 + to_multiple u n + u)
  one_more few = record {
    allowed = record {
      low = omega arith;
      multiple = (let same : counted counts + (1 + len + (4 + to_multiple u n + u)) ≡ n + to_multiple u n + u = omega arith in
          ap (λ (k : ℕ). k % u) same ∙ (add-mod_right (n + to_multiple u n) u ∙ up));
      enough = (let high : counted counts ≤ 4 = counted_high counts in omega (arith, wide));
    };
    least = λ other h.
        let below : to_multiple u n ≤ other - 4 = reached other h in
        let low : 4 ≤ other = h.low in
        let enough : 8 + counted counts ≤ 1 + len + other = h.enough in
        let more : ℕ = other - 4 - to_multiple u n in
        let same : counted counts + (1 + len + other) ≡ n + to_multiple u n + more = omega arith in
        let further : (n + to_multiple u n + more) % u ≡ 0 = ap (λ (k : ℕ). k % u) (sym same) ∙ h.multiple in
        let away : u ≤ more = next_multiple u (n + to_multiple u n) more (ltb more u) up further (omega arith) refl in
        omega (arith, away, below);
  }

  least_by : (b : Bool) → ltb (5 + len + to_multiple u n) (8 + counted counts) ≡ b
      → IsLeastPadding counts block len (cond b (4 + to_multiple u n + u) (4 + to_multiple u n))
  least_by true t = one_more (ltb-true (5 + len + to_multiple u n) (8 + counted counts) t)
  least_by false f = plain (ltb-false (5 + len + to_multiple u n) (8 + counted counts) f)

pub least_is : (counts : Bool) (block len : ℕ) → IsLeastPadding counts block len (least_padding counts block len)
least_is counts block len =
    least_by counts block len (ltb (5 + len + to_multiple (u counts block len) (n counts block len)) (8 + counted counts)) refl

pub least_from : (counts : Bool) (block len padding : ℕ) → padding ≡ least_padding counts block len → IsLeastPadding counts block len padding
least_from counts block len padding e = rw e (least_is counts block len)
