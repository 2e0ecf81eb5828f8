-- The places of a part, and what is sent from one on.

use Rattle.std.proofs.Common.{◌≡◌, ℕ, zero, suc, ◌+◌, ◌-◌, ◌<◌, ◌≤◌, ◌==◌, true, false, List, [], ◌∷◌, ◌++◌, length, refl, sym, ap, subst, ◌∙◌, arith, append_assoc, append-nil, length-append, eq-eqb}
use Rattle.std.proofs.lemmas.Bool.{ne_eqb}
use Rattle.sshpacket.specs.Places.{EachPlace, IsPrefix}
use Rattle.sshpacket.specs.Stream.{Units}
use Rattle.sshpacket.proofs.Places.{each-prefix, each-last}
use Rattle.sshcore.specs.EndData.{EndData, Reply, goes}
use Rattle.sshcore.specs.EndpointParts.{Setup}
use Rattle.sshcore.specs.Replies.{unit_reply}
use Rattle.sshworld.specs.Course.{Part, answers_to, group_at, sent_after}
use Rattle.sshworld.specs.Follows.{IsAsPart}

-- the shorter of two prefixes of one list is a prefix of the other
pub prefix_shorter : {A : Type 0} (xs ys r t : List A) → xs ++ r ≡ ys ++ t → length xs ≤ length ys → IsPrefix xs ys
prefix_shorter {A} [] ys r t e h = record { rest = ys; whole_is = refl }
prefix_shorter {A} (x ∷ xs) [] r t e h = absurd (omega (arith, h))
prefix_shorter {A} (x ∷ xs) (y ∷ ys) r t e h =
    let head : x ≡ y = cc (e) in
    let tail : xs ++ r ≡ ys ++ t = cc (e) in
    let f = prefix_shorter xs ys r t tail (omega (arith, h)) in
    record { rest = f.rest; whole_is = ap (λ (l : List A). y ∷ l) f.whole_is ∙ ap (λ (z : A). z ∷ (xs ++ f.rest)) (sym head) }

-- what holds at each place of a prefix holds at each place of the stream before its length
pub at_each : {A : Type 0} (Q : List A → A → Type 0) (received stream : List A) (n : ℕ) → length received ≡ n → IsPrefix received stream → EachPlace Q [] received
    → (before : List A) (unit : A) → IsPrefix (before ++ unit ∷ []) stream → length before < n → Q before unit
at_each {A} Q received stream n e f each before unit g h =
    let shorter : IsPrefix (before ++ unit ∷ []) received = prefix_shorter (before ++ unit ∷ []) received g.rest f.rest (sym g.whole_is ∙ f.whole_is) (omega (arith, length-append before (unit ∷ []), e, h)) in
    each-last Q [] before unit (each-prefix Q [] (before ++ unit ∷ []) shorter.rest (subst (λ (l : List A). EachPlace Q [] l) shorter.whole_is each))

-- what a function says from a place on, for so many places
abbrev pub from : (ℕ → Units) → ℕ → ℕ → Units
from f j zero = []
from f j (suc r) = f j ++ from f (suc j) r

pub answers_split : (f : ℕ → Units) (j r : ℕ) → answers_to f (j + r) ≡ answers_to f j ++ from f j r
answers_split f j zero = ap (λ (n : ℕ). answers_to f n) (let e : j + 0 ≡ j = omega arith in e) ∙ sym (append-nil (answers_to f j))
answers_split f j (suc r) =
    ap (λ (n : ℕ). answers_to f n) (let e : j + suc r ≡ suc j + r = omega arith in e)
    ∙ (answers_split f (suc j) r ∙ append_assoc (answers_to f j) (f j) (from f (suc j) r))

pub answers_from : (f : ℕ → Units) (n : ℕ) → answers_to f n ≡ from f 0 n
answers_from f n = ap (λ (k : ℕ). answers_to f k) (let e : n ≡ 0 + n = omega arith in e) ∙ answers_split f 0 n

-- the groups that come after others
pub group_after : (groups : List Units) (f : ℕ → Units) (i n : ℕ) → n ≡ length groups + i → group_at groups f n ≡ f i
group_after groups f i n e = ap (λ (k : ℕ). group_at groups f k) e ∙ here groups
  where
    here : (groups : List Units) → group_at groups f (length groups + i) ≡ f i
    here [] = ap (λ (k : ℕ). f k) (let z : 0 + i ≡ i = omega arith in z)
    here (g ∷ groups) = ap (λ (k : ℕ). group_at (g ∷ groups) f k) (let z : length (g ∷ groups) + i ≡ suc (length groups + i) = omega arith in z) ∙ here groups

-- what a side has sent at a place is a prefix of what it has sent at a later one
pub grows_to : (p : Part) (a b : ℕ) → a ≤ b → IsPrefix (sent_after p a) (sent_after p b)
grows_to p a b h =
    let e : b ≡ a + (b - a) = omega (arith, h) in
    record {
      rest = from p.group a (b - a);
      whole_is = ap (λ (k : ℕ). p.first ++ answers_to p.group k) e ∙ ap (λ (l : Units). p.first ++ l) (answers_split p.group a (b - a)) ∙ sym (append_assoc p.first (answers_to p.group a) (from p.group a (b - a)));
    }

pub grows : (p : Part) (n : ℕ) → n ≤ p.receives → IsPrefix (sent_after p n) (sent_after p p.receives)
grows p n h = grows_to p n p.receives h

-- an endpoint that replies so at a place is as its part has it there, where it goes on and where it ends
module _ (setup : Setup) (p : Part) (before : Units) (unit : List ℕ) where
  pub as_open : (answers : Units) → unit_reply setup before unit ≡ goes answers → p.group (length before) ≡ answers → suc (length before) < p.receives → IsAsPart setup p before unit
  as_open answers e g h = record {
    answer = ap (λ (r : Reply). r.answers) e ∙ sym g;
    end = ap (λ (r : Reply). r.end) e ∙ sym (let no_end : (suc (length before) == p.receives) ≡ false = ne_eqb (suc (length before)) p.receives (λ z. omega (arith, z, h)) in rw no_end refl);
  }

  pub as_last : (answers : Units) (end : EndData) → unit_reply setup before unit ≡ record { answers = answers; end = end } → p.group (length before) ≡ answers
      → suc (length before) ≡ p.receives → p.final ≡ end → IsAsPart setup p before unit
  as_last answers end e g h f = record {
    answer = ap (λ (r : Reply). r.answers) e ∙ sym g;
    end = ap (λ (r : Reply). r.end) e ∙ (sym f ∙ sym (let at_end : (suc (length before) == p.receives) ≡ true = eq-eqb (suc (length before)) p.receives h in rw at_end refl));
  }
