-- The first test that fails, in the order of numbers, is of the least refusal.

use Rattle.std.proofs.Common.{◌≡◌, ℕ, ◌+◌, ◌<◌, ◌≤◌, inl, inr, ◌⊎◌, Bool, true, false, not, List, [], ◌∷◌, Option, None, Some, refl, sym, ap, ◌∙◌, arith, subst}
use Rattle.std.specs.Bool.{Decides}
use Rattle.std.specs.List.{find}
use Rattle.std.proofs.lemmas.Bool.{cases_Bool, both_ways}
use Rattle.sshcore.specs.declared.config_fault.ConfigFault.{ConfigFault}
use Rattle.sshcore.specs.declared.config_fault.ConfigFault.TheVariants as fault
use Rattle.sshcore.specs.ConfigRules.{IsLeastBroken, rule_number}
use Rattle.sshcore.specs.ConfigTests.{judged, refusal}

IsIn : ConfigFault → List ConfigFault → Type 0
IsIn code [] = ⊥
IsIn code (x ∷ xs) = (code ≡ x) ⊎ IsIn code xs

-- their numbers ascend, from n on
AreNumbered : ℕ → List ConfigFault → Type 0
AreNumbered n [] = Unit {0}
AreNumbered n (x ∷ xs) = (n ≤ rule_number x) × AreNumbered (rule_number x + 1) xs

from_first : (n : ℕ) (xs : List ConfigFault) → AreNumbered n xs → (code : ConfigFault) → IsIn code xs → n ≤ rule_number code
unfolding IsIn AreNumbered
from_first n [] h code i = elim i [ ]
from_first n (x ∷ xs) h code (inl e) = let is : rule_number code ≡ rule_number x = ap rule_number e in let first : n ≤ rule_number x = h.0 in omega arith
from_first n (x ∷ xs) h code (inr i) =
    let first : n ≤ rule_number x = h.0 in
    let later : rule_number x + 1 ≤ rule_number code = from_first (rule_number x + 1) xs h.1 code i in
    omega arith

record IsFirst (test : ConfigFault → Bool) (xs : List ConfigFault) (code : ConfigFault) : Type 0 where
  fails : test code ≡ false
  least : (other : ConfigFault) → IsIn other xs → rule_number other < rule_number code → test other ≡ true

some_same : (x y : ConfigFault) → ◌≡◌ {A = Option ConfigFault} (Some x) (Some y) → x ≡ y
some_same x y e = cc

later : (test : ConfigFault → Bool) (x : ConfigFault) (xs : List ConfigFault) (code : ConfigFault) → test x ≡ true → IsFirst test xs code
    → (other : ConfigFault) → IsIn other (x ∷ xs) → rule_number other < rule_number code → test other ≡ true
unfolding IsIn
later test x xs code t first other (inl e) less = ap test e ∙ t
later test x xs code t first other (inr i) less = first.least other i less

first_failing : (test : ConfigFault → Bool) (n : ℕ) (xs : List ConfigFault) → AreNumbered n xs → (code : ConfigFault)
    → find (λ c. not (test c)) xs ≡ Some code → IsFirst test xs code
unfolding AreNumbered
first_failing test n [] h code e = absurd cc
first_failing test n (x ∷ xs) h code e = elim (cases_Bool (test x)) [
  | inl t ↦
      let rest : find (λ c. not (test c)) xs ≡ Some code = rw t at e in
      let first : IsFirst test xs code = first_failing test (rule_number x + 1) xs h.1 code rest in
      record { fails = first.fails; least = later test x xs code t first }
  | inr f ↦
      let here : Some x ≡ Some code = rw f at e in
      let is : x ≡ code = some_same x code here in
      let same : rule_number x ≡ rule_number code = ap rule_number is in
      record {
        fails = ap test (sym is) ∙ f;
        least = λ other i less. let after : rule_number x ≤ rule_number other = from_first (rule_number x) (x ∷ xs) (omega arith, h.1) other i in absurd (omega arith);
      }
]

none_failing : (test : ConfigFault → Bool) (xs : List ConfigFault) → find (λ c. not (test c)) xs ≡ None
    → (code : ConfigFault) → IsIn code xs → test code ≡ true
unfolding IsIn
none_failing test [] e code i = elim i [ ]
none_failing test (x ∷ xs) e code i = elim (cases_Bool (test x)) [
  | inl t ↦ let rest : find (λ c. not (test c)) xs ≡ None = rw t at e in elim i [
    | inl is ↦ ap test is ∙ t
    | inr j ↦ none_failing test xs rest code j
  ]
  | inr f ↦ let bad : Some x ≡ None = rw f at e in absurd cc
]

among : (code : ConfigFault) → (code ≡ fault.Memory) ⊎ IsIn code judged
unfolding IsIn
among fault.EmptyList = inr (inl refl)
among fault.Name = inr (inr (inl refl))
among fault.ListTooLong = inr (inr (inr (inl refl)))
among fault.Line = inr (inr (inr (inr (inl refl))))
among fault.User = inr (inr (inr (inr (inr (inl refl)))))
among fault.Secret = inr (inr (inr (inr (inr (inr (inl refl))))))
among fault.Blob = inr (inr (inr (inr (inr (inr (inr (inl refl)))))))
among fault.Plan = inr (inr (inr (inr (inr (inr (inr (inr (inl refl))))))))
among fault.Tries = inr (inr (inr (inr (inr (inr (inr (inr (inr (inl refl)))))))))
among fault.Random = inr (inr (inr (inr (inr (inr (inr (inr (inr (inr (inl refl))))))))))
among fault.Memory = inl refl
among fault.Required = inr (inr (inr (inr (inr (inr (inr (inr (inr (inr (inr (inl refl)))))))))))

numbered : AreNumbered 1 judged
unfolding AreNumbered
numbered = (omega arith, (omega arith, (omega arith, (omega arith, (omega arith, (omega arith, (omega arith, (omega arith, (omega arith, (omega arith, (omega arith, tt)))))))))))

-- the refusal that is told is broken, and no lesser one is
pub refused : (Rule : ConfigFault → Type 0) (test : ConfigFault → Bool) → ((code : ConfigFault) → Decides (test code) (Rule code))
    → Rule fault.Memory → (code : ConfigFault) → refusal test ≡ Some code → IsLeastBroken Rule code
refused Rule test decides memory code e =
    let first : IsFirst test judged code = first_failing test 1 judged numbered code e in
    record {
      broken = λ rule. both_ways (test code) first.fails ((decides code).1 rule);
      least = λ other less. elim (among other) [
        | inl is ↦ subst Rule (sym is) memory
        | inr i ↦ (decides other).0 (first.least other i less)
      ];
    }

-- where none is told, every rule is kept
pub all_kept : (Rule : ConfigFault → Type 0) (test : ConfigFault → Bool) → ((code : ConfigFault) → Decides (test code) (Rule code))
    → Rule fault.Memory → refusal test ≡ None → (code : ConfigFault) → Rule code
all_kept Rule test decides memory e code = elim (among code) [
  | inl is ↦ subst Rule (sym is) memory
  | inr i ↦ (decides code).0 (none_failing test judged e code i)
]
