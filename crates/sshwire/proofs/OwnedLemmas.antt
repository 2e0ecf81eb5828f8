-- What follows from the clauses of `owned`, and of other generic functions that answer a result.

use Rattle.std.proofs.Common.{◌≡◌, Result, Ok, Err, sym, subst}
use Rattle.std.specs.Result.{IfErr, IfOk, OnOk}

module _ {T E : Type 0} where
  -- what is true of a value that is there
  pub there : (r : Result T E) (Q : T → Type 0) (v : T) → r ≡ Ok v → IfOk r Q → Q v
  there r Q v is q = subst (λ (d : Result T E). IfOk d Q) is q

  -- what is true of the fault that is told
  pub told : (r : Result T E) (Q : E → Type 0) (e : E) → r ≡ Err e → IfErr r Q → Q e
  told r Q e is q = subst (λ (d : Result T E). IfErr d Q) is q

  -- what is true where all went well
  pub done_ok : {P : Type 0} (r : Result T E) (v : T) → r ≡ Ok v → OnOk r P → P
  done_ok {P} r v is p = subst (λ (d : Result T E). OnOk d P) is p

  -- what is true of the value in each case
  pub once_always : (r : Result T E) (Q : T → Type 0) (value : T) → IfOk r (λ v. v ≡ value) → Q value → IfOk r Q
  once_always (Ok v) Q value is q = subst Q (sym is) q
  once_always (Err e) Q value is q = tt

  -- what follows where all went well
  pub where_ok : {P Q : Type 0} (r : Result T E) → OnOk r P → (P → Q) → OnOk r Q
  where_ok (Ok x) p f = f p
  where_ok (Err e) p f = tt

  pub where_both : {P Q R : Type 0} (r : Result T E) → OnOk r P → OnOk r Q → (P → Q → R) → OnOk r R
  where_both (Ok x) p q f = f p q
  where_both (Err e) p q f = tt

  pub where_all : {P Q R S : Type 0} (r : Result T E) → OnOk r P → OnOk r Q → OnOk r R → (P → Q → R → S) → OnOk r S
  where_all (Ok x) p q s f = f p q s
  where_all (Err e) p q s f = tt

  -- beside what is true anyhow
  pub with_first : {P : Type 0} (r : Result T E) (Q : T → Type 0) → P → IfOk r Q → IfOk r (λ v. P × Q v)
  with_first (Ok v) Q p q = (p, q)
  with_first (Err e) Q p q = tt

module _ {T U E : Type 0} where
  -- what is true of the value once it is done
  pub once_ok : (r : Result T E) (Q : T → Type 0) (u : U) (done : Result U E) (value : T) → IfOk r (λ v. v ≡ value) → IfOk r (λ _. done ≡ Ok u) → OnOk done (Q value) → IfOk r Q
  once_ok (Ok v) Q u done value is was q = subst Q (sym is) (there done (λ _. Q value) u was q)
  once_ok (Err e) Q u done value is was q = tt

  -- what is true of both
  pub beside_ok : (r : Result (T × U) E) (Q : T → U → Type 0) (other : Result U E) (first : T) → IfOk r (λ two. two.0 ≡ first) → IfOk r (λ two. other ≡ Ok two.1)
      → IfOk other (λ o. Q first o) → IfOk r (λ two. Q two.0 two.1)
  beside_ok (Ok two) Q other first is was q = subst (λ (a : T). Q a two.1) (sym is) (there other (λ o. Q first o) two.1 was q)
  beside_ok (Err e) Q other first is was q = tt
