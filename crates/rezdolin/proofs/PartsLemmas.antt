-- Entries that are written one after the other.

use Rattle.std.proofs.Common.{◌≡◌, ◌∙◌, ◌+◌, ◌<◌, ◌==◌, ◌&&◌, ℕ, codes, List, [], ◌∷◌, ◌++◌, ap, arith, get_or, length, refl, suc, sym, take, zero}
use Rattle.std.proofs.lemmas.List.{append-nil}
use Rattle.std.specs.Str.{bytes_eq}
use Rattle.sshcore.specs.RecordText.{Adds}
use Rattle.sshsuite.specs.Deployed.{is_ed25519, is_held as suite_holds}
use Rattle.rezdolin.specs.PartsText.{each_text}
use Rattle.rezdolin.specs.Refusals.{is_held}

each_more : {X : Type 0} (text : X → List ℕ → List ℕ) (xs : List X) (i : ℕ) (d : X) (rest : List ℕ) → i < length xs
    → each_text text (take i xs) (text (get_or xs i d) rest) ≡ each_text text (take (i + 1) xs) rest
each_more text [] i d rest low = absurd (omega (arith, low))
each_more text (x ∷ xs) zero d rest low = refl
each_more text (x ∷ xs) (suc i) d rest low =
    let next : suc (i + 1) ≡ suc i + 1 = omega arith in
    ap (text x) (each_more text xs i d rest (omega (arith, low))) ∙ ap (λ (n : ℕ). each_text text (take n (x ∷ xs)) rest) next

-- one entry more, after what stands in front
pub each_step : {X : Type 0} (front : List ℕ → List ℕ) (text : X → List ℕ → List ℕ) (xs : List X) (i : ℕ) (d : X) (old mid new : List ℕ) → i < length xs
    → Adds (λ rest. front (each_text text (take i xs) rest)) old mid → Adds (text (get_or xs i d)) mid new
    → Adds (λ rest. front (each_text text (take (i + 1) xs) rest)) old new
each_step front text xs i d old mid new low first next = λ rest.
    next rest ∙ (first (text (get_or xs i d) rest) ∙ ap (λ (l : List ℕ). old ++ front l) (each_more text xs i d rest low))

-- the private keys that the suite holds
pub held_is : (algorithm key : List ℕ) → is_held algorithm key ≡ (bytes_eq algorithm (codes "ssh-ed25519") && (length key == 32))
unfolding suite_holds is_ed25519
held_is algorithm key = refl

-- what was added to nothing
pub whole_text : (text : List ℕ → List ℕ) (old new : List ℕ) → old ≡ [] → Adds text old new → new ≡ text []
whole_text text old new none adds = sym (append-nil new) ∙ (adds [] ∙ ap (λ (l : List ℕ). l ++ text []) none)

-- one text after another
pub adds_six : (t1 t2 t3 t4 t5 t6 : List ℕ → List ℕ) (x0 x1 x2 x3 x4 x5 x6 : List ℕ)
    → Adds t1 x0 x1 → Adds t2 x1 x2 → Adds t3 x2 x3 → Adds t4 x3 x4 → Adds t5 x4 x5 → Adds t6 x5 x6 → Adds (λ rest. t1 (t2 (t3 (t4 (t5 (t6 rest)))))) x0 x6
adds_six t1 t2 t3 t4 t5 t6 x0 x1 x2 x3 x4 x5 x6 e1 e2 e3 e4 e5 e6 = λ rest. e6 rest ∙ (e5 (t6 rest) ∙ (e4 (t5 (t6 rest)) ∙ (e3 (t4 (t5 (t6 rest))) ∙ (e2 (t3 (t4 (t5 (t6 rest)))) ∙ (e1 (t2 (t3 (t4 (t5 (t6 rest))))))))))

pub adds_ten : (t1 t2 t3 t4 t5 t6 t7 t8 t9 t10 : List ℕ → List ℕ) (x0 x1 x2 x3 x4 x5 x6 x7 x8 x9 x10 : List ℕ)
    → Adds t1 x0 x1 → Adds t2 x1 x2 → Adds t3 x2 x3 → Adds t4 x3 x4 → Adds t5 x4 x5 → Adds t6 x5 x6 → Adds t7 x6 x7 → Adds t8 x7 x8 → Adds t9 x8 x9 → Adds t10 x9 x10 → Adds (λ rest. t1 (t2 (t3 (t4 (t5 (t6 (t7 (t8 (t9 (t10 rest)))))))))) x0 x10
adds_ten t1 t2 t3 t4 t5 t6 t7 t8 t9 t10 x0 x1 x2 x3 x4 x5 x6 x7 x8 x9 x10 e1 e2 e3 e4 e5 e6 e7 e8 e9 e10 = λ rest. e10 rest ∙ (e9 (t10 rest) ∙ (e8 (t9 (t10 rest)) ∙ (e7 (t8 (t9 (t10 rest))) ∙ (e6 (t7 (t8 (t9 (t10 rest)))) ∙ (e5 (t6 (t7 (t8 (t9 (t10 rest))))) ∙ (e4 (t5 (t6 (t7 (t8 (t9 (t10 rest)))))) ∙ (e3 (t4 (t5 (t6 (t7 (t8 (t9 (t10 rest))))))) ∙ (e2 (t3 (t4 (t5 (t6 (t7 (t8 (t9 (t10 rest)))))))) ∙ (e1 (t2 (t3 (t4 (t5 (t6 (t7 (t8 (t9 (t10 rest))))))))))))))))))
