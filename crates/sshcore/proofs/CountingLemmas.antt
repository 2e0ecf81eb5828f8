-- The number of the next packet, with one payload more.

use Rattle.std.proofs.Common.{◌≡◌, ◌⊎◌, inl, inr, ℕ, ◌+◌, ◌-◌, Bool, true, false, cond, List, [], ◌∷◌, ◌++◌, drop, length, length-append, arith, refl, sym, ap, ◌∙◌}
use Rattle.std.specs.Prelude.{◌%◌, ◌^◌}
use Rattle.std.proofs.Math.Nat.{suc-mod}
use Rattle.std.proofs.Math.Numerals.{add-one}
use Rattle.std.proofs.Math.Seq.{drop-append_seam}
use Rattle.std.proofs.lemmas.List.{append-nil, drop-append-le}
use Rattle.sshneg.specs.declared.side.Side.{Side}
use Rattle.sshpacket.specs.Places.{after_first}
use Rattle.sshpacket.specs.Stream.{Units}
use Rattle.sshpacket.proofs.Places.{after-push}
use Rattle.sshcore.specs.Before.{kept, offered, since, stood, strict_at}
use Rattle.sshcore.specs.Counting.{number_by, number_in}
use Rattle.sshcore.specs.Directions.{sizes_since}
use Rattle.sshcore.specs.EndpointParts.{ConfigData}
use Rattle.sshcore.proofs.GuessLemmas.{strict_push}
use Rattle.sshcore.proofs.PhaseLemmas.{stood_push}

pub mod_more : (n : ℕ) → (n + 1) % 2 ^ 32 ≡ (n % 2 ^ 32 + 1) % 2 ^ 32
mod_more n = ap (λ k. k % 2 ^ 32) (add-one n) ∙ suc-mod n (2 ^ 32) ∙ ap (λ k. k % 2 ^ 32) (sym (add-one (n % 2 ^ 32)))

-- one more, whether counted anew or not
pub counted : (strict : Bool) (since all : ℕ) → number_by true strict (since + 1) (all + 1) ≡ (number_by true strict since all + 1) % 2 ^ 32
counted true since all = mod_more since
counted false since all = mod_more all

pub switched : (strict : Bool) (all : ℕ) → number_by true strict 0 (all + 1) ≡ cond strict 0 ((number_by false strict 0 all + 1) % 2 ^ 32)
switched true all = refl
switched false all = mod_more all

module _ (role : Side) (config : ConfigData) (before : Units) (payload : List ℕ) where
  pub since_on : stood role config.offer 21 before ≡ true → since role config.offer 21 (before ++ payload ∷ []) ≡ since role config.offer 21 before + 1
  unfolding since stood
  since_on on =
      let more : after_first (kept role config.offer 21) [] (before ++ payload ∷ []) ≡ after_first (kept role config.offer 21) [] before ++ payload ∷ [] =
      after-push (kept role config.offer 21) [] before payload ∙ rw on refl in
      ap length more ∙ length-append (after_first (kept role config.offer 21) [] before) (payload ∷ [])

  pub since_off : stood role config.offer 21 before ≡ false → since role config.offer 21 (before ++ payload ∷ []) ≡ 0
  unfolding since stood
  since_off off =
      let none : after_first (kept role config.offer 21) [] (before ++ payload ∷ []) ≡ [] = after-push (kept role config.offer 21) [] before payload ∙ rw off refl in
      ap (λ (l : Units). length l) none

  -- of the sizes of all units, those since the key switch
  pub sizes_on : (sizes : List ℕ) (size : ℕ) → stood role config.offer 21 before ≡ true
      → sizes_since role config (before ++ payload ∷ []) (sizes ++ size ∷ []) ≡ sizes_since role config before sizes ++ size ∷ []
  sizes_on sizes size on =
      let all : length (sizes ++ size ∷ []) ≡ length sizes + 1 = length-append sizes (size ∷ []) in
      let more : since role config.offer 21 (before ++ payload ∷ []) ≡ since role config.offer 21 before + 1 = since_on on in
      let left : length (sizes ++ size ∷ []) - since role config.offer 21 (before ++ payload ∷ []) ≡ length sizes - since role config.offer 21 before = omega (arith, all, more) in
      ap (λ (n : ℕ). drop n (sizes ++ size ∷ [])) left ∙ drop-append-le (length sizes - since role config.offer 21 before) sizes (size ∷ []) (omega arith)

  pub sizes_off : (sizes : List ℕ) → stood role config.offer 21 before ≡ false → sizes_since role config (before ++ payload ∷ []) sizes ≡ []
  sizes_off sizes off =
      let none : since role config.offer 21 (before ++ payload ∷ []) ≡ 0 = since_off off in
      let left : length sizes - since role config.offer 21 (before ++ payload ∷ []) ≡ length sizes = omega (arith, none) in
      ap (λ (n : ℕ). drop n sizes) left ∙ (ap (λ (xs : List ℕ). drop (length sizes) xs) (sym (append-nil sizes)) ∙ drop-append_seam sizes [])

  -- the packet after the key switch
  pub number_switched : offered before ≡ true → stood role config.offer 21 before ≡ false → kept role config.offer 21 before payload ≡ true
      → number_in role config (before ++ payload ∷ []) ≡ cond (strict_at role config before) 0 ((number_in role config before + 1) % 2 ^ 32)
  number_switched is off here =
      let now : stood role config.offer 21 (before ++ payload ∷ []) ≡ true = stood_push role config.offer before payload 21 ∙ rw (off, here) refl in
      rw off (ap (λ (b : Bool). number_by b (strict_at role config (before ++ payload ∷ [])) (since role config.offer 21 (before ++ payload ∷ [])) (length (before ++ payload ∷ []))) now
      ∙ ap (λ (b : Bool). number_by true b (since role config.offer 21 (before ++ payload ∷ [])) (length (before ++ payload ∷ []))) (strict_push role config before payload is)
      ∙ ap (λ (n : ℕ). number_by true (strict_at role config before) n (length (before ++ payload ∷ []))) (since_off off)
      ∙ ap (λ (n : ℕ). number_by true (strict_at role config before) 0 n) (length-append before (payload ∷ []))
      ∙ switched (strict_at role config before) (length before))

  -- every other
  pub number_more : ((offered before ≡ true) × (stood role config.offer 21 before ≡ true)) ⊎ ((stood role config.offer 21 before ≡ false) × (kept role config.offer 21 before payload ≡ false))
      → number_in role config (before ++ payload ∷ []) ≡ (number_in role config before + 1) % 2 ^ 32
  number_more (inl t) =
      let on : stood role config.offer 21 before ≡ true = t.1 in
      let now : stood role config.offer 21 (before ++ payload ∷ []) ≡ true = stood_push role config.offer before payload 21 ∙ rw on refl in
      rw on (ap (λ (b : Bool). number_by b (strict_at role config (before ++ payload ∷ [])) (since role config.offer 21 (before ++ payload ∷ [])) (length (before ++ payload ∷ []))) now
      ∙ ap (λ (b : Bool). number_by true b (since role config.offer 21 (before ++ payload ∷ [])) (length (before ++ payload ∷ []))) (strict_push role config before payload t.0)
      ∙ ap (λ (n : ℕ). number_by true (strict_at role config before) n (length (before ++ payload ∷ []))) (since_on on)
      ∙ ap (λ (n : ℕ). number_by true (strict_at role config before) (since role config.offer 21 before + 1) n) (length-append before (payload ∷ []))
      ∙ counted (strict_at role config before) (since role config.offer 21 before) (length before))
  number_more (inr t) =
      let off : stood role config.offer 21 before ≡ false = t.0 in
      let not_kept : kept role config.offer 21 before payload ≡ false = t.1 in
      let now : stood role config.offer 21 (before ++ payload ∷ []) ≡ false = stood_push role config.offer before payload 21 ∙ rw (off, not_kept) refl in
      rw off (ap (λ (b : Bool). number_by b (strict_at role config (before ++ payload ∷ [])) (since role config.offer 21 (before ++ payload ∷ [])) (length (before ++ payload ∷ []))) now
      ∙ ap (λ (n : ℕ). n % 2 ^ 32) (length-append before (payload ∷ []))
      ∙ mod_more (length before))
