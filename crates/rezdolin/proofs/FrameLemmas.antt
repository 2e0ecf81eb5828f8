-- The frame round a record, cut into its parts.

use Rattle.std.proofs.Common.{◌≡◌, ◌≢◌, ◌∙◌, ◌<◌, ℕ, Bool, false, List, [], ◌∷◌, ◌++◌, ap, arith, drop, length, sym, take}
use Rattle.std.proofs.lemmas.Bool.{true≢false}
use Rattle.std.proofs.lemmas.List.{append_cancel_left, length-append, take-append-drop}
use Rattle.std.proofs.Math.Seq.{take-append_seam}
use Rattle.std.proofs.lemmas.Slice.Eq.{bytes_eq-Decides}
use Rattle.std.specs.Str.{bytes_eq}
use Rattle.rezdolin.specs.Frames.{IsFrameOf, framed}

heads : (a b c d : List ℕ) → length a ≡ length b → a ++ c ≡ b ++ d → a ≡ b
heads a b c d n e = sym (take-append_seam a c) ∙ (ap (λ (l : List ℕ). take (length a) l) e ∙ (ap (λ (k : ℕ). take k (b ++ d)) n ∙ take-append_seam b d))

-- of one frame one record is read
pub frame_cut : (digest a b bytes : List ℕ) → bytes ≡ framed digest a → bytes ≡ framed digest b → a ≡ b
frame_cut digest a b bytes x y = append_cancel_left digest a b (append_cancel_left (0 ∷ 0 ∷ 0 ∷ 1 ∷ []) _ _ (sym x ∙ y))

-- and it has one digest
pub frame_one : (a b bytes : List ℕ) → IsFrameOf bytes a → IsFrameOf bytes b → a ≡ b
frame_one a b bytes p q = heads a b p.1.0 q.1.0 (p.0 ∙ sym q.0) (append_cancel_left (0 ∷ 0 ∷ 0 ∷ 1 ∷ []) _ _ (sym p.1.1 ∙ q.1.1))

-- too few bytes for a digest
pub frame_short : (bytes rest other : List ℕ) → bytes ≡ (0 ∷ 0 ∷ 0 ∷ 1 ∷ []) ++ rest → length rest < 32 → IsFrameOf bytes other → ⊥
frame_short bytes rest other p short f =
    let same : rest ≡ other ++ f.1.0 = append_cancel_left (0 ∷ 0 ∷ 0 ∷ 1 ∷ []) _ _ (sym p ∙ f.1.1) in
    let len : length rest ≡ length (other ++ f.1.0) = ap (λ (l : List ℕ). length l) same in
    let parts = length-append other f.1.0 in
    let digest : length other ≡ 32 = f.0 in
    absurd (omega (arith, len, parts, digest, short))

-- what is cut at a place
pub cut_here : (n : ℕ) (b found text : List ℕ) → found ≡ take n b → text ≡ drop n b → b ≡ found ++ text
cut_here n b found text f t = sym (ap (λ (l : List ℕ). l ++ text) f ∙ (ap (λ (l : List ℕ). take n b ++ l) t ∙ take-append-drop n b))

-- another digest
pub frame_other : (bytes found text digest : List ℕ) → bytes ≡ framed found text → length found ≡ 32 → (found ≡ digest → ⊥)
    → (other : List ℕ) × IsFrameOf bytes other × (other ≢ digest)
frame_other bytes found text digest is len unlike = (found, (len, (text, is)), unlike)

-- a version, and what is cut after it
pub frame_here : (bytes rest found text : List ℕ) → bytes ≡ (0 ∷ 0 ∷ 0 ∷ 1 ∷ []) ++ rest → found ≡ take 32 rest → text ≡ drop 32 rest → bytes ≡ framed found text
frame_here bytes rest found text p f t = p ∙ ap (λ (l : List ℕ). (0 ∷ 0 ∷ 0 ∷ 1 ∷ []) ++ l) (cut_here 32 rest found text f t)

-- what was seen to differ
pub differs : (a b : List ℕ) (r : Bool) → r ≡ bytes_eq a b → r ≡ false → a ≡ b → ⊥
differs a b r is unlike e = true≢false (sym ((bytes_eq-Decides a b).1 e) ∙ (sym is ∙ unlike))
