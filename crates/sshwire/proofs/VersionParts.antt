-- The test on a softwareversion and comments is the test on the text that they spell.

use Rattle.std.proofs.Common.{◌≡◌, ℕ, suc, ◌+◌, inl, inr, Bool, true, false, ◌&&◌, List, [], ◌∷◌, ◌++◌, length, take, None, Some, refl, sym, ◌∙◌, arith, leb, ltb, append-nil}
use Rattle.std.specs.List.{list_all, before_first, after_first, position_or_len}
use Rattle.std.proofs.lemmas.Bool.{cases_Bool, lt-ltb}
use Rattle.std.proofs.lemmas.Bool.Decides.{nat_tests}
use Rattle.std.proofs.lemmas.List.{length-append}
use Rattle.std.proofs.lemmas.List.Folds.{list_all-append}
use Rattle.sshwire.specs.Lines.{ssh_2_0, version_text}
use Rattle.sshwire.proofs.VersionText.{space_further}
use Rattle.sshwire.specs.Reading.{are_parts, is_comment_byte, is_part, is_software_and_comments, is_software_byte, is_space, is_version_text}

and_assoc : (a b c : Bool) → (a && (b && c)) ≡ ((a && b) && c)
and_assoc true b c = refl
and_assoc false b c = refl

-- what stands before the first space and after it is as it should be
are_round_space : List ℕ → Bool
are_round_space bytes = list_all is_software_byte (before_first is_space bytes) && list_all is_comment_byte (after_first is_space bytes)

round_further : (b : ℕ) (bytes : List ℕ) → is_space b ≡ false → are_round_space (b ∷ bytes) ≡ (is_software_byte b && are_round_space bytes)
unfolding are_round_space
round_further b bytes f =
    let e : position_or_len is_space (b ∷ bytes) ≡ suc (position_or_len is_space bytes) = space_further b bytes f in
    let n : suc (position_or_len is_space bytes) + 1 ≡ suc (position_or_len is_space bytes + 1) = omega arith in
    rw (e, n) (sym (and_assoc (is_software_byte b) (list_all is_software_byte (before_first is_space bytes)) (list_all is_comment_byte (after_first is_space bytes))))

round_after : (b : ℕ) (bytes : List ℕ) → is_space b ≡ true → are_round_space (b ∷ bytes) ≡ list_all is_comment_byte bytes
unfolding are_round_space
round_after b bytes t = rw t refl

round_spaced : (software comments : List ℕ) → are_round_space (software ++ 32 ∷ comments) ≡ (are_round_space software && list_all is_comment_byte comments)
unfolding are_round_space
round_spaced [] comments = refl
round_spaced (b ∷ bs) comments = elim (cases_Bool (is_space b)) [
  | inl t ↦ rw (round_after b (bs ++ 32 ∷ comments) t, round_after b bs t) (list_all-append is_comment_byte bs (32 ∷ comments))
  | inr f ↦ rw (round_further b (bs ++ 32 ∷ comments) f, round_further b bs f, round_spaced bs comments)
      (and_assoc (is_software_byte b) (are_round_space bs) (list_all is_comment_byte comments))
]

some_bytes : (b : ℕ) (bytes : List ℕ) → ltb 0 (length (b ∷ bytes)) ≡ true
some_bytes b bytes = lt-ltb 0 (length (b ∷ bytes)) (omega arith)

-- a softwareversion that isn't empty stays so
some_spaced : (software comments : List ℕ) → ltb 0 (length (before_first is_space (software ++ 32 ∷ comments))) ≡ ltb 0 (length (before_first is_space software))
some_spaced [] comments = refl
some_spaced (b ∷ bs) comments = elim (cases_Bool (is_space b)) [
  | inl t ↦ rw t refl
  | inr f ↦ rw (space_further b (bs ++ 32 ∷ comments) f, space_further b bs f)
      (some_bytes b (take (position_or_len is_space (bs ++ 32 ∷ comments)) (bs ++ 32 ∷ comments)) ∙ sym (some_bytes b (take (position_or_len is_space bs) bs)))
]

-- comments after comments are comments
tail_spaced : (software comments : List ℕ) → is_software_and_comments (software ++ 32 ∷ comments) ≡ (is_software_and_comments software && list_all is_comment_byte comments)
unfolding is_software_and_comments are_round_space
tail_spaced software comments = rw (some_spaced software comments, round_spaced software comments)
    (and_assoc (ltb 0 (length (before_first is_space software))) (are_round_space software) (list_all is_comment_byte comments))

-- the test of a text by what stands after SSH-2.0-
text_test : (bytes : List ℕ) → is_version_text (ssh_2_0 ++ bytes) ≡ (leb (length bytes) 245 && is_software_and_comments bytes)
unfolding is_version_text
text_test bytes =
    let room : leb (length (ssh_2_0 ++ bytes)) 253 ≡ leb (length bytes) 245 = grind (arith, nat_tests) in
    rw room refl

-- the test of a softwareversion without comments
pub part_test : (software : List ℕ) → is_part software ≡ is_version_text (version_text software None)
part_test software = rw (append-nil software) (sym (text_test software))

pub parts_test : (software comments : List ℕ) → are_parts software comments ≡ is_version_text (version_text software (Some comments))
parts_test software comments =
    let long : length (software ++ 32 ∷ comments) ≡ length software + length (32 ∷ comments) = length-append software (32 ∷ comments) in
    let room : leb (length (software ++ 32 ∷ comments)) 245 ≡ leb (length software + length comments) 244 = grind (arith, nat_tests) in
    sym (text_test (software ++ 32 ∷ comments) ∙ rw (room, tail_spaced software comments) refl)
