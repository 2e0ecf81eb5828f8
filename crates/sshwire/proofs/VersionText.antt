-- The tests on version lines decide the claims.

use Rattle.std.proofs.Common.{◌≡◌, ℕ, suc, ◌+◌, ◌-◌, ◌<◌, ◌≤◌, inl, inr, Bool, true, false, not, ◌&&◌, List, [], ◌∷◌, ◌++◌, length, take, drop, Option, None, Some, IfSome, refl, sym, ap, ◌∙◌, arith, one-add, subst, cond, eqb, leb, ltb}
use Rattle.std.specs.List.{AllByRecursion, list_all, position, before_first, after_first, starts_with, ends_with, position_or_len}
use Rattle.std.proofs.lemmas.Bool.{cases_Bool, leb-true, le-leb, lt-ltb, ltb-true, ltb-false, eqb-true, eqb-false, ne_eqb, and_parts, and_from, not-true, not_from_false, both_ways}
use Rattle.std.proofs.lemmas.Bool.Decides.{Decides-eqb}
use Rattle.std.proofs.lemmas.Slice.Eq.{starts_is, ends_is}
use Rattle.std.proofs.lemmas.List.{append_assoc, append_cancel_right, length-append, take-append-le, take_at}
use native.Mathlib.Numerals.{unary_clauses}
use Rattle.sshwire.specs.declared.fault.WireFault.TheVariants.{Line}
use Rattle.sshwire.specs.Lines.{IsNoVersionLine, IsSoftwareByte, IsCommentByte, IsVersionText, IsWholeLine, ssh_2_0, comment_part, version_line, text_in, with_lf}
use Rattle.sshwire.specs.Reading.{is_software_byte, is_comment_byte, is_space, is_software_and_comments, is_version_text, is_version_line}

software_byte : (b : ℕ) → is_software_byte b ≡ true → IsSoftwareByte b
software_byte b t =
    let p = and_parts (leb 33 b) (leb b 126 && not (eqb b 45)) t in
    let q = and_parts (leb b 126) (not (eqb b 45)) p.1 in
    record { above_space = leb-true 33 b p.0; printable = leb-true b 126 q.0; no_minus = eqb-false b 45 (not-true _ q.1) }

software_byte_test : (b : ℕ) → IsSoftwareByte b → is_software_byte b ≡ true
software_byte_test b h =
    and_from _ _ (le-leb 33 b h.above_space) (and_from _ _ (le-leb b 126 h.printable) (not_from_false _ (ne_eqb b 45 h.no_minus)))

comment_byte : (b : ℕ) → is_comment_byte b ≡ true → IsCommentByte b
comment_byte b t =
    let p = and_parts (leb 32 b) (leb b 126) t in
    record { from_space = leb-true 32 b p.0; printable = leb-true b 126 p.1 }

comment_byte_test : (b : ℕ) → IsCommentByte b → is_comment_byte b ≡ true
comment_byte_test b h = and_from _ _ (le-leb 32 b h.from_space) (le-leb b 126 h.printable)

-- a test of each element decides a fact of each
pub all_from_test : (test : ℕ → Bool) (P : ℕ → Type 0) → ((b : ℕ) → test b ≡ true → P b) → (bytes : List ℕ)
    → list_all test bytes ≡ true → AllByRecursion P bytes
all_from_test test P each [] t = tt
all_from_test test P each (b ∷ bs) t =
    let p = and_parts (test b) (list_all test bs) t in (each b p.0, all_from_test test P each bs p.1)

pub all_tested : (test : ℕ → Bool) (P : ℕ → Type 0) → ((b : ℕ) → P b → test b ≡ true) → (bytes : List ℕ)
    → AllByRecursion P bytes → list_all test bytes ≡ true
all_tested test P each [] h = refl
all_tested test P each (b ∷ bs) h = and_from _ _ (each b h.0) (all_tested test P each bs h.1)

software_not_space : (b : ℕ) → IsSoftwareByte b → is_space b ≡ false
software_not_space b h = let above : 33 ≤ b = h.above_space in ne_eqb b 32 (λ e. omega arith)

-- the softwareversion, of bytes that are no spaces, ends at the first space
space_after : (P : ℕ → Type 0) → ((b : ℕ) → P b → is_space b ≡ false) → (software : List ℕ) (comments : Option (List ℕ)) → AllByRecursion P software
    → position_or_len is_space (software ++ comment_part comments) ≡ length software
space_after P other [] None h = refl
space_after P other [] (Some comments) h = refl
space_after P other (b ∷ bs) comments h = rw (other b h.0) (omega (arith, space_after P other bs comments h.1))

-- the comments, or nothing
comments_or_nil : Option (List ℕ) → List ℕ
comments_or_nil None = []
comments_or_nil (Some comments) = comments

after_space : (software : List ℕ) (comments : Option (List ℕ))
    → drop (length software + 1) (software ++ comment_part comments) ≡ comments_or_nil comments
unfolding comments_or_nil
after_space [] None = refl
after_space [] (Some comments) = refl
after_space (b ∷ bs) comments = simp unary_clauses (simp unary_clauses at (after_space bs comments))

comments_tested : (comments : Option (List ℕ)) → IfSome comments (AllByRecursion IsCommentByte)
    → list_all is_comment_byte (comments_or_nil comments) ≡ true
unfolding comments_or_nil
comments_tested None h = refl
comments_tested (Some comments) h = all_tested is_comment_byte IsCommentByte comment_byte_test comments h

-- the bytes round the first space
record RoundSpace (bytes : List ℕ) : Type 0 where
  comments : Option (List ℕ)
  bytes_are : bytes ≡ before_first is_space bytes ++ comment_part comments
  after : IfSome comments (λ c. c ≡ after_first is_space bytes)

pub space_further : (b : ℕ) (bs : List ℕ) → is_space b ≡ false → position_or_len is_space (b ∷ bs) ≡ suc (position_or_len is_space bs)
space_further b bs f = rw f (one-add (position_or_len is_space bs))

further : (b : ℕ) (bs : List ℕ) (comments : Option (List ℕ)) → is_space b ≡ false → bs ≡ before_first is_space bs ++ comment_part comments
    → b ∷ bs ≡ before_first is_space (b ∷ bs) ++ comment_part comments
further b bs comments f e =
    let P : ℕ → Type 0 = λ n. b ∷ bs ≡ take n (b ∷ bs) ++ comment_part comments in
    subst P (sym (space_further b bs f)) (ap (λ xs. b ∷ xs) e)

further_after : (b : ℕ) (bs : List ℕ) (comments : Option (List ℕ)) → is_space b ≡ false → IfSome comments (λ c. c ≡ after_first is_space bs)
    → IfSome comments (λ c. c ≡ after_first is_space (b ∷ bs))
further_after b bs None f h = tt
further_after b bs (Some c) f h =
    let P : ℕ → Type 0 = λ n. c ≡ drop n (b ∷ bs) in
    let e : suc (position_or_len is_space bs + 1) ≡ position_or_len is_space (b ∷ bs) + 1 = rw (space_further b bs f) (omega arith) in
    subst P e h

round_space : (bytes : List ℕ) → RoundSpace bytes
round_space [] = record { comments = None; bytes_are = refl; after = tt }
round_space (b ∷ bs) = elim (cases_Bool (is_space b)) [
  | inl t ↦
      let is : b ≡ 32 = eqb-true b 32 t in
      record { comments = Some bs; bytes_are = rw (t, is) refl; after = rw t refl }
  | inr f ↦
      let r = round_space bs in
      record { comments = r.comments; bytes_are = further b bs r.comments f r.bytes_are; after = further_after b bs r.comments f r.after }
]

-- the bytes after the protocol, whose softwareversion has such bytes
pub record IsTail (P : ℕ → Type 0) (bytes : List ℕ) : Type 0 where
  pub software : List ℕ
  pub comments : Option (List ℕ)
  pub bytes_are : bytes ≡ software ++ comment_part comments
  pub not_empty : 0 < length software
  pub software_bytes : AllByRecursion P software
  pub comment_bytes : IfSome comments (AllByRecursion IsCommentByte)

comments_from_test : (bytes : List ℕ) (comments : Option (List ℕ)) → IfSome comments (λ c. c ≡ after_first is_space bytes)
    → list_all is_comment_byte (after_first is_space bytes) ≡ true → IfSome comments (AllByRecursion IsCommentByte)
comments_from_test bytes None after t = tt
comments_from_test bytes (Some c) after t = all_from_test is_comment_byte IsCommentByte comment_byte c (rw after t)

-- the test of such bytes
abbrev pub is_tail : (ℕ → Bool) → List ℕ → Bool
is_tail test bytes =
    ltb 0 (length (before_first is_space bytes)) && (list_all test (before_first is_space bytes) && list_all is_comment_byte (after_first is_space bytes))

module _ (P : ℕ → Type 0) (test : ℕ → Bool) where
  pub tail_from : ((b : ℕ) → test b ≡ true → P b) → (bytes : List ℕ) → is_tail test bytes ≡ true → IsTail P bytes
  tail_from each bytes t =
      let software = before_first is_space bytes in
      let p = and_parts (ltb 0 (length software)) (list_all test software && list_all is_comment_byte (after_first is_space bytes)) t in
      let q = and_parts (list_all test software) (list_all is_comment_byte (after_first is_space bytes)) p.1 in
      let r = round_space bytes in
      record {
        software = software;
        comments = r.comments;
        bytes_are = r.bytes_are;
        not_empty = ltb-true 0 (length software) p.0;
        software_bytes = all_from_test test P each software q.0;
        comment_bytes = comments_from_test bytes r.comments r.after q.1;
      }

  pub tail_test : ((b : ℕ) → P b → test b ≡ true) → ((b : ℕ) → P b → is_space b ≡ false) → (software : List ℕ) (comments : Option (List ℕ))
      → 0 < length software → AllByRecursion P software → IfSome comments (AllByRecursion IsCommentByte) → is_tail test (software ++ comment_part comments) ≡ true
  tail_test each other software comments some s c =
      let end : position_or_len is_space (software ++ comment_part comments) ≡ length software = space_after P other software comments s in
      let front : before_first is_space (software ++ comment_part comments) ≡ software = rw end (take_at software (comment_part comments) (length software) refl) in
      let after : after_first is_space (software ++ comment_part comments) ≡ comments_or_nil comments = rw end (after_space software comments) in
      let t₀ : ltb 0 (length (before_first is_space (software ++ comment_part comments))) ≡ true = rw front (lt-ltb 0 (length software) some) in
      let t₁ : list_all test (before_first is_space (software ++ comment_part comments)) ≡ true = rw front (all_tested test P each software s) in
      let t₂ : list_all is_comment_byte (after_first is_space (software ++ comment_part comments)) ≡ true = rw after (comments_tested comments c) in
      and_from _ _ t₀ (and_from _ _ t₁ t₂)

tail_from_test : (bytes : List ℕ) → is_software_and_comments bytes ≡ true → IsTail IsSoftwareByte bytes
unfolding is_software_and_comments
tail_from_test bytes t = tail_from IsSoftwareByte is_software_byte software_byte bytes t

tail_tested : (software : List ℕ) (comments : Option (List ℕ)) → 0 < length software → AllByRecursion IsSoftwareByte software
    → IfSome comments (AllByRecursion IsCommentByte) → is_software_and_comments (software ++ comment_part comments) ≡ true
unfolding is_software_and_comments
tail_tested software comments some s c = tail_test IsSoftwareByte is_software_byte software_byte_test software_not_space software comments some s c

pub version_text_from_test : (text : List ℕ) → is_version_text text ≡ true → IsVersionText text
unfolding is_version_text
version_text_from_test text t =
    let p = and_parts (leb (length text) 253) (starts_with eqb text ssh_2_0 && is_software_and_comments (drop 8 text)) t in
    let q = and_parts (starts_with eqb text ssh_2_0) (is_software_and_comments (drop 8 text)) p.1 in
    let begins : text ≡ ssh_2_0 ++ drop 8 text = (starts_is Decides-eqb text ssh_2_0 (starts_with eqb text ssh_2_0) refl).0 q.0 in
    let tail = tail_from_test (drop 8 text) q.1 in
    record {
      software = tail.software;
      comments = tail.comments;
      text_is = begins ∙ ap (λ xs. ssh_2_0 ++ xs) tail.bytes_are;
      not_empty = tail.not_empty;
      software_bytes = tail.software_bytes;
      comment_bytes = tail.comment_bytes;
      short = leb-true (length text) 253 p.0;
    }

pub version_text_tested : (text : List ℕ) → IsVersionText text → is_version_text text ≡ true
unfolding is_version_text
version_text_tested text v =
    let tail = v.software ++ comment_part v.comments in
    let begins : text ≡ ssh_2_0 ++ tail = v.text_is in
    let rest : drop 8 text ≡ tail = ap (λ xs. drop 8 xs) begins in
    let t : is_software_and_comments (drop 8 text) ≡ true = rw rest (tail_tested v.software v.comments v.not_empty v.software_bytes v.comment_bytes) in
    and_from _ _ (le-leb (length text) 253 v.short)
    (and_from _ _ ((starts_is Decides-eqb text ssh_2_0 (starts_with eqb text ssh_2_0) refl).1 tail begins) t)

pub text_in-version_line : (text : List ℕ) → text_in (version_line text) ≡ text
text_in-version_line text =
    let long : length (version_line text) ≡ length text + 2 = length-append text (13 ∷ 10 ∷ []) in
    take_at text (13 ∷ 10 ∷ []) (length (version_line text) - 2) (omega arith)

pub whole_line_from_test : (line : List ℕ) → is_version_line line ≡ true → IsWholeLine line
unfolding is_version_line
whole_line_from_test line t =
    let p = and_parts (ends_with eqb line (13 ∷ 10 ∷ [])) (is_version_text (text_in line)) t in
    record {
      version = version_text_from_test (text_in line) p.1;
      line_is = (ends_is Decides-eqb line (13 ∷ 10 ∷ []) (ends_with eqb line (13 ∷ 10 ∷ [])) refl).0 p.0;
    }

pub version_line_tested : (text : List ℕ) → IsVersionText text → is_version_line (version_line text) ≡ true
unfolding is_version_line
version_line_tested text v =
    let t : is_version_text (text_in (version_line text)) ≡ true = rw (text_in-version_line text) (version_text_tested text v) in
    and_from _ _ ((ends_is Decides-eqb (version_line text) (13 ∷ 10 ∷ []) (ends_with eqb (version_line text) (13 ∷ 10 ∷ [])) refl).1 text refl) t

-- what the test refuses is no version line
pub no_line_from_test : (line : List ℕ) → is_version_line line ≡ false → (text : List ℕ) → IsVersionText text → line ≡ version_line text → ⊥
no_line_from_test line f text v e = both_ways (is_version_line line) f (rw e (version_line_tested text v))

-- the test of a line with its LF, from what stands before it
ends_cr : (line : List ℕ) → ends_with eqb line (13 ∷ []) ≡ ends_with eqb (with_lf line) (13 ∷ 10 ∷ [])
ends_cr line =
    let short = ends_is Decides-eqb line (13 ∷ []) (ends_with eqb line (13 ∷ [])) refl in
    let long = ends_is Decides-eqb (with_lf line) (13 ∷ 10 ∷ []) (ends_with eqb (with_lf line) (13 ∷ 10 ∷ [])) refl in
    let text : List ℕ = take (length line - 1) line in
    let front : List ℕ = take (length (with_lf line) - 2) (with_lf line) in
    elim (cases_Bool (ends_with eqb line (13 ∷ []))) [
      | inl t ↦
          let is : with_lf line ≡ text ++ 13 ∷ 10 ∷ [] = ap (λ (xs : List ℕ). xs ++ 10 ∷ []) (short.0 t) ∙ append_assoc text (13 ∷ []) (10 ∷ []) in
          t ∙ sym (long.1 text is)
      | inr f ↦ elim (cases_Bool (ends_with eqb (with_lf line) (13 ∷ 10 ∷ []))) [
        | inl t ↦
            let is : line ++ 10 ∷ [] ≡ (front ++ 13 ∷ []) ++ 10 ∷ [] = long.0 t ∙ sym (append_assoc front (13 ∷ []) (10 ∷ [])) in
            short.1 front (append_cancel_right line (front ++ 13 ∷ []) (10 ∷ []) is) ∙ sym t
        | inr g ↦ f ∙ sym g
      ]
    ]

pub text_before_lf : (line : List ℕ) → take (length line - 1) line ≡ text_in (with_lf line)
text_before_lf line =
    let long : length (with_lf line) ≡ length line + 1 = length-append line (10 ∷ []) in
    let cut : length (with_lf line) - 2 ≡ length line - 1 = omega arith in
    sym (ap (λ (n : ℕ). take n (with_lf line)) cut ∙ take-append-le (length line - 1) line (10 ∷ []) (omega arith))

pub unfinished_test : (line : List ℕ) → (ends_with eqb line (13 ∷ []) && is_version_text (take (length line - 1) line)) ≡ is_version_line (with_lf line)
unfolding is_version_line
unfinished_test line = rw (ends_cr line, text_before_lf line) refl

none_tested : (b : Bool) (text : List ℕ) → None ≡ cond b (Some text) None → b ≡ false
none_tested true text e = cc
none_tested false text e = refl

-- a line of at most 255 bytes that the test refuses
pub spelled_no_line : (line bytes text : List ℕ) → line ≡ bytes → length line ≤ 255 → None ≡ cond (is_version_line line) (Some text) None
    → IsNoVersionLine bytes Line
spelled_no_line line bytes text same short e =
    (rw same at short, λ other v is. no_line_from_test line (none_tested (is_version_line line) text e) other v (same ∙ is))

-- what a search for a space answers
pub position_some : (bytes : List ℕ) (n : ℕ) → position is_space bytes ≡ Some n → n ≡ position_or_len is_space bytes
position_some bytes n e = elim (cases_Bool (ltb (position_or_len is_space bytes) (length bytes))) [
  | inl t ↦ let e₁ : Some (position_or_len is_space bytes) ≡ Some n = rw t at e in cc
  | inr f ↦ let e₁ : None ≡ Some n = rw f at e in cc
]

pub position_none : (bytes : List ℕ) → position is_space bytes ≡ None → length bytes ≤ position_or_len is_space bytes
position_none bytes e = elim (cases_Bool (ltb (position_or_len is_space bytes) (length bytes))) [
  | inl t ↦ let e₁ : Some (position_or_len is_space bytes) ≡ None = rw t at e in cc
  | inr f ↦ ltb-false _ _ f
]
