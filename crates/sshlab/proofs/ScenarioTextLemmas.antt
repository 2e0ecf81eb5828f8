-- What a line says, case by case.

use Rattle.std.proofs.Common.{◌≡◌, ◌<◌, ◌≤◌, ◌∙◌, ℕ, zero, suc, Bool, true, false, List, [], ◌∷◌, get_or, lit<, refl, sym, ap, arith}
use Rattle.std.specs.Prelude.{◌==◌, ◌||◌, None, Some, length, option_map, nat_le}
use Rattle.std.specs.Borrow.{Bor}
use Rattle.std.specs.List.{list_all, list_any}
use Rattle.std.specs.Str.{IsAscii, IsUtf8}
use Rattle.std.proofs.lemmas.Bool.{and_parts, leb-true}
use Rattle.std.proofs.lemmas.Str.{IsUtf8-from_ascii}
use Rattle.sshlab.specs.ScenarioFields.{parts}
use Rattle.sshlab.specs.Scenarios.{has_empty, is_line_byte, is_text, statement, statement_by, statement_in_fields, states_nothing}
use Rattle.sshlab.specs.ScenarioView.{texts}

pub line_bad : (line : List ℕ) → is_text line ≡ false → statement line ≡ None
unfolding statement
line_bad line e = rw e refl

pub line_silent : (line : List ℕ) → is_text line ≡ true → states_nothing line ≡ true → statement line ≡ Some None
unfolding statement
line_silent line e silent = rw (e, silent) refl

pub line_states : (line : List ℕ) → is_text line ≡ true → states_nothing line ≡ false → statement line ≡ option_map Some (statement_in_fields line)
unfolding statement
line_states line e silent = rw (e, silent) refl

any_text : (fields : List (Bor (List ℕ))) → list_any (λ field. length field.now == 0) fields ≡ has_empty (texts fields)
any_text [] = refl
any_text (field ∷ fields) = ap (λ (b : Bool). (length field.now == 0) || b) (any_text fields)

-- the fields of a line, as they are found
module _ (line : List ℕ) (found : List (Bor (List ℕ))) (are : texts found ≡ parts 32 line) where
  pub fields_empty : list_any (λ field. length field.now == 0) found ≡ true → statement_in_fields line ≡ None
  unfolding statement_in_fields
  fields_empty e =
      let empty : has_empty (parts 32 line) ≡ true = ap (λ (fields : List (List ℕ)). has_empty fields) (sym are) ∙ (sym (any_text found) ∙ e) in
      rw empty refl

  pub fields_state : list_any (λ field. length field.now == 0) found ≡ false → statement_in_fields line ≡ statement_by (texts found)
  unfolding statement_in_fields
  fields_state e =
      let full : has_empty (parts 32 line) ≡ false = ap (λ (fields : List (List ℕ)). has_empty fields) (sym are) ∙ (sym (any_text found) ∙ e) in
      rw full (ap statement_by (sym are))

ascii_cell : (b : ℕ) (bs : List ℕ) → b < 128 → IsAscii bs → (i : ℕ) → get_or (b ∷ bs) i 0 < 128
ascii_cell b bs h more zero = h
ascii_cell b bs h more (suc i) = more i

ascii_line : (line : List ℕ) → list_all is_line_byte line ≡ true → IsAscii line
ascii_line [] e = λ i. lit< tt
ascii_line (b ∷ line) e =
    let parts = and_parts (is_line_byte b) (list_all is_line_byte line) e in
    let low : b ≤ 126 = leb-true _ _ ((and_parts (nat_le 32 b) (nat_le b 126) parts.0).1) in
    ascii_cell b line (omega arith) (ascii_line line parts.1)

-- a line is text
pub line_utf8 : (line : List ℕ) → is_text line ≡ true → IsUtf8 line
line_utf8 line e = IsUtf8-from_ascii line (ascii_line line ((and_parts _ _ e).1))
