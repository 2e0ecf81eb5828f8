-- The table of messages: the form of each number has the messages whose layout has the number, with their fields in its order.

use Rattle.std.proofs.Common.{◌≡◌, ℕ, List, [], ◌∷◌, ◌++◌, inl, inr, Option, None, Some, cond, eqb, refl}
use Rattle.std.proofs.lemmas.Bool.{cases_Bool, eqb-true}
use Rattle.sshwire.specs.declared.share_form.ShareForm.{ShareForm}
use Rattle.sshwire.specs.declared.share_form.ShareForm.TheVariants.{Hybrid, Mpint, OctetString}
use Rattle.sshmsg.specs.MessageData.{End, ext_info, Fields, Form, form_in, form_of, forms, init_of, kexinit, layout, MessageData, OfMethod, OfKexInit, Pairs, reply_of, userauth_request, With}
use Rattle.sshmsg.specs.Form.{Done, FieldText, FillsForm, Of, Rest, Then}

infixr 10 ◌&◌
-- the messages of the form have the number, and its fields, after those before
abbrev pub LaysOut : ℕ → (Fields → Fields) → Form → Type 0
LaysOut n before (Done c) = layout c ≡ (n, before End)
LaysOut n before (Then f next) = (value : Of f) → LaysOut n (λ more. before (With f value more)) (next value)
LaysOut n before (Rest next) = ⊥

-- the bytes stand for the fields, and nothing follows
abbrev pub FieldsText : Fields → List ℕ → Type 0
FieldsText End bytes = bytes ≡ []
FieldsText (With f value more) bytes = (text : List ℕ) × (rest : List ℕ) × FieldText f value text × FieldsText more rest × (bytes ≡ text ++ rest)
FieldsText (Pairs pairs) bytes = ⊥
FieldsText (OfKexInit offer) bytes = ⊥
FieldsText (OfMethod m) bytes = ⊥

filled : (n : ℕ) (before : Fields → Fields) (form : Form) (m : MessageData) (bytes : List ℕ) → LaysOut n before form → FillsForm form m bytes
    → (fields : Fields) × (layout m ≡ (n, before fields)) × FieldsText fields bytes
filled n before (Done c) m bytes lays (same, none) = (End, rw same lays, none)
filled n before (Then f next) m bytes lays (value, text, rest, t, fills, parts) =
    let more = filled n (λ fields. before (With f value fields)) (next value) m rest (lays value) fills in
    (With f value more.0, more.1, (text, rest, t, more.2, parts))
filled n before (Rest next) m bytes lays same = absurd lays

-- what fills such a form is a message of this layout
pub laid_out : (n : ℕ) (form : Form) (m : MessageData) (bytes : List ℕ) → LaysOut n (λ fields. fields) form → FillsForm form m bytes
    → (fields : Fields) × (layout m ≡ (n, fields)) × FieldsText fields bytes
laid_out n form m bytes lays fills = filled n (λ fields. fields) form m bytes lays fills

-- a fact of each such form
abbrev pub OfLayouts : (ℕ → Form → Type 0) → Type 0
OfLayouts P = (n : ℕ) (form : Form) → LaysOut n (λ fields. fields) form → P n form

-- and of the three forms that end otherwise
pub record OfOthers (P : ℕ → Form → Type 0) : Type 0 where
  pub ext_info : P 7 ext_info
  pub kexinit : P 20 kexinit
  pub userauth_request : P 50 userauth_request

-- is one of each row
data Each (P : ℕ → Form → Type 0) : List (ℕ × Form) → Type 0 where
  Nothing : Each P []
  ◌&◌ : {n : ℕ} {form : Form} {rows : List (ℕ × Form)} → P n form → Each P rows → Each P ((n, form) ∷ rows)

init_laid_out : (shares : ShareForm) → LaysOut 30 (λ fields. fields) (init_of shares)
init_laid_out Mpint = λ e. refl
init_laid_out OctetString = λ share. refl
init_laid_out Hybrid = λ share. refl

reply_laid_out : (shares : ShareForm) → LaysOut 31 (λ fields. fields) (reply_of shares)
reply_laid_out Mpint = λ host_key f signature. refl
reply_laid_out OctetString = λ host_key share signature. refl
reply_laid_out Hybrid = λ host_key share signature. refl

-- The rows, in the table's order.
each_row : (shares : ShareForm) (P : ℕ → Form → Type 0) → OfOthers P → OfLayouts P → Each P (forms shares)
each_row shares P others row =
    row _ _ (λ reason description language. refl)
    & row _ _ (λ content. refl)
    & row _ _ (λ sequence_number. refl)
    & row _ _ (λ always_display text language. refl)
    & row _ _ (λ service. refl)
    & row _ _ (λ service. refl)
    & others.ext_info
    & others.kexinit
    & row _ _ refl
    & row _ _ (init_laid_out shares)
    & row _ _ (reply_laid_out shares)
    & others.userauth_request
    & row _ _ (λ methods partial_success. refl)
    & row _ _ refl
    & row _ _ (λ text language. refl)
    & row _ _ (λ algorithm key. refl)
    & Nothing

some_form : (f form : Form) → ◌≡◌ {A = Option Form} (Some f) (Some form) → f ≡ form
some_form f form e = cc

none_left : (P : ℕ → Form → Type 0) (number : ℕ) (form : Form) → ◌≡◌ {A = Option Form} None (Some form) → P number form
none_left P number form e = absurd (let bad : ⊥ = cc in bad)

in_row : (P : ℕ → Form → Type 0) (number k : ℕ) (f form : Form) (others : Option Form) → P k f → (others ≡ Some form → P number form)
    → cond (eqb number k) (Some f) others ≡ Some form → P number form
in_row P number k f form others h more e = elim (cases_Bool (eqb number k)) [
  | inl t ↦
      let same : number ≡ k = eqb-true number k t in
      let found : ◌≡◌ {A = Option Form} (Some f) (Some form) = rw t at e in
      rw (same, ← some_form f form found) h
  | inr t ↦ more (rw t at e)
]

in_rows : (P : ℕ → Form → Type 0) (rows : List (ℕ × Form)) (number : ℕ) (form : Form) → Each P rows → form_in rows number ≡ Some form → P number form
in_rows P [] number form Nothing e = none_left P number form e
in_rows P ((n, f) ∷ rows) number form (one & others) e = in_row P number n f form (form_in rows number) one (in_rows P rows number form others) e

-- what holds of each row of the table holds of the form of each number
pub each_form : (shares : ShareForm) (P : ℕ → Form → Type 0) → OfOthers P → OfLayouts P → (number : ℕ) (form : Form) → form_of shares number ≡ Some form → P number form
unfolding form_of
each_form shares P others of number form = in_rows P (forms shares) number form (each_row shares P others of)
