-- The reading of forms against what fills them.

use Rattle.std.proofs.Common.{◌≡◌, ℕ, suc, ◌+◌, ◌≤◌, Bool, true, false, List, [], ◌∷◌, ◌++◌, length, take, drop, Option, None, Some, Result, Ok, Err, refl, sym, ap, ◌∙◌, arith, cond, ltb}
use Rattle.std.specs.Str.{is_utf8}
use Rattle.std.proofs.lemmas.Bool.{le-ltb, ltb-false}
use Rattle.std.proofs.lemmas.Str.{IsUtf8-from_is_utf8, is_utf8-from_IsUtf8}
use Rattle.std.proofs.lemmas.List.{append_assoc, append-nil, get_or-append-add, length-append, length-take-le, take-append-drop, take_at, drop_at}
use Rattle.sshwire.specs.declared.fault.WireFault.{WireFault}
use Rattle.sshwire.specs.declared.fault.WireFault.TheVariants.{Name, Short}
use Rattle.sshwire.specs.Types.{BooleanText, IsBytes, MpintText, NameListText, StringText, Uint32Text}
use Rattle.sshwire.specs.TypeReadings.{IsReading, ◌>>=◌, boolean_at, mpint_at, names_at, string_at, uint32_at}
use Rattle.sshwire.specs.declared.share_form.ShareForm.{ShareForm}
use Rattle.sshmsg.specs.declared.fault.MsgFault.{MsgFault}
use Rattle.sshmsg.specs.MessageData.{Form, form_of, MessageData}
use Rattle.sshmsg.specs.Form.{BigNumber, Bytes, Cookie, Done, Field, FieldText, FillsForm, Flag, Names, Number, Of, Reserved, Rest, Then, Utf8, bytes_at, field_at, form_at, utf8_at}
use Rattle.sshmsg.specs.Messages.{Spells, in_form, message_in, whole_form}

-- the clauses of the law of data types
pub record IsTypesLaw : Type 0 where
  pub boolean : IsReading BooleanText boolean_at
  pub uint32 : IsReading Uint32Text uint32_at
  pub string : IsReading StringText string_at
  pub mpint : IsReading MpintText mpint_at
  pub name_list : IsReading NameListText names_at

bytes_after : (text rest : List ℕ) → IsBytes (text ++ rest) → IsBytes rest
bytes_after text rest h = λ i. rw (← get_or-append-add text rest i 0) (h (length text + i))

pub bind_ok : {A B : Type 0} (r : Result A WireFault) (f : A → Result B WireFault) (y : B) → (r >>= f) ≡ Ok y → (x : A) × (r ≡ Ok x) × (f x ≡ Ok y)
bind_ok (Ok x) f y e = (x, refl, e)
bind_ok (Err d) f y e = cc

guard_ok : {A : Type 0} (b : Bool) (d : WireFault) (x y : A) → cond b (Err d) (Ok x) ≡ Ok y → (b ≡ false) × (x ≡ y)
guard_ok true d x y e = cc
guard_ok false d x y e = (refl, cc)

chosen_ok : {A : Type 0} (b : Bool) (d : WireFault) (x y : A) → cond b (Ok x) (Err d) ≡ Ok y → (b ≡ true) × (x ≡ y)
chosen_ok true d x y e = (refl, cc)
chosen_ok false d x y e = cc

-- What a field's reading must be: sound and complete.
record Reads {V : Type 0} (Text : V → List ℕ → Type 0) (read : List ℕ → Result (V × List ℕ) WireFault) : Type 0 where
  sound : (bytes : List ℕ) (value : V) (rest : List ℕ) → IsBytes bytes → read bytes ≡ Ok (value, rest)
      → (text : List ℕ) × Text value text × (bytes ≡ text ++ rest)
  complete : (value : V) (text rest : List ℕ) → Text value text → read (text ++ rest) ≡ Ok (value, rest)

of_reading : {V : Type 0} (Text : V → List ℕ → Type 0) (read : List ℕ → Result (V × List ℕ) WireFault) → IsReading Text read → Reads Text read
of_reading Text read r = record { sound = r.sound; complete = r.complete }

utf8_reads : IsTypesLaw → Reads (FieldText Utf8) utf8_at
unfolding utf8_at
utf8_reads law = record {
  sound = λ bytes value rest h e.
      let b = bind_ok (string_at bytes) (λ (s : List ℕ × List ℕ). cond (is_utf8 s.0) (Ok s) (Err Name)) (value, rest) e in
      let c = chosen_ok (is_utf8 b.0.0) Name b.0 (value, rest) b.2 in
      let front : b.0.0 ≡ value = ap (λ (p : List ℕ × List ℕ). p.0) c.1 in
      let read : string_at bytes ≡ Ok (value, rest) = b.1 ∙ ap (λ (p : List ℕ × List ℕ). Ok p) c.1 in
      let s = law.string.sound bytes value rest h read in
      let utf8 : is_utf8 value ≡ true = rw front at c.0 in
      (s.0, (IsUtf8-from_is_utf8 value utf8, s.1), s.2);
  complete = λ value text rest t.
      let utf8 : is_utf8 value ≡ true = is_utf8-from_IsUtf8 value t.0 in
      ap (λ (r : Result (List ℕ × List ℕ) WireFault). r >>= (λ (s : List ℕ × List ℕ). cond (is_utf8 s.0) (Ok s) (Err Name))) (law.string.complete value text rest t.1)
      ∙ rw utf8 refl;
}

-- so many bytes
bytes_sound : (n : ℕ) (bytes value rest : List ℕ) → bytes_at n bytes ≡ Ok (value, rest) → (length value ≡ n) × (bytes ≡ value ++ rest)
bytes_sound n bytes value rest e =
    let g = guard_ok (ltb (length bytes) n) Short (take n bytes, drop n bytes) (value, rest) e in
    let within : n ≤ length bytes = ltb-false _ _ g.0 in
    let front : take n bytes ≡ value = ap (λ (p : List ℕ × List ℕ). p.0) g.1 in
    let back : drop n bytes ≡ rest = ap (λ (p : List ℕ × List ℕ). p.1) g.1 in (
      sym (ap (λ (xs : List ℕ). length xs) front) ∙ length-take-le n bytes within,
      sym (take-append-drop n bytes) ∙ (ap (λ (xs : List ℕ). xs ++ drop n bytes) front ∙ ap (λ (xs : List ℕ). value ++ xs) back),
    )

bytes_complete : (n : ℕ) (value rest : List ℕ) → length value ≡ n → bytes_at n (value ++ rest) ≡ Ok (value, rest)
bytes_complete n value rest long =
    let all : length (value ++ rest) ≡ length value + length rest = length-append value rest in
    let f : ltb (length (value ++ rest)) n ≡ false = le-ltb _ _ (omega arith) in
    let front : take n (value ++ rest) ≡ value = take_at value rest n long in
    let back : drop n (value ++ rest) ≡ rest = drop_at value rest n long in
    rw (f, front, back) refl

cookie_reads : Reads (FieldText Cookie) (bytes_at 16)
cookie_reads = record {
  sound = λ bytes value rest h e. let s = bytes_sound 16 bytes value rest e in (value, (s.0, refl), s.1);
  complete = λ value text rest t. rw t.1 (bytes_complete 16 value rest t.0);
}

reserved_reads : Reads (FieldText Reserved) (field_at Reserved)
reserved_reads = record {
  sound = λ bytes value rest h e.
      let b = bind_ok (bytes_at 4 bytes) (λ (x : List ℕ × List ℕ). Ok (tt, x.1)) (value, rest) e in
      let same : ◌≡◌ {A = Unit {0} × List ℕ} (tt, b.0.1) (value, rest) = cc in
      let back : b.0.1 ≡ rest = ap (λ (p : Unit {0} × List ℕ). p.1) same in
      let s = bytes_sound 4 bytes b.0.0 b.0.1 b.1 in
      (b.0.0, s.0, s.1 ∙ ap (λ (xs : List ℕ). b.0.0 ++ xs) back);
  complete = λ value text rest t.
      ap (λ (r : Result (List ℕ × List ℕ) WireFault). r >>= (λ (x : List ℕ × List ℕ). Ok (tt, x.1))) (bytes_complete 4 text rest t);
}

fields : IsTypesLaw → (f : Field) → Reads (FieldText f) (field_at f)
fields law Flag = of_reading BooleanText boolean_at law.boolean
fields law Number = of_reading Uint32Text uint32_at law.uint32
fields law Bytes = of_reading StringText string_at law.string
fields law Utf8 = utf8_reads law
fields law BigNumber = of_reading MpintText mpint_at law.mpint
fields law Names = of_reading NameListText names_at law.name_list
fields law Cookie = cookie_reads
fields law Reserved = reserved_reads

-- A form reads what fills it.
form_sound : IsTypesLaw → (form : Form) (bytes : List ℕ) (content : MessageData) (rest : List ℕ) → IsBytes bytes → form_at form bytes ≡ Ok (content, rest)
    → (text : List ℕ) × FillsForm form content text × (bytes ≡ text ++ rest)
form_sound law (Done c) bytes content rest h e =
    let same : ◌≡◌ {A = MessageData × List ℕ} (c, bytes) (content, rest) = cc in
    ([], (sym (ap (λ (p : MessageData × List ℕ). p.0) same), refl), ap (λ (p : MessageData × List ℕ). p.1) same)
form_sound law (Then f next) bytes content rest h e =
    let b = bind_ok (field_at f bytes) (λ (x : Of f × List ℕ). form_at (next x.0) x.1) (content, rest) e in
    let s = (fields law f).sound bytes b.0.0 b.0.1 h b.1 in
    let all : IsBytes (s.0 ++ b.0.1) = rw s.2 at h in
    let more = form_sound law (next b.0.0) b.0.1 content rest (bytes_after s.0 b.0.1 all) b.2 in
    (s.0 ++ more.0, (b.0.0, s.0, more.0, s.1, more.1, refl), s.2 ∙ (ap (λ (xs : List ℕ). s.0 ++ xs) more.2 ∙ sym (append_assoc s.0 more.0 rest)))
form_sound law (Rest next) bytes content rest h e =
    let same : ◌≡◌ {A = MessageData × List ℕ} (next bytes, []) (content, rest) = cc in
    let back : [] ≡ rest = ap (λ (p : MessageData × List ℕ). p.1) same in
    (bytes, sym (ap (λ (p : MessageData × List ℕ). p.0) same), sym (append-nil bytes) ∙ ap (λ (xs : List ℕ). bytes ++ xs) back)

form_complete : IsTypesLaw → (form : Form) (content : MessageData) (text : List ℕ) → FillsForm form content text → form_at form text ≡ Ok (content, [])
form_complete law (Done c) content text (is, none) = rw (is, none) refl
form_complete law (Then f next) content text (value, a, b, t, more, is) =
    ap (λ (xs : List ℕ). field_at f xs >>= (λ (x : Of f × List ℕ). form_at (next x.0) x.1)) is
    ∙ (ap (λ (r : Result (Of f × List ℕ) WireFault). r >>= (λ (x : Of f × List ℕ). form_at (next x.0) x.1)) ((fields law f).complete value a b t)
    ∙ form_complete law (next value) content b more)
form_complete law (Rest next) content text is = rw is refl

-- A payload reads as the message that it spells.
pub whole_ok : (n : ℕ) (r : Result (MessageData × List ℕ) WireFault) (m : MessageData) → whole_form n r ≡ Ok m → r ≡ Ok (m, [])
whole_ok n (Ok (content, [])) m e = let same : content ≡ m = cc in ap (λ (c : MessageData). Ok (c, [])) same
whole_ok n (Ok (content, b ∷ bs)) m e = cc
whole_ok n (Err d) m e = cc

in_form_ok : IsTypesLaw → (shares : ShareForm) (n : ℕ) (bytes : List ℕ) (form : Option Form) (m : MessageData) → IsBytes bytes → form_of shares n ≡ form → in_form n bytes form ≡ Ok m
    → Spells shares m (n ∷ bytes)
in_form_ok law shares n bytes None m h known e = cc
in_form_ok law shares n bytes (Some form) m h known e =
    let s = form_sound law form bytes m [] h (whole_ok n (form_at form bytes) m e) in
    let same : bytes ≡ s.0 = s.2 ∙ append-nil s.0 in
    record { number = n; form = form; fields = s.0; known = known; fills = s.1; payload_is = ap (λ (xs : List ℕ). n ∷ xs) same }

pub message_sound : IsTypesLaw → (shares : ShareForm) (payload : List ℕ) (m : MessageData) → IsBytes payload → message_in shares payload ≡ Ok m → Spells shares m payload
unfolding message_in
message_sound law shares [] m h e = cc
message_sound law shares (n ∷ bytes) m h e = in_form_ok law shares n bytes (form_of shares n) m (λ i. h (suc i)) refl e

spelled : IsTypesLaw → (shares : ShareForm) (n : ℕ) (bytes : List ℕ) (form : Form) (m : MessageData) → form_of shares n ≡ Some form → FillsForm form m bytes → message_in shares (n ∷ bytes) ≡ Ok m
unfolding message_in
spelled law shares n bytes form m known fills =
    ap (λ (o : Option Form). in_form n bytes o) known
    ∙ ap (λ (r : Result (MessageData × List ℕ) WireFault). whole_form n r) (form_complete law form m bytes fills)

pub message_complete : IsTypesLaw → (shares : ShareForm) (payload : List ℕ) (m : MessageData) → Spells shares m payload → message_in shares payload ≡ Ok m
message_complete law shares payload m s =
    ap (λ (xs : List ℕ). message_in shares xs) s.payload_is ∙ spelled law shares s.number s.fields s.form m s.known s.fills

pub one_message : IsTypesLaw → (shares : ShareForm) (payload : List ℕ) (m n : MessageData) → Spells shares m payload → Spells shares n payload → m ≡ n
one_message law shares payload m n s t =
    let same : ◌≡◌ {A = Result MessageData MsgFault} (Ok m) (Ok n) = sym (message_complete law shares payload m s) ∙ message_complete law shares payload n t in cc
