-- The reading of lines against their meaning: what is read stands there, what stands there is read, and cuts.

use Rattle.std.proofs.Common.{◌≡◌, ◌≢◌, ℕ, ◌+◌, ◌-◌, ◌<◌, ◌≤◌, inl, inr, true, false, List, [], ◌∷◌, ◌++◌, length, drop, refl, sym, ap, ◌∙◌, arith, eqb, leb, subst, get_or, add-one, drop-cons}
use Rattle.std.specs.List.{AllByRecursion, starts_with}
use Rattle.std.proofs.lemmas.Bool.{cases_Bool, leb-true, leb-false, le-leb, lt-leb, eqb-true, eqb-false, ne_eqb, eq-eqb, both_ways, false_from_ne_true}
use Rattle.std.proofs.lemmas.Bool.Decides.{Decides-eqb}
use Rattle.std.proofs.lemmas.Slice.Eq.{starts_is}
use Rattle.std.proofs.lemmas.List.{append_assoc, flat_map_more, append-nil, length-append}
use Rattle.sshwire.specs.declared.fault.WireFault.{WireFault}
use Rattle.sshwire.specs.declared.fault.WireFault.TheVariants.{Line, TooLong, TooManyLines}
use Rattle.sshwire.specs.declared.line_form.LineForm.{LineForm}
use Rattle.sshwire.specs.Lines.{BeginsSsh, IsCauseBy, IsLineAfter, IsLineByte, IsOtherLine, IsTextBy, IsUnfinished, LineOpen, PreambleBy, joined, ssh, with_lf}
use Rattle.sshwire.specs.Reading.{Reading, More, Got, Stop, Stops, StopsWithin, is_line_by, reading_by, text_by, then_on_by}
use Rattle.sshwire.specs.Meaning.{EndsPreambleBy}
use Rattle.sshwire.proofs.DeployedText.{append_all, ended, line_after, line_from_test, line_tested, no_line_by}

module _ (form : LineForm) where
  begins_from_test : (line : List ℕ) → starts_with eqb line ssh ≡ true → BeginsSsh line
  begins_from_test line t = (drop 4 line, (starts_is Decides-eqb line ssh (starts_with eqb line ssh) refl).0 t)

  begins_tested : (line : List ℕ) → BeginsSsh line → starts_with eqb line ssh ≡ true
  begins_tested line (rest, e) = (starts_is Decides-eqb line ssh (starts_with eqb line ssh) refl).1 rest e

  not_begins_tested : (line : List ℕ) → (BeginsSsh line → ⊥) → starts_with eqb line ssh ≡ false
  not_begins_tested line never = false_from_ne_true _ (λ t. never (begins_from_test line t))

  not_begins_from_test : (line : List ℕ) → starts_with eqb line ssh ≡ false → BeginsSsh line → ⊥
  not_begins_from_test line f b = both_ways _ f (begins_tested line b)

  -- A cut changes nothing.
  pub reading-append : (left : ℕ) (line bytes more : List ℕ) → reading_by form left line (bytes ++ more) ≡ then_on_by form (reading_by form left line bytes) more
  reading-append left line [] more = refl
  reading-append left line (b ∷ bs) more = elim (cases_Bool (eqb b 0)) [
    | inl t ↦ rw t refl
    | inr f ↦ elim (cases_Bool (eqb b 10)) [
      | inl t₁ ↦ elim (cases_Bool (starts_with eqb line ssh)) [
        | inl t₂ ↦ elim (cases_Bool (is_line_by form line)) [
          | inl t₃ ↦ rw (f, t₁, t₂, t₃) refl
          | inr f₃ ↦ rw (f, t₁, t₂, f₃) refl
        ]
        | inr f₂ ↦ elim (cases_Bool (eqb left 0)) [
          | inl t₃ ↦ rw (f, t₁, f₂, t₃) refl
          | inr f₃ ↦ rw (f, t₁, f₂, f₃) (reading-append (left - 1) [] bs more)
        ]
      ]
      | inr f₁ ↦ elim (cases_Bool (leb 254 (length line))) [
        | inl t₂ ↦ rw (f, f₁, t₂) refl
        | inr f₂ ↦ rw (f, f₁, f₂) (reading-append left (line ++ b ∷ []) bs more)
      ]
    ]
  ]

  -- A reading that stops has read a byte.
  stop_shorter : (left : ℕ) (line bytes : List ℕ) (code : WireFault) (after : List ℕ) → reading_by form left line bytes ≡ Stop code after → length after < length bytes
  stop_shorter left line [] code after e = cc
  stop_shorter left line (b ∷ bs) code after e = elim (cases_Bool (eqb b 0)) [
    | inl t ↦ let is : Stop Line bs ≡ Stop code after = rw t at e in let same : bs ≡ after = cc in omega (arith, ap (λ (xs : List ℕ). length xs) same)
    | inr f ↦ elim (cases_Bool (eqb b 10)) [
      | inl t₁ ↦ elim (cases_Bool (starts_with eqb line ssh)) [
        | inl t₂ ↦ elim (cases_Bool (is_line_by form line)) [
          | inl t₃ ↦ let is : Got (text_by form line) bs ≡ Stop code after = rw (f, t₁, t₂, t₃) at e in cc
          | inr f₃ ↦ let is : Stop Line bs ≡ Stop code after = rw (f, t₁, t₂, f₃) at e in let same : bs ≡ after = cc in omega (arith, ap (λ (xs : List ℕ). length xs) same)
        ]
        | inr f₂ ↦ elim (cases_Bool (eqb left 0)) [
          | inl t₃ ↦ let is : Stop TooManyLines bs ≡ Stop code after = rw (f, t₁, f₂, t₃) at e in let same : bs ≡ after = cc in omega (arith, ap (λ (xs : List ℕ). length xs) same)
          | inr f₃ ↦ let is : reading_by form (left - 1) [] bs ≡ Stop code after = rw (f, t₁, f₂, f₃) at e in
              let less = stop_shorter (left - 1) [] bs code after is in omega (arith, less)
        ]
      ]
      | inr f₁ ↦ elim (cases_Bool (leb 254 (length line))) [
        | inl t₂ ↦ let is : Stop TooLong bs ≡ Stop code after = rw (f, f₁, t₂) at e in let same : bs ≡ after = cc in omega (arith, ap (λ (xs : List ℕ). length xs) same)
        | inr f₂ ↦ let is : reading_by form left (line ++ b ∷ []) bs ≡ Stop code after = rw (f, f₁, f₂) at e in
            let less = stop_shorter left (line ++ b ∷ []) bs code after is in omega (arith, less)
      ]
    ]
  ]

  -- Where the reading of one byte stops, or memory runs out at it, so does the reading with more after it.
  stops_later : (r : Reading) (bs : List ℕ) → StopsWithin r [] → ((left : ℕ) (line : List ℕ) → r ≡ More left line → StopsWithin (reading_by form left line bs) bs) → StopsWithin (then_on_by form r bs) bs
  stops_later (More left line) bs within more code after e = more left line refl code after e
  stops_later (Got text rest) bs within more code after e = cc
  stops_later (Stop other rest) bs within more code after e = let less : length rest < 0 = within other rest refl in absurd (omega arith)

  pub stops_on : (code : WireFault) (left : ℕ) (line : List ℕ) (b : ℕ) (bs : List ℕ) → Stops code (reading_by form left line (b ∷ [])) [] → Stops code (reading_by form left line (b ∷ bs)) bs
  stops_on code left line b bs stops =
      let on : reading_by form left line (b ∷ bs) ≡ then_on_by form (reading_by form left line (b ∷ [])) bs = reading-append left line (b ∷ []) bs in
      record {
        refusal = λ other. on ∙ ap (λ (r : Reading). then_on_by form r bs) (stops.refusal other);
        memory = λ memory. subst (λ (r : Reading). StopsWithin r bs) (sym on)
            (stops_later (reading_by form left line (b ∷ [])) bs (stops.memory memory) (λ left' line' e code after is. stop_shorter left' line' bs code after is));
      }

  pub stops_in : (code : WireFault) (left : ℕ) (line piece : List ℕ) (i : ℕ) (r : Reading) → i < length piece → reading_by form left line (drop i piece) ≡ r
      → Stops code (reading_by form left line (get_or piece i 0 ∷ [])) [] → Stops code r (drop (i + 1) piece)
  stops_in code left line piece i r h e stops =
      let cut : drop i piece ≡ get_or piece i 0 ∷ drop (i + 1) piece = rw (add-one, drop-cons piece i 0) refl in
      subst (λ (x : Reading). Stops code x (drop (i + 1) piece)) (sym (ap (λ (xs : List ℕ). reading_by form left line xs) cut) ∙ e)
      (stops_on code left line (get_or piece i 0) (drop (i + 1) piece) stops)

  -- The reading of one byte, by cases.
  pub reads_nul : (left : ℕ) (line : List ℕ) (b : ℕ) (bs : List ℕ) → b ≡ 0 → reading_by form left line (b ∷ bs) ≡ Stop Line bs
  reads_nul left line b bs e = let t : eqb b 0 ≡ true = eq-eqb b 0 e in rw t refl

  not_zero : (b : ℕ) → b ≡ 10 → eqb b 0 ≡ false
  not_zero b e = ne_eqb b 0 (λ z. let bad : 10 ≡ 0 = sym e ∙ z in absurd (omega arith))

  reads_version : (left : ℕ) (line : List ℕ) (b : ℕ) (bs text : List ℕ) → b ≡ 10 → BeginsSsh line → IsTextBy form text
      → IsLineAfter form [] text (with_lf line) → reading_by form left line (b ∷ bs) ≡ Got text bs
  reads_version left line b bs text e begins v is =
      let f : eqb b 0 ≡ false = not_zero b e in
      let t : eqb b 10 ≡ true = eq-eqb b 10 e in
      let t₁ : starts_with eqb line ssh ≡ true = begins_tested line begins in
      let tested = line_tested form line text v is in
      let t₂ : is_line_by form line ≡ true = tested.test in
      rw (f, t, t₁, t₂) (ap (λ (x : List ℕ). Got x bs) tested.text_is)

  pub reads_no_version : (left : ℕ) (line : List ℕ) (b : ℕ) (bs : List ℕ) → b ≡ 10 → BeginsSsh line
      → ((text : List ℕ) → IsTextBy form text → IsLineAfter form [] text (with_lf line) → ⊥) → reading_by form left line (b ∷ bs) ≡ Stop Line bs
  reads_no_version left line b bs e begins never =
      let f : eqb b 0 ≡ false = not_zero b e in
      let t : eqb b 10 ≡ true = eq-eqb b 10 e in
      let t₁ : starts_with eqb line ssh ≡ true = begins_tested line begins in
      let f₂ : is_line_by form line ≡ false = false_from_ne_true _ (λ t. let w = line_from_test form line t in never _ w.version w.line_is) in
      rw (f, t, t₁, f₂) refl

  pub reads_too_many : (line : List ℕ) (b : ℕ) (bs : List ℕ) → b ≡ 10 → (BeginsSsh line → ⊥) → reading_by form 0 line (b ∷ bs) ≡ Stop TooManyLines bs
  reads_too_many line b bs e never =
      let f : eqb b 0 ≡ false = not_zero b e in
      let t : eqb b 10 ≡ true = eq-eqb b 10 e in
      let f₁ : starts_with eqb line ssh ≡ false = not_begins_tested line never in
      rw (f, t, f₁) refl

  reads_other : (left : ℕ) (line bs : List ℕ) → (BeginsSsh line → ⊥) → reading_by form (left + 1) line (10 ∷ bs) ≡ reading_by form left [] bs
  reads_other left line bs never =
      let f₁ : starts_with eqb line ssh ≡ false = not_begins_tested line never in
      let f₂ : eqb (left + 1) 0 ≡ false = ne_eqb (left + 1) 0 (λ z. omega arith) in
      let one_less : left + 1 - 1 ≡ left = omega arith in
      rw (f₁, f₂) (ap (λ (n : ℕ). reading_by form n [] bs) one_less)

  pub reads_too_long : (left : ℕ) (line : List ℕ) (b : ℕ) (bs : List ℕ) → b ≢ 0 → b ≢ 10 → length line ≡ 254 → reading_by form left line (b ∷ bs) ≡ Stop TooLong bs
  reads_too_long left line b bs no_nul no_lf long =
      let f : eqb b 0 ≡ false = ne_eqb b 0 no_nul in
      let f₁ : eqb b 10 ≡ false = ne_eqb b 10 no_lf in
      let t : leb 254 (length line) ≡ true = le-leb 254 (length line) (omega arith) in
      rw (f, f₁, t) refl

  reads_byte : (left : ℕ) (line : List ℕ) (b : ℕ) (bs : List ℕ) → b ≢ 0 → b ≢ 10 → length line < 254
      → reading_by form left line (b ∷ bs) ≡ reading_by form left (line ++ b ∷ []) bs
  reads_byte left line b bs no_nul no_lf short =
      let f : eqb b 0 ≡ false = ne_eqb b 0 no_nul in
      let f₁ : eqb b 10 ≡ false = ne_eqb b 10 no_lf in
      let f₂ : leb 254 (length line) ≡ false = lt-leb 254 (length line) short in
      rw (f, f₁, f₂) refl

  -- The bytes of a line are read into it.
  reads_bytes : (left : ℕ) (line bytes bs : List ℕ) → AllByRecursion IsLineByte bytes → length line + length bytes ≤ 254
      → reading_by form left line (bytes ++ bs) ≡ reading_by form left (line ++ bytes) bs
  reads_bytes left line [] bs each short = rw (append-nil line) refl
  reads_bytes left line (b ∷ bytes) bs each short =
      let long : length (line ++ b ∷ []) ≡ length line + 1 = length-append line (b ∷ []) in
      let more : length (line ++ b ∷ []) + length bytes ≤ 254 = omega arith in
      reads_byte left line b (bytes ++ bs) each.0.no_nul each.0.no_lf (omega arith)
      ∙ (reads_bytes left (line ++ b ∷ []) bytes bs each.1 more
      ∙ ap (λ (xs : List ℕ). reading_by form left xs bs) (append_assoc line (b ∷ []) bytes))

  -- Other lines are counted.
  reads_others : (left : ℕ) (others : List (List ℕ)) (bs : List ℕ) → AllByRecursion IsOtherLine others
      → reading_by form (left + length others) [] (joined others ++ bs) ≡ reading_by form left [] bs
  reads_others left [] bs each = ap (λ (n : ℕ). reading_by form n [] bs) (omega arith)
  reads_others left (line ∷ others) bs each =
      let n : left + length (line ∷ others) ≡ left + length others + 1 = omega arith in
      let grouped : joined (line ∷ others) ++ bs ≡ line ++ 10 ∷ (joined others ++ bs) = search append_assoc in
      rw (n, grouped)
      (reads_bytes (left + length others + 1) [] line (10 ∷ (joined others ++ bs)) each.0.unfinished.bytes (let short : length line ≤ 254 = each.0.unfinished.short in omega arith)
      ∙ (reads_other (left + length others) line (joined others ++ bs) each.0.no_ssh ∙ reads_others left others bs each.1))

  push_other : (others : List (List ℕ)) (line : List ℕ) → AllByRecursion IsOtherLine others → IsOtherLine line → AllByRecursion IsOtherLine (others ++ line ∷ [])
  push_other [] line p q = (q, tt)
  push_other (x ∷ xs) line p q = (p.0, push_other xs line p.1 q)

  joined_push : (others : List (List ℕ)) (line : List ℕ) → joined (others ++ line ∷ []) ≡ joined others ++ with_lf line
  joined_push others line = sym (flat_map_more with_lf [] others line)

  -- What stands there is read: a preamble, whatever follows.
  pub preamble_read : (k : ℕ) (text front rest : List ℕ) → PreambleBy form k text front → reading_by form k [] (front ++ rest) ≡ Got text rest
  preamble_read k text front rest p =
      let left : ℕ = k - length p.others in
      let few : length p.others ≤ k = p.few in
      let count : k ≡ left + length p.others = omega arith in
      let e = ended form (joined p.others) text front p.version p.bytes_are in
      let grouped : front ++ rest ≡ joined p.others ++ (e.line ++ 10 ∷ rest)
      = ap (λ (xs : List ℕ). xs ++ rest) e.bytes_are ∙ (append_assoc (joined p.others) (with_lf e.line) rest
      ∙ ap (λ (xs : List ℕ). joined p.others ++ xs) (append_assoc e.line (10 ∷ []) rest)) in
      let none : length e.line ≤ 254 = e.short in
      rw (grouped, count)
      (reads_others left p.others (e.line ++ 10 ∷ rest) p.each
      ∙ (reads_bytes left [] e.line (10 ∷ rest) e.line_bytes (omega arith) ∙ reads_version left e.line 10 rest text refl e.begins p.version e.line_is))

  -- What stands there is read: other lines and an unfinished one.
  pub open_read : (k : ℕ) (bytes : List ℕ) (left : ℕ) (line : List ℕ) → LineOpen k bytes left line → reading_by form k [] bytes ≡ More left line
  open_read k bytes left line o =
      let count : k ≡ left + length o.others = (let few : length o.others + left ≡ k = o.few in omega arith) in
      let short : length line ≤ 254 = o.unfinished.short in
      let grouped : bytes ≡ joined o.others ++ (line ++ []) = o.bytes_are ∙ ap (λ (xs : List ℕ). joined o.others ++ xs) (sym (append-nil line)) in
      rw (grouped, count)
      (reads_others left o.others (line ++ []) o.each ∙ reads_bytes left [] line [] o.unfinished.bytes (omega arith))

  -- Where the reading stops: the lines before the refused byte, and its own line.
  pub record Stopped (k : ℕ) (bytes : List ℕ) (code : WireFault) (rest : List ℕ) : Type 0 where
    pub others : List (List ℕ)
    pub few : length others ≤ k
    pub each : AllByRecursion IsOtherLine others
    pub line : List ℕ
    pub unfinished : IsUnfinished line
    pub byte : ℕ
    pub cause : IsCauseBy form k others line byte code
    pub bytes_are : bytes ≡ joined others ++ (line ++ byte ∷ rest)

  abbrev pub Parts : ℕ → List ℕ → Reading → Type 0
  Parts k bytes (More left line) = LineOpen k bytes left line
  Parts k bytes (Got text rest) = EndsPreambleBy form k bytes text rest
  Parts k bytes (Stop code rest) = Stopped k bytes code rest

  module _ (k left : ℕ) (received line : List ℕ) (o : LineOpen k received left line) where
    with_byte : (b : ℕ) (bs : List ℕ) → received ++ b ∷ bs ≡ joined o.others ++ (line ++ b ∷ bs)
    with_byte b bs = ap (λ (xs : List ℕ). xs ++ b ∷ bs) o.bytes_are ∙ append_assoc (joined o.others) line (b ∷ bs)

    stops_at : (b : ℕ) (bs : List ℕ) (code : WireFault) → IsCauseBy form k o.others line b code → Stopped k (received ++ b ∷ bs) code bs
    stops_at b bs code cause = record {
      others = o.others;
      few = (let few : length o.others + left ≡ k = o.few in omega arith);
      each = o.each;
      line = line;
      unfinished = o.unfinished;
      byte = b;
      cause = cause;
      bytes_are = with_byte b bs;
    }

    ends_at : (bs text : List ℕ) → IsTextBy form text → IsLineAfter form [] text (with_lf line) → EndsPreambleBy form k (received ++ 10 ∷ bs) text bs
    ends_at bs text v is =
        let grouped : line ++ 10 ∷ bs ≡ with_lf line ++ bs = search append_assoc in
        record {
          prefix = joined o.others ++ with_lf line;
          bytes_are = with_byte 10 bs ∙ (ap (λ (xs : List ℕ). joined o.others ++ xs) grouped ∙ sym (append_assoc (joined o.others) (with_lf line) bs));
          preamble = record {
            others = o.others;
            few = (let few : length o.others + left ≡ k = o.few in omega arith);
            each = o.each;
            version = v;
            bytes_are = line_after form (joined o.others) text (with_lf line) is;
          };
        }

    other_received : (BeginsSsh line → ⊥) → 0 < left → LineOpen k (received ++ 10 ∷ []) (left - 1) []
    other_received never some = record {
      others = o.others ++ line ∷ [];
      few = (let few : length o.others + left ≡ k = o.few in
          let long : length (o.others ++ line ∷ []) ≡ length o.others + 1 = length-append o.others (line ∷ []) in omega arith);
      each = push_other o.others line o.each (record { unfinished = o.unfinished; no_ssh = never });
      unfinished = record { bytes = tt; short = omega arith };
      bytes_are = with_byte 10 [] ∙ (sym (joined_push o.others line) ∙ sym (append-nil (joined (o.others ++ line ∷ []))));
    }

    byte_received : (b : ℕ) → b ≢ 0 → b ≢ 10 → length line < 254 → LineOpen k (received ++ b ∷ []) left (line ++ b ∷ [])
    byte_received b no_nul no_lf short = record {
      others = o.others;
      few = o.few;
      each = o.each;
      unfinished = record {
        bytes = append_all IsLineByte line (b ∷ []) o.unfinished.bytes (record { no_nul = no_nul; no_lf = no_lf }, tt);
        short = (let long : length (line ++ b ∷ []) ≡ length line + 1 = length-append line (b ∷ []) in omega arith);
      };
      bytes_are = with_byte b [];
    }

  parts_read : (k left : ℕ) (received line bytes : List ℕ) → LineOpen k received left line → Parts k (received ++ bytes) (reading_by form left line bytes)
  parts_read k left received line [] o = rw (append-nil received) o
  parts_read k left received line (b ∷ bs) o =
      let on : received ++ b ∷ bs ≡ (received ++ b ∷ []) ++ bs = search append_assoc in
      elim (cases_Bool (eqb b 0)) [
        | inl t ↦ rw t (stops_at k left received line o b bs Line (inl (eqb-true b 0 t)))
        | inr f ↦ elim (cases_Bool (eqb b 10)) [
          | inl t₁ ↦ let lf : b ≡ 10 = eqb-true b 10 t₁ in elim (cases_Bool (starts_with eqb line ssh)) [
            | inl t₂ ↦ elim (cases_Bool (is_line_by form line)) [
              | inl t₃ ↦
                  let w = line_from_test form line t₃ in
                  rw (f, t₁, t₂, t₃, lf) (ends_at k left received line o bs _ w.version w.line_is)
              | inr f₃ ↦ rw (f, t₁, t₂, f₃)
                  (stops_at k left received line o b bs Line (inr (lf, begins_from_test line t₂, no_line_by form line f₃)))
            ]
            | inr f₂ ↦ let never = not_begins_from_test line f₂ in elim (cases_Bool (eqb left 0)) [
              | inl t₃ ↦
                  let zero_left : left ≡ 0 = eqb-true left 0 t₃ in
                  let few : length o.others + left ≡ k = o.few in
                  rw (f, t₁, f₂, t₃)
                  (stops_at k left received line o b bs TooManyLines
                  (lf, record { unfinished = o.unfinished; no_ssh = never }, o.each, omega arith))
              | inr f₃ ↦
                  let some : left ≢ 0 = eqb-false left 0 f₃ in
                  rw (f, t₁, f₂, f₃, on, lf) (parts_read k (left - 1) (received ++ 10 ∷ []) [] bs (other_received k left received line o never (omega arith)))
            ]
          ]
          | inr f₁ ↦ elim (cases_Bool (leb 254 (length line))) [
            | inl t₂ ↦
                let long : 254 ≤ length line = leb-true 254 (length line) t₂ in
                let short : length line ≤ 254 = o.unfinished.short in
                rw (f, f₁, t₂) (stops_at k left received line o b bs TooLong (eqb-false b 0 f, eqb-false b 10 f₁, omega arith))
            | inr f₂ ↦ rw (f, f₁, f₂, on)
                (parts_read k left (received ++ b ∷ []) (line ++ b ∷ []) bs
                (byte_received k left received line o b (eqb-false b 0 f) (eqb-false b 10 f₁) (leb-false 254 (length line) f₂)))
          ]
        ]
      ]

  pub nothing_received : (k : ℕ) → LineOpen k [] k []
  nothing_received k = record { others = []; few = omega arith; each = tt; unfinished = record { bytes = tt; short = omega arith }; bytes_are = refl }

  pub read_parts : (k : ℕ) (bytes : List ℕ) → Parts k bytes (reading_by form k [] bytes)
  read_parts k bytes = parts_read k k [] [] bytes (nothing_received k)
