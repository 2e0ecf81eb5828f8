-- The tests on version lines of each form decide the claims.

use Rattle.std.proofs.Common.{◌≡◌, ℕ, ◌+◌, ◌-◌, ◌<◌, ◌≤◌, ◌⊎◌, inl, inr, Bool, true, false, ◌||◌, List, [], ◌∷◌, ◌++◌, length, take, drop, Option, None, Some, IfSome, refl, sym, ap, ◌∙◌, arith, lit≤, subst, eqb, leb}
use Rattle.std.specs.List.{AllByRecursion, starts_with, ends_with}
use Rattle.std.proofs.lemmas.Bool.{cases_Bool, leb-true, le-leb, ne_eqb, and_parts, and_from, both_ways, false_from_ne_true}
use Rattle.std.proofs.lemmas.Bool.Decides.{Decides-eqb}
use Rattle.std.proofs.lemmas.Slice.Eq.{starts_is, ends_is}
use Rattle.std.proofs.lemmas.List.{append_assoc, append_cancel_right, length-append, take_at, take_all}
use Rattle.sshwire.specs.declared.line_form.LineForm.{LineForm}
use Rattle.sshwire.specs.declared.line_form.LineForm.TheVariants.{Strict, Deployed}
use Rattle.sshwire.specs.declared.line_form.ReadBy.{ReadBy}
use Rattle.sshwire.specs.declared.line_form.ReadBy.TheVariants.{Client, Server}
use Rattle.sshwire.specs.Lines.{BeginsSsh, IsCommentByte, IsDeployedByte, IsDeployedText, IsLineAfter, IsLineByte, IsProtocol, IsSoftwareByte, IsTextBy, IsVersionText, comment_part, ssh_1_99, ssh_2_0, text_in, version_line, with_lf}
use Rattle.sshwire.specs.Reading.{before_cr, has_protocol, is_deployed_after, is_deployed_byte, is_deployed_software, is_deployed_text, is_line_by, is_space, text_by}
use Rattle.sshwire.proofs.VersionText.{IsTail, tail_from, tail_test, text_in-version_line, version_line_tested, whole_line_from_test}

pub append_all : (P : ℕ → Type 0) (xs ys : List ℕ) → AllByRecursion P xs → AllByRecursion P ys → AllByRecursion P (xs ++ ys)
append_all P [] ys p q = q
append_all P (x ∷ xs) ys p q = (p.0, append_all P xs ys p.1 q)

pub weaker_all : (P Q : ℕ → Type 0) → ((b : ℕ) → P b → Q b) → (xs : List ℕ) → AllByRecursion P xs → AllByRecursion Q xs
weaker_all P Q each [] p = tt
weaker_all P Q each (x ∷ xs) p = (each x p.0, weaker_all P Q each xs p.1)

last_of : (P : ℕ → Type 0) (xs : List ℕ) (y : ℕ) → AllByRecursion P (xs ++ y ∷ []) → P y
last_of P [] y p = p.0
last_of P (x ∷ xs) y p = last_of P xs y p.1

-- bytes of the softwareversion
deployed_byte : (b : ℕ) → is_deployed_byte b ≡ true → IsDeployedByte b
deployed_byte b t =
    let p = and_parts (leb 33 b) (leb b 126) t in
    record { above_space = leb-true 33 b p.0; printable = leb-true b 126 p.1 }

deployed_byte_test : (b : ℕ) → IsDeployedByte b → is_deployed_byte b ≡ true
deployed_byte_test b h = and_from _ _ (le-leb 33 b h.above_space) (le-leb b 126 h.printable)

deployed_not_space : (b : ℕ) → IsDeployedByte b → is_space b ≡ false
deployed_not_space b h = let above : 33 ≤ b = h.above_space in ne_eqb b 32 (λ e. omega arith)

-- what stands after the protocol
software_from_test : (bytes : List ℕ) → is_deployed_software bytes ≡ true → IsTail IsDeployedByte bytes
unfolding is_deployed_software
software_from_test bytes t = tail_from IsDeployedByte is_deployed_byte deployed_byte bytes t

software_tested : (software : List ℕ) (comments : Option (List ℕ)) → 0 < length software → AllByRecursion IsDeployedByte software
    → IfSome comments (AllByRecursion IsCommentByte) → is_deployed_software (software ++ comment_part comments) ≡ true
unfolding is_deployed_software
software_tested software comments some s c = tail_test IsDeployedByte is_deployed_byte deployed_byte_test deployed_not_space software comments some s c

after_from_test : (by : ReadBy) (protocol text : List ℕ) → IsProtocol by protocol → length text ≤ 253 → is_deployed_after protocol text ≡ true → IsDeployedText by text
unfolding is_deployed_after
after_from_test by protocol text is short t =
    let p = and_parts (starts_with eqb text protocol) (is_deployed_software (drop (length protocol) text)) t in
    let begins : text ≡ protocol ++ drop (length protocol) text = (starts_is Decides-eqb text protocol (starts_with eqb text protocol) refl).0 p.0 in
    let tail = software_from_test (drop (length protocol) text) p.1 in
    record {
      protocol = protocol;
      is_protocol = is;
      software = tail.software;
      comments = tail.comments;
      text_is = begins ∙ ap (λ (xs : List ℕ). protocol ++ xs) tail.bytes_are;
      not_empty = tail.not_empty;
      software_bytes = tail.software_bytes;
      comment_bytes = tail.comment_bytes;
      short = short;
    }

protocol_from_test : (by : ReadBy) (text : List ℕ) → length text ≤ 253 → has_protocol by text ≡ true → IsDeployedText by text
protocol_from_test Server text short t = after_from_test Server ssh_2_0 text refl short t
protocol_from_test Client text short t = elim (cases_Bool (is_deployed_after ssh_2_0 text)) [
  | inl a ↦ after_from_test Client ssh_2_0 text (inl refl) short a
  | inr f ↦
      let a : is_deployed_after ssh_1_99 text ≡ true = rw f at t in
      after_from_test Client ssh_1_99 text (inr refl) short a
]

pub deployed_from_test : (by : ReadBy) (text : List ℕ) → is_deployed_text by text ≡ true → IsDeployedText by text
unfolding is_deployed_text
deployed_from_test by text t =
    let p = and_parts (leb (length text) 253) (has_protocol by text) t in
    protocol_from_test by text (leb-true (length text) 253 p.0) p.1

after_tested : (protocol text tail : List ℕ) → text ≡ protocol ++ tail → drop (length protocol) (protocol ++ tail) ≡ tail → is_deployed_software tail ≡ true
    → is_deployed_after protocol text ≡ true
unfolding is_deployed_after
after_tested protocol text tail is cut tested =
    let begins : starts_with eqb text protocol ≡ true = (starts_is Decides-eqb text protocol (starts_with eqb text protocol) refl).1 tail is in
    let rest : drop (length protocol) text ≡ tail = ap (λ (xs : List ℕ). drop (length protocol) xs) is ∙ cut in
    and_from _ _ begins (rw rest tested)

first_or : (a b : Bool) → a ≡ true → (a || b) ≡ true
first_or a b t = rw t refl

second_or : (a b : Bool) → b ≡ true → (a || b) ≡ true
second_or true b t = refl
second_or false b t = t

protocol_tested : (by : ReadBy) (text protocol tail : List ℕ) → IsProtocol by protocol → text ≡ protocol ++ tail → is_deployed_software tail ≡ true
    → has_protocol by text ≡ true
protocol_tested Server text protocol tail is begins t =
    after_tested ssh_2_0 text tail (begins ∙ ap (λ (xs : List ℕ). xs ++ tail) is) refl t
protocol_tested Client text protocol tail (inl is) begins t =
    first_or (is_deployed_after ssh_2_0 text) (is_deployed_after ssh_1_99 text)
    (after_tested ssh_2_0 text tail (begins ∙ ap (λ (xs : List ℕ). xs ++ tail) is) refl t)
protocol_tested Client text protocol tail (inr is) begins t =
    second_or (is_deployed_after ssh_2_0 text) (is_deployed_after ssh_1_99 text)
    (after_tested ssh_1_99 text tail (begins ∙ ap (λ (xs : List ℕ). xs ++ tail) is) refl t)

pub deployed_tested : (by : ReadBy) (text : List ℕ) → IsDeployedText by text → is_deployed_text by text ≡ true
unfolding is_deployed_text
deployed_tested by text v =
    and_from _ _ (le-leb (length text) 253 v.short)
    (protocol_tested by text v.protocol (v.software ++ comment_part v.comments) v.is_protocol v.text_is
    (software_tested v.software v.comments v.not_empty v.software_bytes v.comment_bytes))

-- the bytes of such a text are printable or spaces
protocol_2_0 : AllByRecursion IsCommentByte ssh_2_0
protocol_2_0 =
    let one : (b : ℕ) → 32 ≤ b → b ≤ 126 → IsCommentByte b = λ b low high. record { from_space = low; printable = high } in
    (one 83 (lit≤ tt) (lit≤ tt), (one 83 (lit≤ tt) (lit≤ tt), (one 72 (lit≤ tt) (lit≤ tt), (one 45 (lit≤ tt) (lit≤ tt), (one 50 (lit≤ tt) (lit≤ tt), (one 46 (lit≤ tt) (lit≤ tt), (one 48 (lit≤ tt) (lit≤ tt), (one 45 (lit≤ tt) (lit≤ tt), tt))))))))

protocol_1_99 : AllByRecursion IsCommentByte ssh_1_99
protocol_1_99 =
    let one : (b : ℕ) → 32 ≤ b → b ≤ 126 → IsCommentByte b = λ b low high. record { from_space = low; printable = high } in
    (one 83 (lit≤ tt) (lit≤ tt), (one 83 (lit≤ tt) (lit≤ tt), (one 72 (lit≤ tt) (lit≤ tt), (one 45 (lit≤ tt) (lit≤ tt), (one 49 (lit≤ tt) (lit≤ tt), (one 46 (lit≤ tt) (lit≤ tt), (one 57 (lit≤ tt) (lit≤ tt), (one 57 (lit≤ tt) (lit≤ tt), (one 45 (lit≤ tt) (lit≤ tt), tt)))))))))

protocol_bytes : (protocol : List ℕ) → IsProtocol Client protocol → AllByRecursion IsCommentByte protocol
protocol_bytes protocol (inl is) = rw is protocol_2_0
protocol_bytes protocol (inr is) = rw is protocol_1_99

deployed_comment_byte : (b : ℕ) → IsDeployedByte b → IsCommentByte b
deployed_comment_byte b h = let low : 33 ≤ b = h.above_space in record { from_space = omega (arith, low); printable = h.printable }

part_bytes : (comments : Option (List ℕ)) → IfSome comments (AllByRecursion IsCommentByte) → AllByRecursion IsCommentByte (comment_part comments)
part_bytes None h = tt
part_bytes (Some comments) h = (record { from_space = lit≤ tt; printable = lit≤ tt }, h)

deployed_bytes : (text : List ℕ) → IsDeployedText Client text → AllByRecursion IsCommentByte text
deployed_bytes text v =
    let all : AllByRecursion IsCommentByte (v.protocol ++ (v.software ++ comment_part v.comments))
    = append_all IsCommentByte v.protocol (v.software ++ comment_part v.comments) (protocol_bytes v.protocol v.is_protocol)
    (append_all IsCommentByte v.software (comment_part v.comments)
    (weaker_all IsDeployedByte IsCommentByte deployed_comment_byte v.software v.software_bytes)
    (part_bytes v.comments v.comment_bytes)) in
    subst (λ (xs : List ℕ). AllByRecursion IsCommentByte xs) (sym v.text_is) all

-- so no CR ends it
no_cr_ends : (text : List ℕ) → IsDeployedText Client text → ends_with eqb text (13 ∷ []) ≡ false
no_cr_ends text v = false_from_ne_true _ (λ t.
    let front : List ℕ = take (length text - 1) text in
    let is : text ≡ front ++ 13 ∷ [] = (ends_is Decides-eqb text (13 ∷ []) (ends_with eqb text (13 ∷ [])) refl).0 t in
    let all : AllByRecursion IsCommentByte (front ++ 13 ∷ []) = subst (λ (xs : List ℕ). AllByRecursion IsCommentByte xs) is (deployed_bytes text v) in
    let low : 32 ≤ 13 = (last_of IsCommentByte front 13 all).from_space in
    omega (arith, low))

before_no_cr : (text : List ℕ) → IsDeployedText Client text → before_cr text ≡ text
unfolding before_cr
before_no_cr text v = rw (no_cr_ends text v) refl

before_one_cr : (text : List ℕ) → before_cr (text ++ 13 ∷ []) ≡ text
unfolding before_cr
before_one_cr text =
    let t : ends_with eqb (text ++ 13 ∷ []) (13 ∷ []) ≡ true = (ends_is Decides-eqb (text ++ 13 ∷ []) (13 ∷ []) (ends_with eqb (text ++ 13 ∷ []) (13 ∷ [])) refl).1 text refl in
    let long : length (text ++ 13 ∷ []) ≡ length text + 1 = length-append text (13 ∷ []) in
    rw t (take_at text (13 ∷ []) (length (text ++ 13 ∷ []) - 1) (omega (arith, long)))

-- a line ends with CR LF after what stands before the CR, or with LF
before_cr_ends : (line : List ℕ) → (with_lf line ≡ version_line (before_cr line)) ⊎ (with_lf line ≡ with_lf (before_cr line))
unfolding before_cr
before_cr_ends line = elim (cases_Bool (ends_with eqb line (13 ∷ []))) [
  | inl t ↦
      let text : List ℕ = take (length line - 1) line in
      let is : line ≡ text ++ 13 ∷ [] = (ends_is Decides-eqb line (13 ∷ []) (ends_with eqb line (13 ∷ [])) refl).0 t in
      let whole : with_lf line ≡ version_line text = ap (λ (xs : List ℕ). xs ++ 10 ∷ []) is ∙ append_assoc text (13 ∷ []) (10 ∷ []) in
      rw t (inl whole)
  | inr f ↦ rw f (inr refl)
]

-- it is a front of the line
pub before_cr_cut : (line : List ℕ) → take (length (before_cr line)) line ≡ before_cr line
unfolding before_cr
before_cr_cut line = elim (cases_Bool (ends_with eqb line (13 ∷ []))) [
  | inl t ↦
      let text : List ℕ = take (length line - 1) line in
      let is : line ≡ text ++ 13 ∷ [] = (ends_is Decides-eqb line (13 ∷ []) (ends_with eqb line (13 ∷ [])) refl).0 t in
      rw t (ap (λ (xs : List ℕ). take (length text) xs) is ∙ take_at text (13 ∷ []) (length text) refl)
  | inr f ↦ rw f (take_all (length line) line (omega arith))
]

-- a text of any form is one that a client reads of a deployed peer
software_deployed_byte : (b : ℕ) → IsSoftwareByte b → IsDeployedByte b
software_deployed_byte b h = record { above_space = h.above_space; printable = h.printable }

deployed_of : (by : ReadBy) (text : List ℕ) → IsProtocol by ssh_2_0 → IsVersionText text → IsDeployedText by text
deployed_of by text is v = record {
  protocol = ssh_2_0;
  is_protocol = is;
  software = v.software;
  comments = v.comments;
  text_is = v.text_is;
  not_empty = v.not_empty;
  software_bytes = weaker_all IsSoftwareByte IsDeployedByte software_deployed_byte v.software v.software_bytes;
  comment_bytes = v.comment_bytes;
  short = v.short;
}

both_take_2_0 : (by : ReadBy) → IsProtocol by ssh_2_0
both_take_2_0 Client = inl refl
both_take_2_0 Server = refl

client_takes : (by : ReadBy) (protocol : List ℕ) → IsProtocol by protocol → IsProtocol Client protocol
client_takes Client protocol is = is
client_takes Server protocol is = inl is

deployed_client : (by : ReadBy) (text : List ℕ) → IsDeployedText by text → IsDeployedText Client text
deployed_client by text v = record {
  protocol = v.protocol;
  is_protocol = client_takes by v.protocol v.is_protocol;
  software = v.software;
  comments = v.comments;
  text_is = v.text_is;
  not_empty = v.not_empty;
  software_bytes = v.software_bytes;
  comment_bytes = v.comment_bytes;
  short = v.short;
}

pub client_text : (form : LineForm) (text : List ℕ) → IsTextBy form text → IsDeployedText Client text
client_text Strict text v = deployed_of Client text (inl refl) v
client_text (Deployed by) text v = deployed_client by text v

-- a version text by the letter is one of each form
pub text_wider : (form : LineForm) (text : List ℕ) → IsVersionText text → IsTextBy form text
text_wider Strict text v = v
text_wider (Deployed by) text v = deployed_of by text (both_take_2_0 by) v

pub line_wider : (form : LineForm) (front text bytes : List ℕ) → bytes ≡ front ++ version_line text → IsLineAfter form front text bytes
line_wider Strict front text bytes is = is
line_wider (Deployed by) front text bytes is = inl is

-- the test of what stands before an LF, by each form
pub record LineTested (form : LineForm) (text line : List ℕ) : Type 0 where
  pub test : is_line_by form line ≡ true
  pub text_is : text_by form line ≡ text

pub record LineFromTest (form : LineForm) (line : List ℕ) : Type 0 where
  pub version : IsTextBy form (text_by form line)
  pub line_is : IsLineAfter form [] (text_by form line) (with_lf line)

pub line_from_test : (form : LineForm) (line : List ℕ) → is_line_by form line ≡ true → LineFromTest form line
line_from_test Strict line t = let w = whole_line_from_test (with_lf line) t in record { version = w.version; line_is = w.line_is }
line_from_test (Deployed by) line t = record { version = deployed_from_test by (before_cr line) t; line_is = before_cr_ends line }

deployed_line_tested : (by : ReadBy) (line text : List ℕ) → IsDeployedText by text → before_cr line ≡ text → LineTested (Deployed by) text line
deployed_line_tested by line text v is = record { test = rw is (deployed_tested by text v); text_is = is }

pub line_tested : (form : LineForm) (line text : List ℕ) → IsTextBy form text → IsLineAfter form [] text (with_lf line) → LineTested form text line
line_tested Strict line text v is = record { test = rw is (version_line_tested text v); text_is = ap text_in is ∙ text_in-version_line text }
line_tested (Deployed by) line text v (inl is) =
    let cut : line ≡ text ++ 13 ∷ [] = append_cancel_right line (text ++ 13 ∷ []) (10 ∷ []) (is ∙ sym (append_assoc text (13 ∷ []) (10 ∷ []))) in
    deployed_line_tested by line text v (ap before_cr cut ∙ before_one_cr text)
line_tested (Deployed by) line text v (inr is) =
    let cut : line ≡ text = append_cancel_right line text (10 ∷ []) is in
    deployed_line_tested by line text v (ap before_cr cut ∙ before_no_cr text (deployed_client by text v))

-- what the test refuses is no version line
pub no_line_by : (form : LineForm) (line : List ℕ) → is_line_by form line ≡ false → (text : List ℕ) → IsTextBy form text → IsLineAfter form [] text (with_lf line) → ⊥
no_line_by form line f text v is = both_ways (is_line_by form line) f (line_tested form line text v is).test

-- a line that the test takes by the letter it takes by each form, as the same text
pub tested_wider : (form : LineForm) (line : List ℕ) → is_line_by Strict line ≡ true → LineTested form (text_by Strict line) line
tested_wider form line t =
    let w = line_from_test Strict line t in
    line_tested form line (text_by Strict line) (text_wider form (text_by Strict line) w.version) (line_wider form [] (text_by Strict line) (with_lf line) w.line_is)

-- of a line that the test takes, the text is what stands before its CR, and a client reads it
pub record IsTaken (form : LineForm) (line : List ℕ) : Type 0 where
  pub test : is_deployed_text Client (before_cr line) ≡ true
  pub text_is : text_by form line ≡ before_cr line

pub taken : (form : LineForm) (line : List ℕ) → is_line_by form line ≡ true → IsTaken form line
taken Strict line t =
    let d = tested_wider (Deployed Client) line t in
    record { test = d.test; text_is = sym d.text_is }
taken (Deployed by) line t = record { test = deployed_tested Client (before_cr line) (deployed_client by (before_cr line) (deployed_from_test by (before_cr line) t)); text_is = refl }

-- what stands before the LF of a version line
pub record IsEnded (form : LineForm) (front text bytes : List ℕ) : Type 0 where
  pub line : List ℕ
  pub bytes_are : bytes ≡ front ++ with_lf line
  pub line_is : IsLineAfter form [] text (with_lf line)
  pub line_bytes : AllByRecursion IsLineByte line
  pub begins : BeginsSsh line
  pub short : length line ≤ 254

comment_line_byte : (b : ℕ) → IsCommentByte b → IsLineByte b
comment_line_byte b h = let low : 32 ≤ b = h.from_space in record { no_nul = λ e. omega arith; no_lf = λ e. omega arith }

text_line_bytes : (text : List ℕ) → IsDeployedText Client text → AllByRecursion IsLineByte text
text_line_bytes text v = weaker_all IsCommentByte IsLineByte comment_line_byte text (deployed_bytes text v)

begins_by : (protocol text rest : List ℕ) → IsProtocol Client protocol → text ≡ protocol ++ rest → BeginsSsh text
begins_by protocol text rest (inl v) is = (50 ∷ 46 ∷ 48 ∷ 45 ∷ rest, is ∙ ap (λ (xs : List ℕ). xs ++ rest) v)
begins_by protocol text rest (inr v) is = (49 ∷ 46 ∷ 57 ∷ 57 ∷ 45 ∷ rest, is ∙ ap (λ (xs : List ℕ). xs ++ rest) v)

text_begins : (text : List ℕ) → IsDeployedText Client text → BeginsSsh text
text_begins text v = begins_by v.protocol text (v.software ++ comment_part v.comments) v.is_protocol v.text_is

begins_more : (text : List ℕ) → BeginsSsh text → BeginsSsh (text ++ 13 ∷ [])
begins_more text (rest, e) = (rest ++ 13 ∷ [], ap (λ (xs : List ℕ). xs ++ 13 ∷ []) e)

ended_crlf : (form : LineForm) (front text bytes : List ℕ) → IsDeployedText Client text → bytes ≡ front ++ version_line text → IsEnded form front text bytes
ended_crlf form front text bytes v is =
    let cr : IsLineByte 13 = record { no_nul = λ e. omega arith; no_lf = λ e. omega arith } in
    let long : length (text ++ 13 ∷ []) ≡ length text + 1 = length-append text (13 ∷ []) in
    let short : length text ≤ 253 = v.short in
    let whole : version_line text ≡ with_lf (text ++ 13 ∷ []) = sym (append_assoc text (13 ∷ []) (10 ∷ [])) in
    record {
      line = text ++ 13 ∷ [];
      bytes_are = is ∙ ap (λ (xs : List ℕ). front ++ xs) whole;
      line_is = line_wider form [] text (with_lf (text ++ 13 ∷ [])) (sym whole);
      line_bytes = append_all IsLineByte text (13 ∷ []) (text_line_bytes text v) (cr, tt);
      begins = begins_more text (text_begins text v);
      short = omega (arith, long, short);
    }

pub ended : (form : LineForm) (front text bytes : List ℕ) → IsTextBy form text → IsLineAfter form front text bytes → IsEnded form front text bytes
ended Strict front text bytes v is = ended_crlf Strict front text bytes (client_text Strict text v) is
ended (Deployed by) front text bytes v (inl is) = ended_crlf (Deployed by) front text bytes (deployed_client by text v) is
ended (Deployed by) front text bytes v (inr is) =
    let short : length text ≤ 253 = v.short in
    let c : IsDeployedText Client text = deployed_client by text v in
    record {
      line = text;
      bytes_are = is;
      line_is = inr refl;
      line_bytes = text_line_bytes text c;
      begins = text_begins text c;
      short = omega (arith, short);
    }

-- a version line after more in front
pub line_after : (form : LineForm) (front text line : List ℕ) → IsLineAfter form [] text line → IsLineAfter form front text (front ++ line)
line_after Strict front text line is = ap (λ (xs : List ℕ). front ++ xs) is
line_after (Deployed by) front text line (inl is) = inl (ap (λ (xs : List ℕ). front ++ xs) is)
line_after (Deployed by) front text line (inr is) = inr (ap (λ (xs : List ℕ). front ++ xs) is)
