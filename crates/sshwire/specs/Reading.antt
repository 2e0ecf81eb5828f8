-- The lines of a stream as a function: what the bytes read as, and what is left after the place that decided it.
-- The promise is in Lines; the law function `reading_law` ties the two.

use Rattle.std.specs.Prelude.{◌≡◌, ◌≢◌, ℕ, true, Vec, ◌+◌, ◌-◌, ◌==◌, ◌&&◌, ◌||◌, ◌<◌, Bool, nat_le, nat_lt, nat_eq, not, if◌then◌else◌, List, [], ◌∷◌, ◌++◌, length, drop, take, Option, None, Some, Result, Ok, Err}
use Rattle.std.specs.List.{starts_with, ends_with, list_all, before_first, after_first}
use Rattle.sshwire.specs.declared.fault.WireFault.{WireFault}
use Rattle.sshwire.specs.declared.limits.TheConstants.{LINE_LIMIT}
use Rattle.sshwire.specs.declared.line_form.LineForm.{LineForm}
use Rattle.sshwire.specs.declared.line_form.LineForm.TheVariants.{Strict, Deployed}
use Rattle.sshwire.specs.declared.line_form.ReadBy.{ReadBy}
use Rattle.sshwire.specs.declared.line_form.ReadBy.TheVariants.{Client, Server}
use Rattle.sshwire.specs.declared.fault.WireFault.TheVariants.{Line, TooLong, TooManyLines, Memory}
use Rattle.sshwire.specs.Lines.{IsUnfinished, ssh, ssh_1_99, ssh_2_0, text_in, with_lf}

-- IsSoftwareByte, as a test
abbrev pub is_software_byte : ℕ → Bool
is_software_byte b = nat_le 33 b && (nat_le b 126 && not (b == 45))

-- IsCommentByte, as a test
abbrev pub is_comment_byte : ℕ → Bool
is_comment_byte b = nat_le 32 b && nat_le b 126

-- the byte is a space
abbrev pub is_space : ℕ → Bool
is_space b = b == 32

-- the bytes are a softwareversion, and perhaps a space and comments
unfoldable pub is_software_and_comments : List ℕ → Bool
is_software_and_comments bytes =
    nat_lt 0 (length (before_first is_space bytes))
    && (list_all is_software_byte (before_first is_space bytes) && list_all is_comment_byte (after_first is_space bytes))

-- IsVersionText, as a test (RFC 4253 section 4.2)
unfoldable pub is_version_text : List ℕ → Bool
is_version_text text = nat_le (length text) (LINE_LIMIT - 2) && (starts_with nat_eq text ssh_2_0 && is_software_and_comments (drop 8 text))

-- the softwareversion, which may have comments after a space, is that of a version line
abbrev pub is_part : List ℕ → Bool
is_part software = nat_le (length software) (LINE_LIMIT - 10) && is_software_and_comments software

-- the softwareversion, which may have comments of its own after a space, and the comments are those of a version line
abbrev pub are_parts : List ℕ → List ℕ → Bool
are_parts software comments =
    nat_le (length software + length comments) (LINE_LIMIT - 11) && (is_software_and_comments software && list_all is_comment_byte comments)

-- IsWholeLine, as a test
unfoldable pub is_version_line : List ℕ → Bool
is_version_line line = ends_with nat_eq line (13 ∷ 10 ∷ []) && is_version_text (text_in line)

-- IsDeployedByte, as a test
abbrev pub is_deployed_byte : ℕ → Bool
is_deployed_byte b = nat_le 33 b && nat_le b 126

-- the bytes are a deployed peer's softwareversion, and perhaps a space and comments
unfoldable pub is_deployed_software : List ℕ → Bool
is_deployed_software bytes =
    nat_lt 0 (length (before_first is_space bytes))
    && (list_all is_deployed_byte (before_first is_space bytes) && list_all is_comment_byte (after_first is_space bytes))

-- such bytes stand after this protocol
unfoldable pub is_deployed_after : List ℕ → List ℕ → Bool
is_deployed_after protocol text = starts_with nat_eq text protocol && is_deployed_software (drop (length protocol) text)

-- they stand after a protocol that is taken
abbrev pub has_protocol : ReadBy → List ℕ → Bool
has_protocol Client text = is_deployed_after ssh_2_0 text || is_deployed_after ssh_1_99 text
has_protocol Server text = is_deployed_after ssh_2_0 text

-- IsDeployedText, as a test (RFC 4253 sections 4.2 and 5.1)
unfoldable pub is_deployed_text : ReadBy → List ℕ → Bool
is_deployed_text by text = nat_le (length text) (LINE_LIMIT - 2) && has_protocol by text

-- a line without the CR that ends it, if one does
unfoldable pub before_cr : List ℕ → List ℕ
before_cr line = if ends_with nat_eq line (13 ∷ []) then take (length line - 1) line else line

-- what stands before an LF is a version line with it, and the text of that
abbrev pub is_line_by : LineForm → List ℕ → Bool
is_line_by Strict line = is_version_line (with_lf line)
is_line_by (Deployed by) line = is_deployed_text by (before_cr line)

-- the text of the version line before an LF, by its form
abbrev pub text_by : LineForm → List ℕ → List ℕ
text_by Strict line = text_in (with_lf line)
text_by (Deployed by) line = before_cr line

-- More bytes are wanted, with so many other lines left and this unfinished line;
-- or the text of the version line, or a refusal, with the bytes after the one that brought it.
pub data Reading : Type 0 where
  More : ℕ → List ℕ → Reading
  Got : List ℕ → List ℕ → Reading
  Stop : WireFault → List ℕ → Reading

-- reads on after an unfinished line, with so many other lines left
abbrev pub reading_by : LineForm → ℕ → List ℕ → List ℕ → Reading
reading_by form left line [] = More left line
reading_by form left line (b ∷ bs) =
    if b == 0 then Stop Line bs
    else if b == 10 then
    (if starts_with nat_eq line ssh then
    (if is_line_by form line then Got (text_by form line) bs else Stop Line bs)
    else if left == 0 then Stop TooManyLines bs
    else reading_by form (left - 1) [] bs)
    else if nat_le (LINE_LIMIT - 1) (length line) then Stop TooLong bs
    else reading_by form left (line ++ b ∷ []) bs

-- reads on after an unfinished line, with so many other lines left, by the strict form
abbrev pub reading : ℕ → List ℕ → List ℕ → Reading
reading left line bytes = reading_by Strict left line bytes

-- goes on with more bytes
abbrev pub then_on_by : LineForm → Reading → List ℕ → Reading
then_on_by form (More left line) more = reading_by form left line more
then_on_by form (Got text rest) more = Got text (rest ++ more)
then_on_by form (Stop code rest) more = Stop code (rest ++ more)

-- goes on with more bytes, by the strict form
abbrev pub then_on : Reading → List ℕ → Reading
then_on r more = then_on_by Strict r more

-- where the reading stops, it stops within the rest: what stands before it is not refused
abbrev pub StopsWithin : Reading → List ℕ → Type 0
StopsWithin r rest = (code : WireFault) (after : List ℕ) → r ≡ Stop code after → length after < length rest

-- the reading stops with the code; or memory ran out, where nothing that was read is refused
pub record Stops (code : WireFault) (r : Reading) (rest : List ℕ) : Type 0 where
  pub refusal : code ≢ Memory → r ≡ Stop code rest
  pub memory : code ≡ Memory → StopsWithin r rest

-- the line, which an LF ended, is a version line, and the reading is its text
abbrev pub TakesLine : LineForm → Reading → List ℕ → List ℕ → Type 0
TakesLine form r line rest = (is_line_by form line ≡ true) × (r ≡ Got (text_by form line) rest)

-- bytes with this reading were received, which left a line, and this stands after them
abbrev pub ReadsTo : {Z : Type 0} → LineForm → Reading → ℕ → List ℕ → List ℕ → Result (Option (Vec ℕ Z)) WireFault → Type 0
ReadsTo form r left line rest (Ok None) = (r ≡ More left line) × IsUnfinished line
ReadsTo form r left line rest (Ok (Some taken)) = TakesLine form r taken.items rest × (line ≡ [])
ReadsTo form r left line rest (Err code) = Stops code r rest
