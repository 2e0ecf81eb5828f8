-- Version lines and what may stand before them: RFC 4253 section 4.2.
-- This project's profile: comments have printable US-ASCII alone, as the softwareversion has; only protoversion 2.0
-- is taken (section 5.1 has a client take 1.99 too, as the second grammar does); the limits on other lines and their number; the order of judgement.
-- Beside it stands a second grammar, of what deployed peers write. A name that ends with By takes the form; the same name
-- without it is that of the strict one.

use Rattle.std.specs.Prelude.{◌≡◌, ◌≢◌, ℕ, ◌+◌, ◌-◌, ◌<◌, ◌≤◌, ◌⊎◌, List, [], ◌∷◌, ◌++◌, length, take, Option, None, Some, IfSome}
use Rattle.std.specs.List.{AllByRecursion, flat_map}
use Rattle.sshwire.specs.declared.fault.WireFault.{WireFault}
use Rattle.sshwire.specs.declared.limits.TheConstants.{LINE_LIMIT}
use Rattle.sshwire.specs.declared.line_form.LineForm.{LineForm}
use Rattle.sshwire.specs.declared.line_form.LineForm.TheVariants.{Strict, Deployed}
use Rattle.sshwire.specs.declared.line_form.ReadBy.{ReadBy}
use Rattle.sshwire.specs.declared.line_form.ReadBy.TheVariants.{Client, Server}
use Rattle.sshwire.specs.declared.fault.WireFault.TheVariants.{Line, TooLong, TooManyLines, Memory}

-- a byte of the softwareversion: printable US-ASCII, and neither space nor minus sign
pub record IsSoftwareByte (b : ℕ) : Type 0 where
  pub above_space : 33 ≤ b
  pub printable : b ≤ 126
  pub no_minus : b ≢ 45

-- a byte of the comments: printable US-ASCII or a space
pub record IsCommentByte (b : ℕ) : Type 0 where
  pub from_space : 32 ≤ b
  pub printable : b ≤ 126

-- SSH-
abbrev pub ssh : List ℕ
ssh = 83 ∷ 83 ∷ 72 ∷ 45 ∷ []

-- SSH-2.0-
abbrev pub ssh_2_0 : List ℕ
ssh_2_0 = 83 ∷ 83 ∷ 72 ∷ 45 ∷ 50 ∷ 46 ∷ 48 ∷ 45 ∷ []

-- a space and the comments, where there are some
abbrev pub comment_part : Option (List ℕ) → List ℕ
comment_part None = []
comment_part (Some comments) = 32 ∷ comments

-- SSH-2.0-softwareversion SP comments
abbrev pub version_text : List ℕ → Option (List ℕ) → List ℕ
version_text software comments = ssh_2_0 ++ (software ++ comment_part comments)

-- the text of a version line, without its CR LF, which makes it at most 255 bytes
pub record IsVersionText (text : List ℕ) : Type 0 where
  pub software : List ℕ
  pub comments : Option (List ℕ)
  pub text_is : text ≡ version_text software comments
  pub not_empty : 0 < length software
  pub software_bytes : AllByRecursion IsSoftwareByte software
  pub comment_bytes : IfSome comments (AllByRecursion IsCommentByte)
  pub short : length text ≤ LINE_LIMIT - 2

-- the version line of a text: CR LF ends it
abbrev pub version_line : List ℕ → List ℕ
version_line text = text ++ 13 ∷ 10 ∷ []

-- what stands before the CR LF of a line
abbrev pub text_in : List ℕ → List ℕ
text_in line = take (length line - 2) line

-- a version line, with its CR LF
pub record IsWholeLine (line : List ℕ) : Type 0 where
  pub version : IsVersionText (text_in line)
  pub line_is : line ≡ version_line (text_in line)

-- a line with its LF
abbrev pub with_lf : List ℕ → List ℕ
with_lf line = line ++ 10 ∷ []

-- SSH-1.99-, by which a server says that it has 2.0 and older versions besides
abbrev pub ssh_1_99 : List ℕ
ssh_1_99 = 83 ∷ 83 ∷ 72 ∷ 45 ∷ 49 ∷ 46 ∷ 57 ∷ 57 ∷ 45 ∷ []

-- what a deployed peer's text begins with: SSH-2.0-, and where a client reads also SSH-1.99-, which it takes as 2.0
-- (RFC 4253 section 5.1)
abbrev pub IsProtocol : ReadBy → List ℕ → Type 0
IsProtocol Client protocol = (protocol ≡ ssh_2_0) ⊎ (protocol ≡ ssh_1_99)
IsProtocol Server protocol = protocol ≡ ssh_2_0

-- a byte of a deployed peer's softwareversion: printable US-ASCII and no space; it may be a minus sign
pub record IsDeployedByte (b : ℕ) : Type 0 where
  pub above_space : 33 ≤ b
  pub printable : b ≤ 126

-- The text of a deployed peer's version line, as this role reads it (RFC 4253 sections 4.2 and 5.1; minus signs are profile). It has what
-- it begins with, a softwareversion of at least one byte, and a space and comments where there are comments. It has at most 253 bytes.
pub record IsDeployedText (by : ReadBy) (text : List ℕ) : Type 0 where
  pub protocol : List ℕ
  pub is_protocol : IsProtocol by protocol
  pub software : List ℕ
  pub comments : Option (List ℕ)
  pub text_is : text ≡ protocol ++ (software ++ comment_part comments)
  pub not_empty : 0 < length software
  pub software_bytes : AllByRecursion IsDeployedByte software
  pub comment_bytes : IfSome comments (AllByRecursion IsCommentByte)
  pub short : length text ≤ LINE_LIMIT - 2

-- the text of a version line of this form
abbrev pub IsTextBy : LineForm → List ℕ → Type 0
IsTextBy Strict text = IsVersionText text
IsTextBy (Deployed by) text = IsDeployedText by text

-- The bytes are these in front and then the text with what ends its line: CR LF. As deployed peers write it LF alone may end
-- it: RFC 4253 section 4.2 leaves that to implementers, and by section 5.1 a server that says 1.99 sends no CR.
abbrev pub IsLineAfter : LineForm → List ℕ → List ℕ → List ℕ → Type 0
IsLineAfter Strict front text bytes = bytes ≡ front ++ version_line text
IsLineAfter (Deployed by) front text bytes = (bytes ≡ front ++ version_line text) ⊎ (bytes ≡ front ++ with_lf text)

-- a byte of a line before its LF
pub record IsLineByte (b : ℕ) : Type 0 where
  pub no_nul : b ≢ 0
  pub no_lf : b ≢ 10

-- the bytes of a line before its LF, or as many of them as have come: with the LF at most 255
pub record IsUnfinished (line : List ℕ) : Type 0 where
  pub bytes : AllByRecursion IsLineByte line
  pub short : length line ≤ LINE_LIMIT - 1

-- the line begins with `SSH-`
abbrev pub BeginsSsh : List ℕ → Type 0
BeginsSsh line = (rest : List ℕ) × (line ≡ ssh ++ rest)

-- a line before the version line, without its LF: it doesn't begin with SSH-
pub record IsOtherLine (line : List ℕ) : Type 0 where
  pub unfinished : IsUnfinished line
  pub no_ssh : BeginsSsh line → ⊥

-- the lines one after another, each with its LF
abbrev pub joined : List (List ℕ) → List ℕ
joined lines = flat_map with_lf lines

-- at most k other lines, and then the version line of the text
pub record PreambleBy (form : LineForm) (k : ℕ) (text bytes : List ℕ) : Type 0 where
  pub others : List (List ℕ)
  pub few : length others ≤ k
  pub each : AllByRecursion IsOtherLine others
  pub version : IsTextBy form text
  pub bytes_are : IsLineAfter form (joined others) text bytes

-- at most k other lines, each with its LF, and then the version line of the text, by the strict form (RFC 4253 section 4.2; k is profile)
abbrev pub Preamble : ℕ → List ℕ → List ℕ → Type 0
Preamble k text bytes = PreambleBy Strict k text bytes

-- no LF stands in the line
abbrev pub HasNoLf : List ℕ → Type 0
HasNoLf line = AllByRecursion (λ b. b ≢ 10) line

-- place i of the bytes: the lines that end before it, what of its own line stands before it, and its byte
pub record IsPlace (bytes : List ℕ) (i : ℕ) (lines : List (List ℕ)) (line : List ℕ) (byte : ℕ) : Type 0 where
  pub rest : List ℕ
  pub bytes_are : bytes ≡ joined lines ++ (line ++ byte ∷ rest)
  pub place : i ≡ length (joined lines ++ line)
  pub each_line : AllByRecursion HasNoLf lines
  pub own_line : HasNoLf line

-- why the byte after these lines and this prefix of a line is refused: it is a NUL, or the LF of a line that
-- begins with SSH- and is no version line; or byte 255 of its line, and neither LF nor NUL;
-- or the LF of other line k + 1
abbrev pub IsCauseBy : LineForm → ℕ → List (List ℕ) → List ℕ → ℕ → WireFault → Type 0
IsCauseBy form k lines line byte Line =
    (byte ≡ 0) ⊎ ((byte ≡ 10) × BeginsSsh line × ((text : List ℕ) → IsTextBy form text → IsLineAfter form [] text (with_lf line) → ⊥))
IsCauseBy form k lines line byte TooLong = (byte ≢ 0) × (byte ≢ 10) × (length line ≡ LINE_LIMIT - 1)
IsCauseBy form k lines line byte TooManyLines =
    (byte ≡ 10) × IsOtherLine line × AllByRecursion IsOtherLine lines × (length lines ≡ k)
IsCauseBy form k lines line byte _ = ⊥

-- why a byte is refused, by the strict form (profile)
abbrev pub IsCause : ℕ → List (List ℕ) → List ℕ → ℕ → WireFault → Type 0
IsCause k lines line byte code = IsCauseBy Strict k lines line byte code

-- at place i stands a cause of this refusal
pub record HasCauseBy (form : LineForm) (k : ℕ) (bytes : List ℕ) (i : ℕ) (code : WireFault) : Type 0 where
  pub lines : List (List ℕ)
  pub line : List ℕ
  pub byte : ℕ
  pub at : IsPlace bytes i lines line byte
  pub cause : IsCauseBy form k lines line byte code

-- at place i is a cause of this refusal, by the strict form
abbrev pub HasCause : ℕ → List ℕ → ℕ → WireFault → Type 0
HasCause k bytes i code = HasCauseBy Strict k bytes i code

-- The bytes are refused at place i: it is the least place at which a cause stands, and no preamble ends before it.
pub record LineRefusedBy (form : LineForm) (k : ℕ) (bytes : List ℕ) (i : ℕ) (code : WireFault) : Type 0 where
  pub cause : HasCauseBy form k bytes i code
  pub least : (j : ℕ) (other : WireFault) → j < i → HasCauseBy form k bytes j other → ⊥
  pub no_preamble : (j : ℕ) (text : List ℕ) → j ≤ i → PreambleBy form k text (take j bytes) → ⊥

-- The bytes are refused at place i, by the strict form: it is the least place with a cause, and no preamble ends before it (profile).
abbrev pub LineRefused : ℕ → List ℕ → ℕ → WireFault → Type 0
LineRefused k bytes i code = LineRefusedBy Strict k bytes i code

-- Neither has come yet: other lines, so many fewer than k, and an unfinished line.
pub record LineOpen (k : ℕ) (bytes : List ℕ) (left : ℕ) (line : List ℕ) : Type 0 where
  pub others : List (List ℕ)
  pub few : length others + left ≡ k
  pub each : AllByRecursion IsOtherLine others
  pub unfinished : IsUnfinished line
  pub bytes_are : bytes ≡ joined others ++ line

-- why the bytes aren't read as one version line
abbrev pub IsNoVersionLine : List ℕ → WireFault → Type 0
IsNoVersionLine bytes TooLong = LINE_LIMIT < length bytes
IsNoVersionLine bytes Line = (length bytes ≤ LINE_LIMIT) × ((text : List ℕ) → IsVersionText text → bytes ≡ version_line text → ⊥)
IsNoVersionLine bytes Memory = Unit {0}
IsNoVersionLine bytes _ = ⊥
