-- The form of a message: its fields in order, each of which may decide what follows.

use Rattle.std.specs.Prelude.{◌≡◌, ℕ, Bool, nat_lt, if◌then◌else◌, List, [], ◌++◌, length, take, drop, Result, Ok, Err}
use Rattle.std.specs.Str.{IsUtf8, is_utf8}
use Rattle.sshwire.specs.declared.fault.WireFault.{WireFault}
use Rattle.sshwire.specs.declared.fault.WireFault.TheVariants.{Name, Short}
use Rattle.sshwire.specs.Types.{BooleanText, MpintText, NameListText, StringText, Uint32Text}
use Rattle.sshwire.specs.TypeReadings.{◌>>=◌, boolean_at, mpint_at, names_at, string_at, uint32_at}

-- the kinds of fields: the data types of RFC 4251 section 5, a string of UTF-8 text, and the 16 bytes of the cookie
-- and the four of the reserved word of a KEXINIT
pub data Field : Type 0 where
  Flag : Field
  Number : Field
  Bytes : Field
  Utf8 : Field
  BigNumber : Field
  Names : Field
  Cookie : Field
  Reserved : Field

-- what a field holds; the reserved word holds nothing
abbrev pub Of : Field → Type 0
Of Flag = Bool
Of Number = ℕ
Of Bytes = List ℕ
Of Utf8 = List ℕ
Of BigNumber = List ℕ
Of Names = List (List ℕ)
Of Cookie = List ℕ
Of Reserved = Unit {0}

-- The bytes stand for the field: a text of its data type (RFC 4251 section 5); the 16 bytes of a cookie, or any four bytes for the reserved
-- number (RFC 4253 section 7.1).
abbrev pub FieldText : (f : Field) → Of f → List ℕ → Type 0
FieldText Flag value text = BooleanText value text
FieldText Number value text = Uint32Text value text
FieldText Bytes value text = StringText value text
FieldText Utf8 value text = IsUtf8 value × StringText value text
FieldText BigNumber value text = MpintText value text
FieldText Names value text = NameListText value text
FieldText Cookie value text = (length value ≡ 16) × (text ≡ value)
FieldText Reserved value text = length text ≡ 4

-- so many bytes, and what is left
abbrev pub bytes_at : ℕ → List ℕ → Result (List ℕ × List ℕ) WireFault
bytes_at n bytes = if nat_lt (length bytes) n then Err Short else Ok (take n bytes, drop n bytes)

-- a string at the front that is UTF-8, and what is left
unfoldable pub utf8_at : List ℕ → Result (List ℕ × List ℕ) WireFault
utf8_at bytes = do
  s ← string_at bytes
  if is_utf8 s.0 then Ok s else Err Name

-- a field of this kind at the front, and what is left (RFC 4251 section 5)
abbrev pub field_at : (f : Field) → List ℕ → Result (Of f × List ℕ) WireFault
field_at Flag bytes = boolean_at bytes
field_at Number bytes = uint32_at bytes
field_at Bytes bytes = string_at bytes
field_at Utf8 bytes = utf8_at bytes
field_at BigNumber bytes = mpint_at bytes
field_at Names bytes = names_at bytes
field_at Cookie bytes = bytes_at 16 bytes
field_at Reserved bytes = bytes_at 4 bytes >>= λ x. Ok (tt, x.1)

-- a form of contents: nothing more, a field and what follows it, or all bytes to the end
pub data FormOf (C : Type 0) : Type 0 where
  Done : C → FormOf C
  Then : (f : Field) → (Of f → FormOf C) → FormOf C
  Rest : (List ℕ → C) → FormOf C

-- the bytes are the fields of the content in this form, and nothing follows
abbrev pub FillsForm : {C : Type 0} → FormOf C → C → List ℕ → Type 0
FillsForm (Done c) content bytes = (content ≡ c) × (bytes ≡ [])
FillsForm (Then f next) content bytes =
    (value : Of f) × (text : List ℕ) × (rest : List ℕ) × FieldText f value text × FillsForm (next value) content rest × (bytes ≡ text ++ rest)
FillsForm (Rest next) content bytes = content ≡ next bytes

-- the content at the front of the bytes, and what is left
abbrev pub form_at : {C : Type 0} → FormOf C → List ℕ → Result (C × List ℕ) WireFault
form_at (Done c) bytes = Ok (c, bytes)
form_at (Then f next) bytes = field_at f bytes >>= λ x. form_at (next x.0) x.1
form_at (Rest next) bytes = Ok (next bytes, [])
