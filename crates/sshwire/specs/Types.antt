-- The data types of RFC 4251 section 5, as relations between values and the bytes that stand for them,
-- and the names of section 6. Texts are lists of bytes, numbers below 256: every slice is one.

use Rattle.std.specs.Prelude.{◌≡◌, ◌≢◌, ℕ, ◌+◌, ◌-◌, ◌*◌, ◌^◌, ◌<◌, ◌≤◌, ◌==◌, ℤ, pos, negsuc, Bool, not, nat_lt, if◌then◌else◌, List, [], ◌∷◌, ◌++◌, length, slice_index}
use Rattle.std.specs.List.{AllByRecursion, join_with_byte}
use Rattle.byteorder.specs.Endian.{big_bytes}
use Rattle.sshwire.specs.declared.limits.TheConstants.{NAME_LIMIT}

-- the numbers of the list are bytes
abbrev pub IsBytes : List ℕ → Type 0
IsBytes bytes = (i : ℕ) → slice_index bytes i < 256

-- boolean: 0 is FALSE, every other byte TRUE
abbrev pub BooleanText : Bool → List ℕ → Type 0
BooleanText value [] = ⊥
BooleanText value (b ∷ []) = value ≡ not (b == 0)
BooleanText value (b ∷ c ∷ more) = ⊥

-- what is written for a boolean
abbrev pub boolean : Bool → List ℕ
boolean value = (if value then 1 else 0) ∷ []

-- uint32: four bytes, the most significant first
abbrev pub uint32 : ℕ → List ℕ
uint32 n = big_bytes 4 n

-- the text is the uint32 of this number, which is below 2^32 (RFC 4251 section 5)
abbrev pub Uint32Text : ℕ → List ℕ → Type 0
Uint32Text n text = (n < 2 ^ 32) × (text ≡ uint32 n)

-- string: a uint32 with its length, and that many bytes
abbrev pub string : List ℕ → List ℕ
string bytes = uint32 (length bytes) ++ bytes

-- the text is the string of these bytes, which are fewer than 2^32 (RFC 4251 section 5)
abbrev pub StringText : List ℕ → List ℕ → Type 0
StringText bytes text = (length bytes < 2 ^ 32) × (text ≡ string bytes)

-- the number that the bytes are in base 256, the most significant first
abbrev pub unsigned_value : List ℕ → ℕ
unsigned_value [] = 0
unsigned_value (b ∷ bs) = b * 256 ^ length bs + unsigned_value bs

-- the number that the bytes are in two's complement, the most significant first; no bytes are zero
abbrev pub signed_value : List ℕ → ℤ
signed_value [] = pos 0
signed_value (b ∷ bs) =
    if nat_lt b 128 then pos (unsigned_value (b ∷ bs))
    else negsuc (256 ^ length (b ∷ bs) - 1 - unsigned_value (b ∷ bs))

-- no shorter bytes have the same value: 'unnecessary leading bytes MUST NOT be included'
abbrev pub IsShortestBody : List ℕ → Type 0
IsShortestBody body = (other : List ℕ) → IsBytes other → signed_value other ≡ signed_value body → length body ≤ length other

-- mpint: a string whose body is the shortest with its value
abbrev pub MpintText : List ℕ → List ℕ → Type 0
MpintText body text = IsBytes body × IsShortestBody body × StringText body text

-- a byte of a name: printable US-ASCII, and neither space nor comma
pub record IsNameByte (b : ℕ) : Type 0 where
  pub above_space : 33 ≤ b
  pub printable : b ≤ 126
  pub no_comma : b ≢ 44

-- a name: 1 to 64 such bytes; the at-sign has no rule of its own (profile)
pub record IsName (name : List ℕ) : Type 0 where
  pub not_empty : 0 < length name
  pub short : length name ≤ NAME_LIMIT
  pub bytes : AllByRecursion IsNameByte name

-- each of these is a name (RFC 4251 section 6); that it is so in every list is profile
abbrev pub AreNames : List (List ℕ) → Type 0
AreNames names = AllByRecursion IsName names

-- the names with single commas between
abbrev pub names_body : List (List ℕ) → List ℕ
names_body names = join_with_byte 44 names

-- name-list: a string of names with commas between
abbrev pub name_list : List (List ℕ) → List ℕ
name_list names = string (names_body names)

-- the text is the name-list of these names (RFC 4251 section 5)
abbrev pub NameListText : List (List ℕ) → List ℕ → Type 0
NameListText names text = AreNames names × StringText (names_body names) text
