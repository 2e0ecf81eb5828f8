-- The data types as functions: the value that stands at the front, and what is left; or why there is none.
-- The promise is in Types; the law function `types_law` ties the two.

use Rattle.std.specs.Prelude.{◌≡◌, ◌≢◌, ℕ, ◌+◌, ◌^◌, ◌==◌, ◌<◌, ◌&&◌, Bool, true, not, nat_le, nat_lt, if◌then◌else◌, List, [], ◌∷◌, ◌++◌, length, drop, take, Result, Ok, Err}
use Rattle.std.specs.List.{list_all, slice_split}
use Rattle.byteorder.specs.Endian.{big_number}
use Rattle.sshwire.specs.declared.fault.WireFault.{WireFault}
use Rattle.sshwire.specs.declared.limits.TheConstants.{NAME_LIMIT}
use Rattle.sshwire.specs.declared.fault.WireFault.TheVariants.{Short, Name, NotCanonical, Memory}
use Rattle.sshwire.specs.Types.{IsBytes}

infixl 10 ◌>>=◌
-- goes on with what was read
abbrev pub ◌>>=◌ : {A B : Type 0} → Result A WireFault → (A → Result B WireFault) → Result B WireFault
(Ok x) >>= f = f x
(Err e) >>= f = Err e

-- the boolean at the front, and what is left (RFC 4251 section 5)
abbrev pub boolean_at : List ℕ → Result (Bool × List ℕ) WireFault
boolean_at [] = Err Short
boolean_at (b ∷ bs) = Ok (not (b == 0), bs)

-- the uint32 at the front, and what is left (RFC 4251 section 5)
unfoldable pub uint32_at : List ℕ → Result (ℕ × List ℕ) WireFault
uint32_at bytes = if nat_lt (length bytes) 4 then Err Short else Ok (big_number 4 bytes, drop 4 bytes)

-- the string at the front, and what is left (RFC 4251 section 5)
unfoldable pub string_at : List ℕ → Result (List ℕ × List ℕ) WireFault
string_at bytes = do
  n ← uint32_at bytes
  if nat_lt (length n.1) n.0 then Err Short else Ok (take n.0 n.1, drop n.0 n.1)

-- the first byte isn't 00 with no byte or one below 80 after it, nor ff with one from 80 on (RFC 4251 section 5)
abbrev pub is_canonical : List ℕ → Bool
is_canonical [] = true
is_canonical (a ∷ []) = not (a == 0)
is_canonical (a ∷ b ∷ more) = not (a == 0 && nat_lt b 128) && not (a == 255 && nat_le 128 b)

-- what an `Mpint` always holds: the shortest body of its number, fewer than 2^32 bytes (RFC 4251 section 5)
pub record IsMpintBody (body : List ℕ) : Type 0 where
  pub bytes : IsBytes body
  pub canonical : is_canonical body ≡ true
  pub short : length body < 2 ^ 32

-- a string's body as an mpint; refused if it isn't the shortest of its number (RFC 4251 section 5)
unfoldable pub mpint_in : List ℕ → Result (List ℕ) WireFault
mpint_in body = if is_canonical body then Ok body else Err NotCanonical

-- the mpint at the front, as its body, and what is left (RFC 4251 section 5)
unfoldable pub mpint_at : List ℕ → Result (List ℕ × List ℕ) WireFault
mpint_at bytes = do
  s ← string_at bytes
  body ← mpint_in s.0
  Ok (body, s.1)

-- IsNameByte, as a test
abbrev pub is_name_byte : ℕ → Bool
is_name_byte b = nat_le 33 b && (nat_le b 126 && not (b == 44))

-- IsName, as a test (RFC 4251 section 6)
abbrev pub is_name : List ℕ → Bool
is_name name = nat_le 1 (length name) && (nat_le (length name) NAME_LIMIT && list_all is_name_byte name)

-- the byte is a comma
abbrev pub is_comma : ℕ → Bool
is_comma b = b == 44

-- what stands between the commas
abbrev pub parts : List ℕ → List (List ℕ)
parts body = slice_split is_comma body

-- the names of a string's body; refused if one of them is no name, and none of an empty body (RFC 4251 section 5)
unfoldable pub names_in : List ℕ → Result (List (List ℕ)) WireFault
names_in body =
    if length body == 0 then Ok [] else if list_all is_name (parts body) then Ok (parts body) else Err Name

-- what stands between the commas of a body, where no bytes are no names (RFC 4251 section 5)
unfoldable pub names_of : List ℕ → List (List ℕ)
names_of body = if length body == 0 then [] else parts body

-- what a BorrowedNameList lends: a body of names, and how many they are
pub record NamesBody (body : List ℕ) (count : ℕ) : Type 0 where
  pub names : names_in body ≡ Ok (names_of body)
  pub short : length body < 2 ^ 32
  pub count_is : count ≡ length (names_of body)

-- what a `BorrowedNameList` always lends: the body of a name-list, fewer than 2^32 bytes, and how many names it has (RFC 4251 section 5)
unfoldable pub IsNamesBody : List ℕ → ℕ → Type 0
IsNamesBody body count = NamesBody body count

-- where names end that stand from a place on with single commas between
abbrev pub ends_from : ℕ → List (List ℕ) → List ℕ
ends_from place [] = []
ends_from place (name ∷ names) = (place + length name) ∷ ends_from (place + length name + 1) names

-- what a NameList holds: a body of names, and where in it they end
pub record NameTable (body ends : List ℕ) : Type 0 where
  pub names : names_in body ≡ Ok (names_of body)
  pub short : length body < 2 ^ 32
  pub ends_are : ends ≡ ends_from 0 (names_of body)

-- what a `NameList` always holds: the body of a name-list, fewer than 2^32 bytes, and the places where its names end (RFC 4251 section 5)
unfoldable pub IsNameTable : List ℕ → List ℕ → Type 0
IsNameTable body ends = NameTable body ends

-- the name-list at the front, and what is left (RFC 4251 section 5)
unfoldable pub names_at : List ℕ → Result (List (List ℕ) × List ℕ) WireFault
names_at bytes = do
  s ← string_at bytes
  names ← names_in s.0
  Ok (names, s.1)

-- what a function answered, seen by view, is what the reading gives, unless memory ran out
abbrev pub Gives : {X Y : Type 0} → (X → Y) → Result X WireFault → Result Y WireFault → Type 0
Gives view (Ok x) read = read ≡ Ok (view x)
Gives view (Err e) read = e ≢ Memory → read ≡ Err e

-- what a call of a reader answers: what the reading gives, unless memory runs out; a refusal leaves the reader unchanged
abbrev pub Takes : {X Y : Type 0} → (X → Y) → Result X WireFault → (old new : List ℕ) → Result (Y × List ℕ) WireFault → Type 0
Takes view (Ok x) old new read = read ≡ Ok (view x, new)
Takes view (Err e) old new read = (new ≡ old) × (e ≢ Memory → read ≡ Err e)

-- what a reader answered in terms of the texts: the value stands at the front and is taken off,
-- or the reader is unchanged and, unless memory ran out, no value stands there
abbrev pub ReadsText : {X V : Type 0} → (V → List ℕ → Type 0) → (X → V) → Result X WireFault → (old new : List ℕ) → Type 0
ReadsText Text view (Ok x) old new = (text : List ℕ) × Text (view x) text × (old ≡ text ++ new)
ReadsText {V = V} Text view (Err e) old new =
    (new ≡ old) × (e ≢ Memory → (value : V) (text rest : List ℕ) → Text value text → old ≡ text ++ rest → ⊥)

-- What a reading must be: what it reads stands at the front, and what stands at the front is read, whatever follows.
pub record IsReading {V : Type 0} (Text : V → List ℕ → Type 0) (read : List ℕ → Result (V × List ℕ) WireFault) : Type 0 where
  pub sound : (bytes : List ℕ) (value : V) (rest : List ℕ) → IsBytes bytes → read bytes ≡ Ok (value, rest)
      → (text : List ℕ) × Text value text × (bytes ≡ text ++ rest)
  pub complete : (value : V) (text rest : List ℕ) → Text value text → read (text ++ rest) ≡ Ok (value, rest)
  -- no two readings hold of one text, nor of one prefix
  pub one : (value other : V) (text more rest after : List ℕ) → Text value text → Text other more
      → text ++ rest ≡ more ++ after → (value ≡ other) × (rest ≡ after)
