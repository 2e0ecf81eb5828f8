-- The fields of a scenario's line.

use Rattle.std.specs.Prelude.{ℕ, ◌+◌, ◌-◌, ◌*◌, ◌^◌, ◌==◌, ◌&&◌, nat_le, nat_lt, Bool, true, false, if◌then◌else◌, List, [], ◌∷◌, length, codes, Option, Some, None}
use Rattle.std.specs.Result.{result_ok}
use Rattle.std.specs.Str.{bytes_eq}
use Rattle.hex.specs.Hex.{decode_of}
use Rattle.sshneg.specs.declared.side.Side.{Side}
use Rattle.sshneg.specs.declared.side.Side.TheVariants.{Client, Server}

-- the byte is put in front of the first part
abbrev pub begins_with : ℕ → List (List ℕ) → List (List ℕ)
begins_with b [] = (b ∷ []) ∷ []
begins_with b (part ∷ parts) = (b ∷ part) ∷ parts

-- what stands between the bytes c of a text
unfoldable pub parts : ℕ → List ℕ → List (List ℕ)
parts c [] = [] ∷ []
parts c (b ∷ bytes) = if b == c then [] ∷ parts c bytes else begins_with b (parts c bytes)

-- the bytes that hexadecimal digits in either case spell; `-` is no bytes
unfoldable pub bytes_of : List ℕ → Option (List ℕ)
bytes_of field = if bytes_eq field (codes "-") then Some [] else result_ok (decode_of field)

-- the names between the commas; `-` is the empty list
unfoldable pub list_of : List ℕ → List (List ℕ)
list_of field = if bytes_eq field (codes "-") then [] else parts 44 field

-- the field `yes` or `no` as a flag; no other field is one
unfoldable pub flag_of : List ℕ → Option Bool
flag_of field = if bytes_eq field (codes "yes") then Some true else if bytes_eq field (codes "no") then Some false else None

-- the field `client` or `server` as a side; no other field is one
unfoldable pub side_of : List ℕ → Option Side
side_of field = if bytes_eq field (codes "client") then Some Client else if bytes_eq field (codes "server") then Some Server else None

-- a decimal digit
abbrev pub is_digit : ℕ → Bool
is_digit b = nat_le 48 b && nat_le b 57

-- the number that a digit makes of those before it, if it is a digit and the number is below 2^32
unfoldable pub with_digit : ℕ → ℕ → Option ℕ
with_digit n digit = if is_digit digit && nat_lt (n * 10 + (digit - 48)) (2 ^ 32) then Some (n * 10 + (digit - 48)) else None

-- the number that digits make of those before them
unfoldable pub with_digits : Option ℕ → List ℕ → Option ℕ
with_digits n [] = n
with_digits None (digit ∷ digits) = None
with_digits (Some n) (digit ∷ digits) = with_digits (with_digit n digit) digits

-- a number of one to ten decimal digits, below 2^32
unfoldable pub number_of : List ℕ → Option ℕ
number_of field = if length field == 0 then None else if nat_lt 10 (length field) then None else with_digits (Some 0) field
