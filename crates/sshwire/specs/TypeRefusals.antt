-- Why bytes are refused as a value of a data type, in the terms of the texts. The law function `types_law` ties this to the readings.

use Rattle.std.specs.Prelude.{◌≡◌, ◌<◌, ◌^◌, ◌⊎◌, ◌↔◌, ℕ, List, ◌++◌, length, Result, Err}
use Rattle.sshwire.specs.declared.fault.WireFault.{WireFault}
use Rattle.sshwire.specs.declared.fault.WireFault.TheVariants.{Short, Name, NotCanonical}
use Rattle.sshwire.specs.Types.{AreNames, IsBytes, IsShortestBody, StringText, names_body, string, uint32}

-- the one refusal is Short, where bytes are missing
abbrev pub OnlyShort : Type 0 → WireFault → Type 0
OnlyShort missing Short = missing
OnlyShort missing _ = ⊥

-- a length stands at the front, with fewer bytes after it
pub record IsCutAfterLength (bytes : List ℕ) : Type 0 where
  pub len : ℕ
  pub rest : List ℕ
  pub fits : len < 2 ^ 32
  pub bytes_are : bytes ≡ uint32 len ++ rest
  pub fewer : length rest < len

-- why there is no boolean at the front: no byte is there (RFC 4251 section 5)
abbrev pub BooleanRefused : List ℕ → WireFault → Type 0
BooleanRefused bytes code = OnlyShort (length bytes ≡ 0) code

-- why there is no uint32 at the front: fewer than four bytes are there (RFC 4251 section 5)
abbrev pub Uint32Refused : List ℕ → WireFault → Type 0
Uint32Refused bytes code = OnlyShort (length bytes < 4) code

-- why there is no string at the front: its length isn't there, or fewer bytes than that follow (RFC 4251 section 5)
abbrev pub StringRefused : List ℕ → WireFault → Type 0
StringRefused bytes code = OnlyShort ((length bytes < 4) ⊎ IsCutAfterLength bytes) code

-- no string stands at the front
abbrev pub NoString : List ℕ → Type 0
NoString bytes = (s text rest : List ℕ) → StringText s text → bytes ≡ text ++ rest → ⊥

-- a string stands at the front, and of its body this holds
pub record BeginsString (Holds : List ℕ → Type 0) (bytes : List ℕ) : Type 0 where
  pub body : List ℕ
  pub rest : List ℕ
  pub fits : length body < 2 ^ 32
  pub bytes_are : bytes ≡ string body ++ rest
  pub holds : Holds body

-- fewer bytes are the same number
abbrev pub IsNotShortest : List ℕ → Type 0
IsNotShortest body = IsShortestBody body → ⊥

-- the body isn't names with single commas between
abbrev pub AreNoNames : List ℕ → Type 0
AreNoNames body = (names : List (List ℕ)) → AreNames names → body ≡ names_body names → ⊥

-- why there is no mpint at the front: no string is there (`Short`), or its body isn't the shortest (`NotCanonical`) (RFC 4251 section 5)
abbrev pub MpintRefused : List ℕ → WireFault → Type 0
MpintRefused bytes Short = NoString bytes
MpintRefused bytes NotCanonical = BeginsString IsNotShortest bytes
MpintRefused bytes _ = ⊥

-- why there is no name-list at the front: no string is there (`Short`), or its body isn't names (`Name`) (RFC 4251 section 5)
abbrev pub NameListRefused : List ℕ → WireFault → Type 0
NameListRefused bytes Short = NoString bytes
NameListRefused bytes Name = BeginsString AreNoNames bytes
NameListRefused bytes _ = ⊥

-- What a reading refuses is what must be refused, and with this code.
abbrev pub RefusesExactly : {V : Type 0} → (List ℕ → WireFault → Type 0) → (List ℕ → Result (V × List ℕ) WireFault) → Type 0
RefusesExactly Refused read = (bytes : List ℕ) (code : WireFault) → IsBytes bytes → (read bytes ≡ Err code) ↔ Refused bytes code
