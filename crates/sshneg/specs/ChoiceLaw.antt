-- What the standard says of a choice, besides how it is made: RFC 4253 section 7.1.

use Rattle.std.specs.Prelude.{◌≡◌, ◌<◌, ◌↔◌, ℕ, List, length, Contains, Some}
use Rattle.std.specs.List.{slice_get}
use Rattle.sshmsg.specs.MessageData.{KexInitData}
use Rattle.sshpacket.specs.Suite.{SuiteData}
use Rattle.sshneg.specs.declared.choice.Chosen.{Chosen}
use Rattle.sshneg.specs.declared.choice.NoCommon.{NoCommon}
use Rattle.sshneg.specs.declared.choice.NoCommon.TheVariants as field
use Rattle.sshneg.specs.Choice.{IsHostKeyFor, IsOnBoth, IsUsable}
use Rattle.sshneg.specs.Fields.{AlgorithmsData, algorithms_of, list_of, name_of, position_of}
use Rattle.sshneg.specs.Markers.{first_name, methods}

-- each name stands on both sides' lists, markers taken out
abbrev pub AreListed : KexInitData → KexInitData → AlgorithmsData → Type 0
AreListed client server a = (f : NoCommon) → IsOnBoth (algorithms_of f client) (algorithms_of f server) (name_of f a)

-- what lets a name of the client's be used in a field; in that of the host key, where this method is used
abbrev pub IsAllowed : SuiteData → KexInitData → KexInitData → List ℕ → NoCommon → List ℕ → Type 0
IsAllowed m client server kex field.Kex name = IsUsable m client server name
IsAllowed m client server kex field.HostKey name = IsHostKeyFor m server kex name
IsAllowed m client server kex f name = Contains (list_of f server) name

-- no name of the client's that stands before the position answered could have been used
abbrev pub AreEarliest : SuiteData → KexInitData → KexInitData → AlgorithmsData → Chosen → Type 0
AreEarliest m client server a chosen = (f : NoCommon) (i : ℕ) (name : List ℕ) → i < position_of f chosen
    → slice_get (list_of f client) i ≡ Some name → IsAllowed m client server a.kex f name → ⊥

-- the name stands at its position
pub record StandsAt (names : List (List ℕ)) (name : List ℕ) (position : ℕ) : Type 0 where
  pub within : position < length names
  pub gets : slice_get names position ≡ Some name

-- two servers offer the same names, in whatever order, and the same first method
pub record OfferAlike (server other : KexInitData) : Type 0 where
  pub first : first_name (methods server.kex_algorithms) ≡ first_name (methods other.kex_algorithms)
  pub same : (f : NoCommon) (name : List ℕ) → Contains (algorithms_of f server) name ↔ Contains (algorithms_of f other) name

-- two offers have the same algorithms in the same order, markers left out
abbrev pub OfferSame : KexInitData → KexInitData → Type 0
OfferSame offer other = (f : NoCommon) → algorithms_of f offer ≡ algorithms_of f other
