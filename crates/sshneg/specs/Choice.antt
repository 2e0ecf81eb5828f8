-- The choice of algorithms: RFC 4253 section 7.1. "Client" and "server" are what their KEXINITs offer.

use Rattle.std.specs.Prelude.{◌≡◌, ◌<◌, ℕ, Bool, true, List, ◌∷◌, ◌++◌, length, Contains, Some, Result, Ok, Err}
use Rattle.sshmsg.specs.MessageData.{KexInitData}
use Rattle.sshpacket.specs.declared.suite.Capability.{Capability}
use Rattle.sshpacket.specs.declared.suite.Need.{Need}
use Rattle.sshpacket.specs.declared.suite.Need.TheVariants.{Signature, Encryption}
use Rattle.sshpacket.specs.Suite.{SuiteData}
use Rattle.sshneg.specs.declared.choice.Chosen.{Chosen}
use Rattle.sshneg.specs.declared.choice.NoCommon.{NoCommon}
use Rattle.sshneg.specs.declared.choice.NoCommon.TheVariants as field
use Rattle.sshneg.specs.Fields.{AlgorithmsData, list_of, name_of, order_of, position_of}
use Rattle.sshneg.specs.Markers.{first_name, methods}

-- the name is the first of the list that is allowed
pub record IsFirst (allowed : List ℕ → Type 0) (names : List (List ℕ)) (name : List ℕ) : Type 0 where
  pub before : List (List ℕ)
  pub after : List (List ℕ)
  pub parts : names ≡ before ++ name ∷ after
  pub is_allowed : allowed name
  pub none_before : (n : List ℕ) → Contains before n → allowed n → ⊥

-- a host key algorithm with these capabilities has what is needed (that a method needs one of two is profile)
abbrev pub serves : Need → Capability → Bool
serves Signature capability = capability.signature
serves Encryption capability = capability.encryption

-- the server lists the host key algorithm, and it has the capability that the method needs
pub record IsHostKeyFor (m : SuiteData) (server : KexInitData) (kex name : List ℕ) : Type 0 where
  pub of_server : Contains server.server_host_key_algorithms name
  pub able : serves (m.need kex) (m.can name) ≡ true

-- the server lists the method, and some host key algorithm of both sides has what it needs
pub record IsUsable (m : SuiteData) (client server : KexInitData) (kex : List ℕ) : Type 0 where
  pub of_server : Contains (methods server.kex_algorithms) kex
  pub host_key : List ℕ
  pub of_client : Contains client.server_host_key_algorithms host_key
  pub is_host_key : IsHostKeyFor m server kex host_key

-- the first methods of both sides are this one (that markers are left out is profile)
pub record AreFirstMethods (client server : KexInitData) (kex : List ℕ) : Type 0 where
  pub of_client : first_name (methods client.kex_algorithms) ≡ Some kex
  pub of_server : first_name (methods server.kex_algorithms) ≡ Some kex

-- The key exchange method: the first of both sides, where that is the same one; otherwise the first of the client's that is
-- usable.
pub data IsKex (m : SuiteData) (client server : KexInitData) (kex : List ℕ) : Type 0 where
  SameFirst : AreFirstMethods client server kex → IsKex m client server kex
  FirstUsable : ((other : List ℕ) → AreFirstMethods client server other → ⊥)
      → IsFirst (IsUsable m client server) (methods client.kex_algorithms) kex → IsKex m client server kex

-- The algorithm of a field, where this method is used: of the host key the first of the client's that the server lists and
-- that has what the method needs; of every other field the first of the client's that the server lists.
abbrev pub IsAlgorithm : SuiteData → KexInitData → KexInitData → List ℕ → NoCommon → List ℕ → Type 0
IsAlgorithm m client server kex field.Kex name = IsKex m client server name
IsAlgorithm m client server kex field.HostKey name = IsFirst (IsHostKeyFor m server kex) client.server_host_key_algorithms name
IsAlgorithm m client server kex f name = IsFirst (Contains (list_of f server)) (list_of f client) name

-- A choice in all eight fields.
abbrev pub IsChoice : SuiteData → KexInitData → KexInitData → AlgorithmsData → Type 0
IsChoice m client server a = (f : NoCommon) → IsAlgorithm m client server a.kex f (name_of f a)

-- the name stands on both lists
pub record IsOnBoth (client server : List (List ℕ)) (name : List ℕ) : Type 0 where
  pub of_client : Contains client name
  pub of_server : Contains server name

-- there is a method, and a host key algorithm of both sides that has what the method needs
pub record HaveHostKey (m : SuiteData) (client server : KexInitData) : Type 0 where
  pub kex : List ℕ
  pub is_kex : IsKex m client server kex
  pub host_key : List ℕ
  pub of_client : Contains client.server_host_key_algorithms host_key
  pub is_host_key : IsHostKeyFor m server kex host_key

-- the field has a choice: there is a method; a host key algorithm for it; a name that stands on both lists
abbrev pub HasChoice : SuiteData → KexInitData → KexInitData → NoCommon → Type 0
HasChoice m client server field.Kex = (kex : List ℕ) × IsKex m client server kex
HasChoice m client server field.HostKey = HaveHostKey m client server
HasChoice m client server f = (name : List ℕ) × IsOnBoth (list_of f client) (list_of f server) name

-- The field is the first without a choice (profile; RFC 4253 section 7.1 asks for a disconnect).
pub record IsFirstWithout (m : SuiteData) (client server : KexInitData) (f : NoCommon) : Type 0 where
  pub before : (g : NoCommon) → order_of g < order_of f → HasChoice m client server g
  pub without : HasChoice m client server f → ⊥

-- the name stands at this position, and at none before it (profile)
pub record IsPosition (names : List (List ℕ)) (name : List ℕ) (position : ℕ) : Type 0 where
  pub before : List (List ℕ)
  pub after : List (List ℕ)
  pub parts : names ≡ before ++ name ∷ after
  pub counted : position ≡ length before
  pub none_before : Contains before name → ⊥

-- the positions of the names in the client's lists as sent, markers counted (profile)
abbrev pub ArePositions : KexInitData → AlgorithmsData → Chosen → Type 0
ArePositions client a chosen = (f : NoCommon) → IsPosition (list_of f client) (name_of f a) (position_of f chosen)

-- what an answer says: the positions of a choice, or the first field without one
abbrev pub ChoiceAnswer : SuiteData → KexInitData → KexInitData → Result Chosen NoCommon → Type 0
ChoiceAnswer m client server (Ok chosen) = (a : AlgorithmsData) × IsChoice m client server a × ArePositions client a chosen
ChoiceAnswer m client server (Err f) = IsFirstWithout m client server f
