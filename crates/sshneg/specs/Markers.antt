-- Names in a kex list that are no method: the markers of RFC 8308 section 2.1 and of the OpenSSH strict key exchange.

use Rattle.std.specs.Prelude.{◌≡◌, ◌||◌, ℕ, Bool, false, true, not, List, [], ◌∷◌, codes, filter, Contains, Option, None, Some}
use Rattle.std.specs.Str.{bytes_eq}
use Rattle.sshmsg.specs.MessageData.{KexInitData}
use Rattle.sshneg.specs.declared.side.Side.{Side}
use Rattle.sshneg.specs.declared.side.Side.TheVariants.{Client, Server}

-- the marker by which a side says that it can be strict
abbrev pub strict_marker : Side → List ℕ
strict_marker Client = codes "kex-strict-c-v00@openssh.com"
strict_marker Server = codes "kex-strict-s-v00@openssh.com"

-- the name is one of the four markers: two of extension negotiation, two of strictness
abbrev pub is_marker : List ℕ → Bool
is_marker name =
    bytes_eq name (codes "ext-info-c")
    || (bytes_eq name (codes "ext-info-s") || (bytes_eq name (strict_marker Client) || bytes_eq name (strict_marker Server)))

-- the other side
abbrev pub other : Side → Side
other Client = Server
other Server = Client

-- An endpoint is strict: it is willing to be, and the peer's KEXINIT has the peer's marker, wherever it stands in the kex list.
pub record IsStrict (flag : Bool) (role : Side) (peer : KexInitData) : Type 0 where
  pub willing : flag ≡ true
  pub marked : Contains peer.kex_algorithms (strict_marker (other role))

-- the first name of a list, if it has one
abbrev pub first_name : List (List ℕ) → Option (List ℕ)
first_name [] = None
first_name (name ∷ names) = Some name

-- there are two names, and they are equal
abbrev pub same_name : Option (List ℕ) → Option (List ℕ) → Bool
same_name (Some a) (Some b) = bytes_eq a b
same_name (Some a) None = false
same_name None b = false

-- the methods of a kex list: what is left without the markers (that the list is taken so is profile)
abbrev pub methods : List (List ℕ) → List (List ℕ)
methods names = filter (λ name. not (is_marker name)) names

-- A guess is right: both sides' first methods are one name, and so are their first host key algorithms (RFC 4253 section 7;
-- that no other list is looked at is profile).
pub record IsRightGuess (client server : KexInitData) : Type 0 where
  pub kex : List ℕ
  pub client_kex : first_name (methods client.kex_algorithms) ≡ Some kex
  pub server_kex : first_name (methods server.kex_algorithms) ≡ Some kex
  pub host_key : List ℕ
  pub client_host_key : first_name client.server_host_key_algorithms ≡ Some host_key
  pub server_host_key : first_name server.server_host_key_algorithms ≡ Some host_key
