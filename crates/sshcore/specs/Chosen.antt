-- The names of a choice, as they are copied out of the client's KEXINIT (RFC 4253 section 7.1).

use Rattle.std.specs.Prelude.{◌≡◌, ℕ, ◌<◌, List, Some, length}
use Rattle.std.specs.List.{slice_get}
use Rattle.sshwire.specs.Types.{IsName}
use Rattle.sshmsg.specs.MessageData.{KexInitData}
use Rattle.sshneg.specs.declared.choice.Chosen.{Chosen}
use Rattle.sshneg.specs.declared.choice.NoCommon.{NoCommon}
use Rattle.sshneg.specs.declared.side.Side.{Side}
use Rattle.sshneg.specs.declared.side.Side.TheVariants.{Client, Server}
use Rattle.sshneg.specs.Fields.{AlgorithmsData, list_of, name_of, position_of}

-- each of the algorithms is a name (RFC 4251 section 6)
abbrev pub AreNamed : AlgorithmsData → Type 0
AreNamed a = (f : NoCommon) → IsName (name_of f a)

-- each position lies in its list
abbrev pub ArePlaced : KexInitData → Chosen → Type 0
ArePlaced client chosen = (f : NoCommon) → position_of f chosen < length (list_of f client)

-- each name stands at its position
abbrev pub AreAt : KexInitData → Chosen → AlgorithmsData → Type 0
AreAt client chosen a = (f : NoCommon) → slice_get (list_of f client) (position_of f chosen) ≡ Some (name_of f a)

-- the cipher of what this role sends
abbrev pub cipher_of : AlgorithmsData → Side → List ℕ
cipher_of a Client = a.encryption_client_to_server
cipher_of a Server = a.encryption_server_to_client

-- the MAC of what this role sends
abbrev pub mac_of : AlgorithmsData → Side → List ℕ
mac_of a Client = a.mac_client_to_server
mac_of a Server = a.mac_server_to_client
