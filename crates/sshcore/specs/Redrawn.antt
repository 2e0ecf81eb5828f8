-- Configs with the draws of one connection.

use Rattle.std.specs.Prelude.{◌≡◌, length}
use Rattle.sshwire.specs.Types.{IsBytes}
use Rattle.sshcore.specs.declared.config_draws.Draws.{Draws}
use Rattle.sshcore.specs.ConfigParts.{ClientData, ServerData, SideData}

-- the draws that a side holds itself
abbrev pub draws_of : SideData → Draws
draws_of side = record { cookie = side.cookie; exchange_random = side.random; padding_seed = side.seed }

-- a side with these draws: nothing but its cookie, its exchange random and its padding seed is another (RFC 4253 section 7.1)
abbrev pub redrawn_side : Draws → SideData → SideData
redrawn_side draws side = record side { cookie = draws.cookie; random = draws.exchange_random; seed = draws.padding_seed }

-- a client's config with these draws
abbrev pub redrawn_client : Draws → ClientData → ClientData
redrawn_client draws client = record client { side = redrawn_side draws client.side }

-- a server's config with these draws
abbrev pub redrawn_server : Draws → ServerData → ServerData
redrawn_server draws server = record server { side = redrawn_side draws server.side }

-- what is true of all draws: a cookie of 16 bytes (RFC 4253 section 7.1), and two secrets of 32 (profile)
pub record AreDraws (draws : Draws) : Type 0 where
  pub cookie_length : length draws.cookie ≡ 16
  pub random_length : length draws.exchange_random ≡ 32
  pub seed_length : length draws.padding_seed ≡ 32
  pub cookie : IsBytes draws.cookie
  pub random : IsBytes draws.exchange_random
  pub seed : IsBytes draws.padding_seed
