-- What two sides have received from each other after a schedule of deliveries.

use Rattle.std.specs.Prelude.{◌≡◌, ◌↔◌, ℕ, ◌+◌, List, [], ◌∷◌, length, take, IsTrue}
use Rattle.sshwire.specs.declared.fault.WireFault.{WireFault}
use Rattle.sshwire.specs.Lines.{IsVersionText, version_line}
use Rattle.sshwire.specs.Meaning.{BeginsPreamble, IsLineRefused}
use Rattle.sshneg.specs.declared.side.Side.{Side}
use Rattle.sshneg.specs.declared.side.Side.TheVariants.{Client, Server}
use Rattle.sshworld.specs.declared.side.Delivery.{Delivery}
use Rattle.sshworld.specs.declared.greetings.Reception.{Reception}
use Rattle.sshworld.specs.declared.greetings.Reception.TheVariants.{Got, Refused, Waiting}
use Rattle.sshworld.specs.declared.greetings.Greeting.{Greeting}
use Rattle.sshwire.specs.declared.limits.TheConstants.{OTHER_LINE_LIMIT}

-- what a delivery to the first side asks for the second
abbrev pub count_for : Side → Side → ℕ → ℕ
count_for Client Client count = count
count_for Server Server count = count
count_for _ _ count = 0

-- how many bytes the schedule asks for a side, without limit
abbrev pub asked : Side → List Delivery → ℕ
asked side [] = 0
asked side (d ∷ ds) = count_for side d.to d.count + asked side ds

-- the bytes moved to a side, of those that the other sends
abbrev pub moved : Side → List Delivery → List ℕ → List ℕ
moved side schedule sent = take (asked side schedule) sent

-- What a side that accepts k other lines makes of the bytes moved to it (RFC 4253 section 4.2). It has the version exactly if a prefix is a
-- preamble of it, and refuses exactly if the bytes are refused. Else it waits.
pub record IsReception (k : ℕ) (bytes : List ℕ) (reception : Reception) : Type 0 where
  pub got : (text : List ℕ) → (reception ≡ Got text) ↔ BeginsPreamble k text bytes
  pub refused : (code : WireFault) → (reception ≡ Refused code) ↔ IsLineRefused k bytes code
  pub waiting : (n : ℕ) → reception ≡ Waiting n → n ≡ length bytes

-- nothing waits for a side: it has ended, or was given all bytes
abbrev pub NothingWaits : List ℕ → List ℕ → Reception → Type 0
NothingWaits bytes sent (Waiting n) = bytes ≡ sent
NothingWaits bytes sent _ = Unit {0}

-- Each side has received what the bytes moved to it read as, and both have each other's version line
-- once the schedule is complete, if they sent one (RFC 4253 section 4.2).
pub record Greets (client server : List ℕ) (schedule : List Delivery) (greeting : Greeting) : Type 0 where
  pub to_client : IsReception OTHER_LINE_LIMIT (moved Client schedule server) greeting.client
  pub to_server : IsReception 0 (moved Server schedule client) greeting.server
  pub complete : IsTrue greeting.complete
      ↔ (NothingWaits (moved Client schedule server) server greeting.client
      × NothingWaits (moved Server schedule client) client greeting.server)
  pub met : (clients servers : List ℕ) → IsVersionText clients → IsVersionText servers
      → client ≡ version_line clients → server ≡ version_line servers → IsTrue greeting.complete
      → (greeting.client ≡ Got servers) × (greeting.server ≡ Got clients)
