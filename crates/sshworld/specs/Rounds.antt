-- Rounds over the two parts of a course: all that waits goes to the server, and then all that waits goes to the client.

use Rattle.std.specs.Prelude.{◌≡◌, ◌≢◌, ◌+◌, ◌<◌, ◌≤◌, ℕ, zero, suc, Bool, true, false, [], ◌∷◌, length, min, if◌then◌else◌}
use Rattle.sshpacket.specs.Stream.{Units}
use Rattle.sshcore.specs.EndData.{Open}
use Rattle.sshworld.specs.Course.{NoChoice, NoTrust, Part, Requests, Way, sent_after}

-- How many units a side has sent when it has received n of the other's: its version line, and the payloads that it has sent.
abbrev pub units_sent : Part → ℕ → ℕ
units_sent part n = 1 + length (sent_after part n)

-- how many units each side has received
pub record UnitsReceived : Type 0 where
  pub client : ℕ
  pub server : ℕ

-- how many units the server has received when all that a client sent goes to it, of which n units were received: it receives no
-- more than up to its end
abbrev pub server_receives_all : Part → Part → ℕ → ℕ
server_receives_all client server n = min server.receives (units_sent client n)

-- A round: the server receives all that the client has sent, and then the client all that the server has sent.
abbrev pub round_from : Part → Part → UnitsReceived → UnitsReceived
round_from client server received = record {
  client = min client.receives (units_sent server (server_receives_all client server received.client));
  server = server_receives_all client server received.client;
}

-- what each side has received after so many rounds, of which the first begins before anything is received
abbrev pub after_rounds : Part → Part → ℕ → UnitsReceived
after_rounds client server zero = record { client = 0; server = 0 }
after_rounds client server (suc n) = round_from client server (after_rounds client server n)

-- each side has received all that it receives
abbrev pub all_received : Part → Part → UnitsReceived
all_received client server = record { client = client.receives; server = server.receives }

-- Two parts fit: each side receives something, and no more than the other sends; and never, while both are open, has each
-- received all that the other has sent.
pub record Fit (client server : Part) : Type 0 where
  pub client_receives_some : 0 < client.receives
  pub server_receives_some : 0 < server.receives
  pub client_reached : client.receives ≤ units_sent server server.receives
  pub server_reached : server.receives ≤ units_sent client client.receives
  pub no_wait : (k l : ℕ) → k < client.receives → l < server.receives → k ≡ units_sent server l → l ≡ units_sent client k → ⊥

-- Two parts are one course: they fit, and each side has ended when it has received all that it receives.
pub record IsCourse (client server : Part) : Type 0 where
  pub fit : Fit client server
  pub client_ends : client.final ≢ Open
  pub server_ends : server.final ≢ Open

-- the group is empty
abbrev pub is_nothing : Units → Bool
is_nothing [] = true
is_nothing (payload ∷ payloads) = false

-- in how many of the first n groups something is sent
abbrev pub groups_sent : (ℕ → Units) → ℕ → ℕ
groups_sent group zero = 0
groups_sent group (suc n) = if is_nothing (group n) then groups_sent group n else groups_sent group n + 1

-- how many requests are made
abbrev pub requests_of : Way → ℕ
requests_of NoChoice = 0
requests_of NoTrust = 0
requests_of (Requests v) = v.requests
