-- All that a program puts in for an endpoint, as bytes: field after field, each with what follows it, as records of endpoints are written.
-- What isn't read isn't here: the list of an endpoint that asks.

use Rattle.std.specs.Prelude.{ℕ, ◌==◌, if◌then◌else◌, List, [], ◌∷◌, length}
use Rattle.std.specs.Borrow.{Bor}
use Rattle.sshcore.specs.RecordText.{bytes_text, number_text}
use Rattle.rezdolin.specs.declared.inputs.AttemptInput.{AttemptInput}
use Rattle.rezdolin.specs.declared.inputs.ClientInput.{ClientInput}
use Rattle.rezdolin.specs.declared.inputs.HostKeyInput.{HostKeyInput}
use Rattle.rezdolin.specs.declared.inputs.ServerInput.{ServerInput}
use Rattle.rezdolin.specs.declared.inputs.SideInput.{SideInput}
use Rattle.rezdolin.specs.declared.inputs.UserInput.{UserInput}

-- entries, one after the other
abbrev pub each_text : {X : Type 0} → (X → List ℕ → List ℕ) → List X → List ℕ → List ℕ
each_text text [] rest = rest
each_text text (x ∷ xs) rest = text x (each_text text xs rest)

-- how many entries there are, then each of them, in front of what follows
abbrev pub counted : {X : Type 0} → (X → List ℕ → List ℕ) → List X → List ℕ → List ℕ
counted text xs rest = number_text (length xs) (each_text text xs rest)

-- the settings that both sides have as bytes, each field as a string or a number, in front of what follows
abbrev pub side_text : SideInput → List ℕ → List ℕ
side_text side rest =
    bytes_text side.softwareversion.now (bytes_text side.comments.now (bytes_text side.kex_algorithms.now
    (bytes_text side.encryption_client_to_server.now (bytes_text side.encryption_server_to_client.now
    (bytes_text side.mac_client_to_server.now (bytes_text side.mac_server_to_client.now
    (bytes_text side.cookie.now (bytes_text side.exchange_random.now (bytes_text side.padding_seed.now
    (number_text side.strict (number_text side.reading rest)))))))))))

-- an attempt as bytes, in front of what follows
abbrev pub attempt_text : AttemptInput → List ℕ → List ℕ
attempt_text attempt rest =
    bytes_text attempt.user.now (bytes_text attempt.service.now (bytes_text attempt.algorithm.now (bytes_text attempt.secret.now
    (number_text attempt.method (number_text attempt.ask rest)))))

-- a host key and the number of its place as bytes, in front of what follows
abbrev pub host_key_text : HostKeyInput → List ℕ → List ℕ
host_key_text key rest = bytes_text key.algorithm.now (bytes_text key.key.now (number_text key.place rest))

-- a user who is accepted as bytes, in front of what follows
abbrev pub user_text : UserInput → List ℕ → List ℕ
user_text user rest = bytes_text user.user.now (bytes_text user.proof.now (number_text user.method rest))

-- bytes that are lent: a public key, or a line
abbrev pub key_text : Bor (List ℕ) → List ℕ → List ℕ
key_text key rest = bytes_text key.now rest

-- what is read of an endpoint that doesn't ask
unfoldable pub unless_asks : ℕ → (List ℕ → List ℕ) → List ℕ → List ℕ
unless_asks asks text rest = if asks == 1 then rest else text rest

-- A client's parts as bytes, field by field, in front of what follows. Of a client that asks the trusted host keys are left out, which
-- aren't read.
abbrev pub client_text : ClientInput → List ℕ → List ℕ
client_text client rest =
    side_text client.side (bytes_text client.server_host_key_algorithms.now (counted attempt_text client.plan.now (number_text client.guess
    (number_text client.asks (unless_asks client.asks (counted key_text client.trusted_host_keys.now) rest)))))

-- A server's parts as bytes, field by field, in front of what follows. Of a server that asks the users are left out, which aren't read.
abbrev pub server_text : ServerInput → List ℕ → List ℕ
server_text server rest =
    side_text server.side (counted host_key_text server.host_keys.now (bytes_text server.services.now (bytes_text server.methods.now
    (bytes_text server.required.now (bytes_text server.banner.now (counted key_text server.notice_lines.now (number_text server.tries
    (number_text server.asks (unless_asks server.asks (counted user_text server.users.now) rest)))))))))
