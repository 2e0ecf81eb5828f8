-- The session that an authenticated endpoint hands over, as bytes.

use Rattle.std.specs.Prelude.{ℕ, ◌/◌, ◌%◌, ◌^◌, Bool, true, false, List, [], ◌∷◌, ◌++◌, Option, None, Some, string_bytes}
use Rattle.sshwire.specs.Types.{string, uint32}
use Rattle.sshpacket.specs.KeysData.{KeysData}
use Rattle.sshcore.specs.declared.session.Accepted.{Accepted}
use Rattle.sshcore.specs.declared.session.Direction.{Direction}
use Rattle.sshcore.specs.declared.session.Session.{Session}
use Rattle.sshcore.specs.declared.session.UserKey.{UserKey}

-- each field as a string (RFC 4251 section 5), one after the other
abbrev pub strings : List (List ℕ) → List ℕ
strings [] = []
strings (field ∷ fields) = string field ++ strings fields

-- The state of a direction: the number of the next packet, how many were sealed or opened by this state, how many bytes they had, in
-- 64 bits, the names of cipher and MAC, and the keys.
abbrev pub state_bytes : ℕ → ℕ → ℕ → KeysData → List ℕ
state_bytes number count bytes keys =
    uint32 number ++ (uint32 count ++ (uint32 (bytes / 2 ^ 32) ++ (uint32 (bytes % 2 ^ 32)
    ++ strings (keys.cipher ∷ keys.mac ∷ keys.iv ∷ keys.enc ∷ keys.mac_key ∷ []))))

-- the state of a direction as bytes, before any packet
abbrev pub direction_bytes : Direction → List ℕ
direction_bytes direction = state_bytes direction.sequence_number 0 0 direction.keys

-- a flag as a field of one byte: 1 for true, 0 for false
abbrev pub flag : Bool → List ℕ
flag true = 1 ∷ []
flag false = 0 ∷ []

-- whether the server accepted the user by a password, as a field; a client has no byte here
abbrev pub password_of : Option Accepted → List ℕ
password_of None = []
password_of (Some accepted) = flag accepted.password

-- the algorithm of the user's key; no byte without a key
abbrev pub algorithm_in : Option UserKey → List ℕ
algorithm_in None = []
algorithm_in (Some key) = string_bytes key.algorithm

-- the blob of the user's key; no byte without a key
abbrev pub blob_in : Option UserKey → List ℕ
blob_in None = []
blob_in (Some key) = key.blob.items

-- the algorithm of the key by which the user was accepted; no byte where there is none
abbrev pub key_algorithm_of : Option Accepted → List ℕ
key_algorithm_of None = []
key_algorithm_of (Some accepted) = algorithm_in accepted.key

-- the blob of the key by which the user was accepted; no byte where there is none
abbrev pub key_blob_of : Option Accepted → List ℕ
key_blob_of None = []
key_blob_of (Some accepted) = blob_in accepted.key

-- the fields of the states of both directions: the incoming one, then the outgoing one
abbrev pub direction_fields : Session → List (List ℕ)
direction_fields session = direction_bytes session.incoming ∷ direction_bytes session.outgoing ∷ []

-- The fields of what was agreed: session identifier, user and service; both version lines and the server's public key; and the names of the
-- chosen algorithms, in the order of a KEXINIT (RFC 4253 section 7.1).
abbrev pub agreed_fields : Session → List (List ℕ)
agreed_fields session =
    session.agreed.session.items ∷ string_bytes session.agreed.user ∷ string_bytes session.agreed.service
    ∷ session.own_version.items ∷ session.peer_version.items ∷ session.host_key.items
    ∷ string_bytes session.agreed.kex ∷ string_bytes session.agreed.host_key
    ∷ string_bytes session.agreed.encryption_client_to_server ∷ string_bytes session.agreed.encryption_server_to_client
    ∷ string_bytes session.agreed.mac_client_to_server ∷ string_bytes session.agreed.mac_server_to_client
    ∷ string_bytes session.agreed.compression_client_to_server ∷ string_bytes session.agreed.compression_server_to_client ∷ []

-- the fields of whether both sides are strict, whether a password was accepted, and the algorithm and blob of the user's key
abbrev pub acceptance_fields : Session → List (List ℕ)
acceptance_fields session =
    flag session.agreed.strict ∷ password_of session.accepted ∷ key_algorithm_of session.accepted ∷ key_blob_of session.accepted ∷ []

-- a session as bytes: the states of both directions, what was agreed, and how the user was accepted, each field as a string
abbrev pub record_of : Session → List ℕ
record_of session = strings (direction_fields session ++ (agreed_fields session ++ acceptance_fields session))

-- a session as bytes; no byte where there is none
abbrev pub spelled : Option Session → List ℕ
spelled None = []
spelled (Some session) = record_of session
