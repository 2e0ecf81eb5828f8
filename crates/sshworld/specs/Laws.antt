-- What the crates below publish on which the two directions of a connection rest.

use Rattle.std.specs.Prelude.{◌≡◌, ℕ, ◌^◌, ◌<◌, ◌≤◌, List, [], ◌++◌, length, Option, None, Some}
use Rattle.sshwire.specs.declared.limits.TheConstants.{PAYLOAD_LIMIT}
use Rattle.sshwire.specs.declared.line_form.LineForm.{LineForm}
use Rattle.sshwire.specs.Lines.{Preamble}
use Rattle.sshwire.specs.Types.{IsBytes}
use Rattle.sshneg.specs.declared.side.Side.{Side}
use Rattle.sshpacket.specs.KeysData.{KeysData}
use Rattle.sshpacket.specs.Parse.{Refusal, parse_packet, protection, whole}
use Rattle.sshpacket.specs.Places.{EachPlace}
use Rattle.sshpacket.specs.PreambleParser.{preamble_parser_by}
use Rattle.sshpacket.specs.Stream.{IsIncremental, Linked, Parsers, Received, ReceivedAll, Same, Sent, Spelled, Units, sizes_of}
use Rattle.sshpacket.specs.Suite.{IsLawful, SuiteData}
use Rattle.sshpacket.specs.Written.{sealed_size, written_clear, written_sealed}
use Rattle.sshcore.specs.Directions.{parsers}
use Rattle.sshcore.specs.EndpointParts.{ConfigData}

-- the laws of the crates below that the link rests on
pub record Laws : Type 0 where
  pub clear : (m : SuiteData) → IsLawful m → (seed : List ℕ) (seq : ℕ) (payload rest : List ℕ) → 0 < length payload → length payload ≤ PAYLOAD_LIMIT
      → parse_packet (protection m None seq) (written_clear m seed seq payload ++ rest) ≡ whole payload (length (written_clear m seed seq payload))
  pub sealed : (m : SuiteData) → IsLawful m → (keys : KeysData) (seed : List ℕ) (seq : ℕ) (payload rest : List ℕ) → seq < 2 ^ 32 → IsBytes payload
      → 0 < length payload → length payload ≤ PAYLOAD_LIMIT
      → parse_packet (protection m (Some keys) seq) (written_sealed m keys seed seq payload ++ rest) ≡ whole payload (length (written_sealed m keys seed seq payload))
  pub size : (m : SuiteData) → IsLawful m → (keys : KeysData) (seed : List ℕ) (seq : ℕ) (payload : List ℕ) → seq < 2 ^ 32 → IsBytes payload
      → 0 < length payload → length payload ≤ PAYLOAD_LIMIT → length (written_sealed m keys seed seq payload) ≡ sealed_size m keys payload
  -- what is a preamble by the letter is read so by each form
  pub preamble : (form : LineForm) (k : ℕ) (text bytes more : List ℕ) → Preamble k text bytes → preamble_parser_by form k (bytes ++ more) ≡ whole text (length bytes)
  pub parsers : (m : SuiteData) (role : Side) (config : ConfigData) (units : Units) (sizes : List ℕ) → IsIncremental (parsers m role config units sizes)
  pub link : (parsers : Parsers) (spells : Units → List ℕ → List ℕ) → ((us : Units) (ns : List ℕ) → IsIncremental (parsers us ns))
      → (stream received more : List ℕ) (sent us : Units) (ns rest : List ℕ) (r : Option Refusal)
      → Sent spells stream sent → EachPlace (Spelled parsers spells) [] sent → stream ≡ received ++ more → Received parsers received us ns rest r → Linked us sent r
  pub sizes : (parsers : Parsers) (spells : Units → List ℕ → List ℕ) → ((us : Units) (ns : List ℕ) → IsIncremental (parsers us ns))
      → (stream received more : List ℕ) (sent us : Units) (ns rest : List ℕ) (r : Option Refusal)
      → Sent spells stream sent → EachPlace (Spelled parsers spells) [] sent → stream ≡ received ++ more → Received parsers received us ns rest r → ns ≡ sizes_of spells [] us
  pub all : (parsers : Parsers) (spells : Units → List ℕ → List ℕ) → ((us : Units) (ns : List ℕ) → IsIncremental (parsers us ns))
      → (stream : List ℕ) (sent us : Units) (ns rest : List ℕ) (r : Option Refusal)
      → Sent spells stream sent → EachPlace (Spelled parsers spells) [] sent → Received parsers stream us ns rest r → ReceivedAll us sent rest r
  pub nothing : (parsers : Parsers) → ((us : Units) (ns : List ℕ) → IsIncremental (parsers us ns)) → Received parsers [] [] [] [] None
  pub one : (parsers : Parsers) (stream : List ℕ) (us vs : Units) (ns ms x y : List ℕ) (r q : Option Refusal)
      → Received parsers stream us ns x r → Received parsers stream vs ms y q → Same us vs x y r q
