-- What `run` and `predict` print: a line for each side's end, whether it is complete, and what was agreed.

use Rattle.std.specs.Prelude.{ℕ, Bool, List, [], ◌∷◌, ◌++◌, codes, decimal, Option, None, Some, if◌then◌else◌}
use Rattle.hex.specs.Hex.{encode_lower}
use Rattle.sshneg.specs.Fields.{AlgorithmsData}
use Rattle.sshcore.specs.EndData.{AgreedData, Authenticated, Closed, Disconnected, EndData, Failed, Open}
use Rattle.sshcore.specs.Printed.{fault_text}

-- how a side is, as `open`, `authenticated USER SERVICE`, `failed FAULT`, `closed REASON` or `disconnected REASON`; the last is the end of
-- no side of a scenario
abbrev pub end_text : EndData → List ℕ
end_text Open = codes "open"
end_text (Authenticated agreed) = codes "authenticated " ++ (agreed.user ++ (codes " " ++ agreed.service))
end_text (Failed fault) = codes "failed " ++ fault_text fault
end_text (Closed reason) = codes "closed " ++ decimal reason
end_text (Disconnected reason) = codes "disconnected " ++ decimal reason

-- a line: a word, a blank, a text and an LF
abbrev pub line : List ℕ → List ℕ → List ℕ
line word text = word ++ (32 ∷ (text ++ (10 ∷ [])))

-- a flag as the word `yes` or `no`
abbrev pub yes_or_no : Bool → List ℕ
yes_or_no flag = if flag then codes "yes" else codes "no"

-- whether nothing waits for either side, where that is told
abbrev pub complete_text : Option Bool → List ℕ
complete_text None = []
complete_text (Some complete) = line (codes "complete") (yes_or_no complete)

-- the session identifier in digits of lower case, two a byte, where it is asked for
abbrev pub session_text : Bool → List ℕ → List ℕ
session_text asked session = if asked then line (codes "session") (encode_lower session) else []

-- the names of the algorithms; compression has no line
abbrev pub algorithms_text : AlgorithmsData → List ℕ
algorithms_text names =
    line (codes "kex") names.kex ++ (line (codes "hostkey") names.host_key
    ++ (line (codes "cipher_cs") names.encryption_client_to_server ++ (line (codes "cipher_sc") names.encryption_server_to_client
    ++ (line (codes "mac_cs") names.mac_client_to_server ++ line (codes "mac_sc") names.mac_server_to_client))))

-- what was agreed
abbrev pub agreed_text : Bool → AgreedData → List ℕ
agreed_text session agreed =
    algorithms_text agreed.algorithms ++ (line (codes "strict") (yes_or_no agreed.strict) ++ session_text session agreed.session)

-- what was agreed where a side is authenticated; where both are, it is the client's
abbrev pub agreement_text : Bool → EndData → EndData → List ℕ
agreement_text session (Authenticated agreed) server = agreed_text session agreed
agreement_text session client (Authenticated agreed) = agreed_text session agreed
agreement_text session client server = []

-- what is printed of two ends: the client's line, the server's, whether the world is complete, and what was agreed
unfoldable pub report_text : EndData → EndData → Option Bool → Bool → List ℕ
report_text client server complete session =
    line (codes "client") (end_text client) ++ (line (codes "server") (end_text server)
    ++ (complete_text complete ++ agreement_text session client server))
