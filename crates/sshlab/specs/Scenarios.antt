-- What the lines of a scenario say.

use Rattle.std.specs.Prelude.{ℕ, ◌==◌, ◌&&◌, ◌||◌, nat_le, Bool, true, false, if◌then◌else◌, List, [], length, drop, codes, Option, Some, None, option_map, slice_index, slice_index_or}
use Rattle.std.specs.List.{list_all, list_any}
use Rattle.std.specs.Str.{bytes_eq}
use Rattle.sshcore.specs.ConfigParts.{AttemptData, ByKey, ByNothing, ByPassword, CredentialData, HostKeyData}
use Rattle.sshneg.specs.declared.side.Side.{Side}
use Rattle.sshneg.specs.declared.side.Side.TheVariants.{Client, Server}
use Rattle.sshlab.specs.declared.scenario_line.Step.{Step}
use Rattle.sshlab.specs.declared.scenario_line.Step.TheVariants.{Deliver, Settle}
use Rattle.sshlab.specs.declared.scenario_line.TheConstants.{LINE_LIMIT}
use Rattle.sshlab.specs.ScenarioFields.{bytes_of, flag_of, list_of, number_of, parts, side_of}

-- a setting that either side has
pub data SideSettingData : Type 0 where
  SetVersion : List ℕ → SideSettingData
  SetKex : List (List ℕ) → SideSettingData
  SetCipherToServer : List (List ℕ) → SideSettingData
  SetCipherToClient : List (List ℕ) → SideSettingData
  SetMacToServer : List (List ℕ) → SideSettingData
  SetMacToClient : List (List ℕ) → SideSettingData
  SetStrict : Bool → SideSettingData
  SetCookie : List ℕ → SideSettingData
  SetRandom : List ℕ → SideSettingData
  SetSeed : List ℕ → SideSettingData

-- a setting of the client alone
pub data ClientSettingData : Type 0 where
  SetHostKeys : List (List ℕ) → ClientSettingData
  SetGuess : Bool → ClientSettingData

-- a setting of the server alone
pub data ServerSettingData : Type 0 where
  SetServices : List (List ℕ) → ServerSettingData
  SetMethods : List (List ℕ) → ServerSettingData
  SetRequired : List (List ℕ) → ServerSettingData
  SetTries : ℕ → ServerSettingData
  SetBanner : List ℕ → ServerSettingData

-- what a line says that is neither empty nor a comment
pub data StatementData : Type 0 where
  OfSide : Side → SideSettingData → StatementData
  OfClient : ClientSettingData → StatementData
  OfServer : ServerSettingData → StatementData
  Tries : AttemptData → StatementData
  Holds : HostKeyData → StatementData
  Notes : List ℕ → StatementData
  Distrusts : List ℕ → StatementData
  Allows : List ℕ → CredentialData → StatementData
  Denies : ℕ → StatementData
  Does : Step → StatementData

-- the fields of a line
abbrev pub Fields : Type 0
Fields = List (List ℕ)

-- field i, which is empty past the end
abbrev pub field : Fields → ℕ → List ℕ
field fields i = slice_index_or fields i []

-- so many fields, and the first is this word
abbrev pub has_form : Fields → List ℕ → ℕ → Bool
has_form fields word count = (length fields == count) && bytes_eq (field fields 0) word

-- so many fields or more, and the first is this word
abbrev pub begins_with_word : Fields → List ℕ → ℕ → Bool
begins_with_word fields word least = nat_le least (length fields) && bytes_eq (field fields 0) word

-- the setting of either side with this name and value
unfoldable pub side_value : List ℕ → List ℕ → Option SideSettingData
side_value name value =
    if bytes_eq name (codes "version") then Some (SetVersion value)
    else if bytes_eq name (codes "kex") then Some (SetKex (list_of value))
    else if bytes_eq name (codes "cipher_cs") then Some (SetCipherToServer (list_of value))
    else if bytes_eq name (codes "cipher_sc") then Some (SetCipherToClient (list_of value))
    else if bytes_eq name (codes "mac_cs") then Some (SetMacToServer (list_of value))
    else if bytes_eq name (codes "mac_sc") then Some (SetMacToClient (list_of value))
    else if bytes_eq name (codes "strict") then option_map SetStrict (flag_of value)
    else if bytes_eq name (codes "cookie") then option_map SetCookie (bytes_of value)
    else if bytes_eq name (codes "random") then option_map SetRandom (bytes_of value)
    else if bytes_eq name (codes "seed") then option_map SetSeed (bytes_of value) else None

-- the setting of the client with this name and value
unfoldable pub client_value : List ℕ → List ℕ → Option StatementData
client_value name value =
    if bytes_eq name (codes "hostkey") then Some (OfClient (SetHostKeys (list_of value)))
    else if bytes_eq name (codes "guess") then option_map (λ guess. OfClient (SetGuess guess)) (flag_of value)
    else option_map (OfSide Client) (side_value name value)

-- the setting of the server with this name and value
unfoldable pub server_value : List ℕ → List ℕ → Option StatementData
server_value name value =
    if bytes_eq name (codes "services") then Some (OfServer (SetServices (list_of value)))
    else if bytes_eq name (codes "methods") then Some (OfServer (SetMethods (list_of value)))
    else if bytes_eq name (codes "required") then Some (OfServer (SetRequired (list_of value)))
    else if bytes_eq name (codes "tries") then option_map (λ tries. OfServer (SetTries tries)) (number_of value)
    else if bytes_eq name (codes "banner") then option_map (λ text. OfServer (SetBanner text)) (bytes_of value)
    else option_map (OfSide Server) (side_value name value)

-- how a user is proved by these fields: `none`, `password HEX` or `publickey ALG HEX`
unfoldable pub proving : Fields → Option CredentialData
proving fields =
    if has_form fields (codes "none") 1 then Some ByNothing
    else if has_form fields (codes "password") 2 then option_map ByPassword (bytes_of (field fields 1))
    else if has_form fields (codes "publickey") 3 then option_map (λ secret. ByKey (field fields 1) secret false) (bytes_of (field fields 2)) else None

-- how an attempt proves its user by these fields: as above, or `query ALG HEX`, by a key about which the server is asked first
unfoldable pub attempting : Fields → Option CredentialData
attempting fields =
    if has_form fields (codes "query") 3 then option_map (λ secret. ByKey (field fields 1) secret true) (bytes_of (field fields 2)) else proving fields

-- a delivery to a side
abbrev pub delivery : Option Side → Option ℕ → Option Step
delivery (Some to) (Some count) = Some (Deliver (record { to = to; count = count }))
delivery _ _ = None

-- a number of rounds, at most 1000
abbrev pub rounds : Option ℕ → Option Step
rounds (Some n) = if nat_le n 1000 then Some (Settle n) else None
rounds None = None

-- what is done by these fields: `deliver SIDE N` or `settle N`
unfoldable pub step : Fields → Option Step
step fields =
    if has_form fields (codes "deliver") 3 then delivery (side_of (field fields 1)) (number_of (field fields 2))
    else if has_form fields (codes "settle") 2 then rounds (number_of (field fields 1)) else None

-- what is stated by the fields after `client`: `try USER SERVICE PROOF`, `try USER SERVICE query ALG HEX`, or a setting
unfoldable pub statement_of_client : Fields → Option StatementData
statement_of_client fields =
    if begins_with_word fields (codes "try") 3 then
    option_map (λ proof. Tries (record { user = field fields 1; service = field fields 2; proving = proof })) (attempting (drop 3 fields))
    else if length fields == 2 then client_value (field fields 0) (field fields 1) else None

-- what is stated by the fields after `server`: `hostkey ALG HEX`, `notice HEX`, or a setting
unfoldable pub statement_of_server : Fields → Option StatementData
statement_of_server fields =
    if has_form fields (codes "hostkey") 3 then
    option_map (λ secret. Holds (record { algorithm = field fields 1; secret = secret })) (bytes_of (field fields 2))
    else if has_form fields (codes "notice") 2 then option_map Notes (bytes_of (field fields 1))
    else if length fields == 2 then server_value (field fields 0) (field fields 1) else None

-- what the fields of a line say
unfoldable pub statement_by : Fields → Option StatementData
statement_by fields =
    if begins_with_word fields (codes "client") 1 then statement_of_client (drop 1 fields)
    else if begins_with_word fields (codes "server") 1 then statement_of_server (drop 1 fields)
    else if has_form fields (codes "distrust") 2 then Some (Distrusts (field fields 1))
    else if begins_with_word fields (codes "allow") 2 then option_map (Allows (field fields 1)) (proving (drop 2 fields))
    else if has_form fields (codes "deny") 2 then option_map Denies (number_of (field fields 1))
    else option_map Does (step fields)

-- a byte that a line may have: from 32 to 126
abbrev pub is_line_byte : ℕ → Bool
is_line_byte b = nat_le 32 b && nat_le b 126

-- a line has at most 20000 bytes, from 32 to 126
abbrev pub is_text : List ℕ → Bool
is_text line = nat_le (length line) LINE_LIMIT && list_all is_line_byte line

-- an empty line, and a comment, which begins with `#`, say nothing
abbrev pub states_nothing : List ℕ → Bool
states_nothing line = (length line == 0) || (slice_index line 0 == 35)

-- two blanks side by side, or one at an end, leave an empty field
abbrev pub has_empty : Fields → Bool
has_empty fields = list_any (λ field. length field == 0) fields

-- what is stated by the fields between the blanks of a line
unfoldable pub statement_in_fields : List ℕ → Option StatementData
statement_in_fields line = if has_empty (parts 32 line) then None else statement_by (parts 32 line)

-- What a line without its LF says, if it has a form; it may say nothing.
unfoldable pub statement : List ℕ → Option (Option StatementData)
statement line = if is_text line then (if states_nothing line then Some None else option_map Some (statement_in_fields line)) else None
