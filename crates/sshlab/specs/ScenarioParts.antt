-- What the lines of a scenario give together.

use Rattle.std.specs.Prelude.{ℕ, ◌==◌, Bool, true, if◌then◌else◌, List, [], ◌∷◌, length, Option, Some, None, fold}
use Rattle.std.specs.List.{filter_map}
use Rattle.sshwire.specs.TypeReadings.{is_name}
use Rattle.sshcore.specs.ConfigParts.{AttemptData, ByKey, ClientData, CredentialData, HostKeyData, ServerData, SideData}
use Rattle.sshneg.specs.declared.side.Side.{Side}
use Rattle.sshneg.specs.declared.side.Side.TheVariants.{Client, Server}
use Rattle.sshlab.specs.declared.scenario_line.Step.{Step}
use Rattle.sshlabsuites.specs.LabConfigs.{lab_client, lab_server}
use Rattle.sshlabsuites.specs.LabDecisionsData.{AllowedData, LabDecisionsData, proof_by}
use Rattle.sshlab.specs.ScenarioSettings.{with_side}
use Rattle.sshlab.specs.Scenarios.{Allows, Denies, Distrusts, Does, Holds, Notes, OfClient, OfServer, OfSide, SetBanner, SetGuess, SetHostKeys, SetMethods, SetRequired, SetServices, SetTries, SideSettingData, StatementData, Tries}

-- the value that the lines set, which stands once at most, else the default
abbrev pub set_or : {A : Type 0} → A → List A → A
set_or default [] = default
set_or default (value ∷ values) = set_or value values

-- what the lines hold, if they hold some, else the default
abbrev pub some_or : {A : Type 0} → List A → List A → List A
some_or default items = if length items == 0 then default else items

-- a setting of this side that both sides have
abbrev pub side_value_in : Side → StatementData → Option SideSettingData
side_value_in Client (OfSide Client value) = Some value
side_value_in Server (OfSide Server value) = Some value
side_value_in side stated = None

-- the host key algorithms that the line sets, if it does
abbrev pub host_key_algorithms_in : StatementData → Option (List (List ℕ))
host_key_algorithms_in (OfClient (SetHostKeys names)) = Some names
host_key_algorithms_in stated = None

-- whether the client guesses, if the line sets it
abbrev pub guess_in : StatementData → Option Bool
guess_in (OfClient (SetGuess guess)) = Some guess
guess_in stated = None

-- the attempt that the line adds to the plan, if it does
abbrev pub attempt_in : StatementData → Option AttemptData
attempt_in (Tries attempt) = Some attempt
attempt_in stated = None

-- the host key that the line gives the server, if it does
abbrev pub host_key_in : StatementData → Option HostKeyData
host_key_in (Holds key) = Some key
host_key_in stated = None

-- the services that the line sets, if it does
abbrev pub services_in : StatementData → Option (List (List ℕ))
services_in (OfServer (SetServices names)) = Some names
services_in stated = None

-- the methods that the line sets, if it does
abbrev pub methods_in : StatementData → Option (List (List ℕ))
methods_in (OfServer (SetMethods names)) = Some names
methods_in stated = None

-- the required methods that the line sets, if it does
abbrev pub required_in : StatementData → Option (List (List ℕ))
required_in (OfServer (SetRequired names)) = Some names
required_in stated = None

-- the limit of tries that the line sets, if it does
abbrev pub tries_in : StatementData → Option ℕ
tries_in (OfServer (SetTries tries)) = Some tries
tries_in stated = None

-- a banner, which may have no bytes
abbrev pub banner_in : StatementData → Option (Option (List ℕ))
banner_in (OfServer (SetBanner text)) = Some (Some text)
banner_in stated = None

-- the notice line that the line adds, if it does
abbrev pub notice_in : StatementData → Option (List ℕ)
notice_in (Notes line) = Some line
notice_in stated = None

-- the algorithm whose host keys the line distrusts, if it does
abbrev pub distrusted_in : StatementData → Option (List ℕ)
distrusted_in (Distrusts algorithm) = Some algorithm
distrusted_in stated = None

-- a key whose algorithm isn't a name is no request's
abbrev pub can_be_proved : CredentialData → Bool
can_be_proved (ByKey algorithm secret ask) = is_name algorithm
can_be_proved proving = true

-- who is accepted by an `allow` line, and by what; nobody, where no request can prove it
abbrev pub allowance_in : StatementData → Option AllowedData
allowance_in (Allows user proving) = if can_be_proved proving then Some (record { user = user; proof = proof_by proving }) else None
allowance_in stated = None

-- the number of the request that the line denies, if it does
abbrev pub denied_in : StatementData → Option ℕ
denied_in (Denies number) = Some number
denied_in stated = None

-- the step that the line does, if it is one
abbrev pub step_in : StatementData → Option Step
step_in (Does step) = Some step
step_in stated = None

-- the parts of a side: the defaults with the settings of its lines
abbrev pub side_of_lines : Side → SideData → List StatementData → SideData
side_of_lines side default statements = fold with_side default (filter_map (side_value_in side) statements)

-- the client's parts: its settings, or the defaults, and the attempts of the `try` lines in their order
unfoldable pub client_of_lines : List StatementData → ClientData
client_of_lines statements = record {
  side = side_of_lines Client lab_client.side statements;
  host_key_algorithms = set_or lab_client.host_key_algorithms (filter_map host_key_algorithms_in statements);
  guess = set_or lab_client.guess (filter_map guess_in statements);
  plan = filter_map attempt_in statements;
}

-- the server's parts: its settings, or the defaults; the host keys of the lines, or the default where there is none; and its notice lines
unfoldable pub server_of_lines : List StatementData → ServerData
server_of_lines statements = record {
  side = side_of_lines Server lab_server.side statements;
  host_keys = some_or lab_server.host_keys (filter_map host_key_in statements);
  services = set_or lab_server.services (filter_map services_in statements);
  methods = set_or lab_server.methods (filter_map methods_in statements);
  required = set_or lab_server.required (filter_map required_in statements);
  signature_algorithms = lab_server.signature_algorithms;
  tries = set_or lab_server.tries (filter_map tries_in statements);
  banner = set_or lab_server.banner (filter_map banner_in statements);
  notices = filter_map notice_in statements;
}

-- the decisions: the algorithms of the `distrust` lines, those whom the `allow` lines accept, and the numbers of the `deny` lines
unfoldable pub rules_of_lines : List StatementData → LabDecisionsData
rules_of_lines statements = record {
  distrusted = filter_map distrusted_in statements;
  allowed = filter_map allowance_in statements;
  denied = filter_map denied_in statements;
}

-- what the `deliver` and `settle` lines do, in their order
unfoldable pub steps_of_lines : List StatementData → List Step
steps_of_lines statements = filter_map step_in statements
