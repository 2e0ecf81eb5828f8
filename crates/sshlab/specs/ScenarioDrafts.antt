-- A scenario while its lines are read.

use Rattle.std.specs.Prelude.{ℕ, if◌then◌else◌, List, [], ◌∷◌, ◌++◌, Option, Some, None, fold}
use Rattle.sshcore.specs.ConfigParts.{ClientData, CredentialData, HostKeyData, ServerData}
use Rattle.sshneg.specs.declared.side.Side.{Side}
use Rattle.sshneg.specs.declared.side.Side.TheVariants.{Client, Server}
use Rattle.sshlab.specs.declared.scenario_line.Step.{Step}
use Rattle.sshlab.specs.declared.scenario_settings.Setting.{Setting}
use Rattle.sshlabsuites.specs.LabConfigs.{lab_client, lab_server}
use Rattle.sshlabsuites.specs.LabDecisionsData.{LabDecisionsData, proof_by}
use Rattle.sshlab.specs.ScenarioParts.{can_be_proved}
use Rattle.sshlab.specs.ScenarioSettings.{setting_in, with_client, with_server, with_side}
use Rattle.sshlab.specs.ScenarioText.{statement_in}
use Rattle.sshlab.specs.Scenarios.{Allows, Denies, Distrusts, Does, Holds, Notes, OfClient, OfServer, OfSide, StatementData, Tries}

-- what lines give, and the settings that they make; the server's host keys are the default, and those of the lines stand apart
pub record DraftData : Type 0 where
  pub client : ClientData
  pub server : ServerData
  pub host_keys : List HostKeyData
  pub rules : LabDecisionsData
  pub steps : List Step
  pub settings : List (Side × Setting)

-- what no lines give
unfoldable pub no_lines : DraftData
no_lines = record {
  client = lab_client;
  server = lab_server;
  host_keys = [];
  rules = record { distrusted = []; allowed = []; denied = [] };
  steps = [];
  settings = [];
}

-- one more is accepted, by a proof that a request can have
abbrev pub allowing : LabDecisionsData → List ℕ → CredentialData → LabDecisionsData
allowing rules user proving =
    if can_be_proved proving then record rules { allowed = rules.allowed ++ record { user = user; proof = proof_by proving } ∷ [] } else rules

-- what one more line gives
abbrev pub after : DraftData → StatementData → DraftData
after d (OfSide Client value) = record d { client = record d.client { side = with_side d.client.side value } }
after d (OfSide Server value) = record d { server = record d.server { side = with_side d.server.side value } }
after d (OfClient value) = record d { client = with_client d.client value }
after d (OfServer value) = record d { server = with_server d.server value }
after d (Tries attempt) = record d { client = record d.client { plan = d.client.plan ++ attempt ∷ [] } }
after d (Holds key) = record d { host_keys = d.host_keys ++ key ∷ [] }
after d (Notes line) = record d { server = record d.server { notices = d.server.notices ++ line ∷ [] } }
after d (Distrusts algorithm) = record d { rules = record d.rules { distrusted = d.rules.distrusted ++ algorithm ∷ [] } }
after d (Allows user proving) = record d { rules = allowing d.rules user proving }
after d (Denies number) = record d { rules = record d.rules { denied = d.rules.denied ++ number ∷ [] } }
after d (Does step) = record d { steps = d.steps ++ step ∷ [] }

-- the setting noted, if there is one
abbrev pub noting : DraftData → Option (Side × Setting) → DraftData
noting d None = d
noting d (Some setting) = record d { settings = d.settings ++ setting ∷ [] }

-- a draft after a line with this statement
abbrev pub after_statement : DraftData → Option StatementData → DraftData
after_statement d None = d
after_statement d (Some stated) = after (noting d (setting_in stated)) stated

-- the draft with one more line
unfoldable pub after_line : DraftData → List ℕ → DraftData
after_line d line = after_statement d (statement_in line)

-- what the lines together give
unfoldable pub drafted : List StatementData → DraftData
drafted statements = fold (λ d stated. after_statement d (Some stated)) no_lines statements
