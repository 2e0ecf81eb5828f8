-- Endpoints of what a program puts in.

use Rattle.std.specs.Prelude.{◌≡◌, ◌≢◌, ℕ, List, [], Option, None, Some}
use Rattle.sha2.specs.Sha256.{sha256}
use Rattle.sshneg.specs.declared.side.Side.{Side}
use Rattle.sshneg.specs.declared.side.Side.TheVariants.{Client, Server}
use Rattle.sshpacket.specs.Suite.{SuiteData}
use Rattle.sshsuite.specs.declared.deployed_suite.DeployedSuite.{DeployedSuite}
use Rattle.sshsuite.specs.Deployed.{deployed}
use Rattle.sshcore.specs.Asking.{AskingAfter, asked_by, asking_end}
use Rattle.sshcore.specs.AskingData.{AskingData}
use Rattle.sshcore.specs.ConfigRules.{IsClient, IsServer}
use Rattle.sshcore.specs.EndData.{Open}
use Rattle.sshcore.specs.EndpointParts.{ConfigData, DecisionsData, Setup, client_setup, config_of_client, config_of_server, server_setup, setup_with}
use Rattle.sshcore.specs.Paused.{FitsPaused, PausedAfter, PausedData, asked_paused}
use Rattle.sshcore.specs.Record.{IsRecordOf}
use Rattle.rezdolin.specs.declared.parts.NoConfig.{NoConfig}
use Rattle.rezdolin.specs.declared.parts_of.Config.{Config}
use Rattle.rezdolin.specs.declared.parts_of.Config.TheVariants as config
use Rattle.rezdolin.specs.declared.parts_of.Parts.{Parts}
use Rattle.rezdolin.specs.declared.parts_of.Parts.TheVariants as parts
use Rattle.rezdolin.specs.declared.trust.Trust.{Trust}
use Rattle.rezdolin.specs.Drawn.{AreDrawn}
use Rattle.rezdolin.specs.Inputs.{AreClientTexts, AreServerTexts, client_of, server_of}
use Rattle.rezdolin.specs.PartsText.{client_text, server_text}
use Rattle.rezdolin.specs.Readable.{IsClientRead, IsServerRead}
use Rattle.rezdolin.specs.Refusals.{IsFitClient, IsFitServer, IsRefusedClient, IsRefusedServer, RefusesClient, RefusesServer}
use Rattle.rezdolin.specs.Trust.{trust_policy}

-- what the suite means
abbrev pub means : DeployedSuite → SuiteData
means suite = deployed

-- the numbers and entries of these parts can be read
abbrev pub AreRead : Parts → Type 0
AreRead (parts.Client client) = IsClientRead client.now
AreRead (parts.Server server) = IsServerRead server.now

-- no draw of these parts has bytes that are all equal
abbrev pub HasDrawn : Parts → Type 0
HasDrawn (parts.Client client) = AreDrawn client.now.side
HasDrawn (parts.Server server) = AreDrawn server.now.side

-- the texts of these parts are UTF-8, and their numbers of methods are read
abbrev pub AreTexts : Parts → Type 0
AreTexts (parts.Client client) = AreClientTexts client.now
AreTexts (parts.Server server) = AreServerTexts server.now

-- the endpoint of parts, by these decisions
abbrev pub setup_of : Parts → DecisionsData → Setup
setup_of (parts.Client client) d = client_setup deployed d (client_of client.now)
setup_of (parts.Server server) d = server_setup deployed d (server_of server.now)

-- the digest of all that is read of them (FIPS 180-4)
abbrev pub digest_of : Parts → List ℕ
digest_of (parts.Client client) = sha256 (client_text client.now [])
digest_of (parts.Server server) = sha256 (server_text server.now [])

-- lists decide for the endpoint, and no one is asked
abbrev pub AreListed : Parts → Type 0
AreListed (parts.Client client) = client.now.asks ≢ 1
AreListed (parts.Server server) = server.now.asks ≢ 1

-- These decisions are those of the parts: of an endpoint that asks any, and else those of its lists.
abbrev pub AreAllowed : Parts → DecisionsData → Type 0
AreAllowed (parts.Client client) d = client.now.asks ≢ 1 → d ≡ trust_policy client.now.trusted_host_keys.now []
AreAllowed (parts.Server server) d = server.now.asks ≢ 1 → d ≡ trust_policy [] server.now.users.now

-- the decisions are those of the lists, where there are lists
abbrev pub Trusts : Option Trust → DecisionsData → Type 0
Trusts None d = Unit {0}
Trusts (Some trust) d = d ≡ trust_policy trust.host_keys.now trust.users.now

-- a config is that of the parts
abbrev pub IsConfigOf : Parts → Config → Type 0
IsConfigOf (parts.Client client) (config.Client made) = (made ≡ client_of client.now) × IsClient made × IsFitClient client.now
IsConfigOf (parts.Client client) (config.Server made) = ⊥
IsConfigOf (parts.Server server) (config.Client made) = ⊥
IsConfigOf (parts.Server server) (config.Server made) = (made ≡ server_of server.now) × IsServer made × IsFitServer server.now

-- why there is no config for these parts
abbrev pub RefusesParts : Parts → NoConfig → Type 0
RefusesParts (parts.Client client) f = RefusesClient client.now f
RefusesParts (parts.Server server) f = RefusesServer server.now f

-- why there is no config for these parts, as a number
abbrev pub AreRefused : Parts → ℕ → Type 0
AreRefused (parts.Client client) number = IsRefusedClient client.now number
AreRefused (parts.Server server) number = IsRefusedServer server.now number

-- an endpoint is made of parts alone whose numbers and entries are read, whose draws may be random, that break no rule, and that the suite
-- fits
abbrev pub AreTaken : Parts → Type 0
AreTaken (parts.Client client) = IsClientRead client.now × AreDrawn client.now.side × IsClient (client_of client.now) × IsFitClient client.now
AreTaken (parts.Server server) = IsServerRead server.now × AreDrawn server.now.side × IsServer (server_of server.now) × IsFitServer server.now

-- the role of a config that was made
abbrev pub role_in : Config → Side
role_in (config.Client made) = Client
role_in (config.Server made) = Server

-- what an endpoint uses of a config that was made
abbrev pub config_in : Config → ConfigData
config_in (config.Client made) = config_of_client made
config_in (config.Server made) = config_of_server made

-- This text is the record of a paused endpoint of this role and config that has received and sent so, by these decisions, and asks this.
pub record IsRecordAfter (setup : Setup) (text h s : List ℕ) : Type 0 where
  pub endpoint : PausedData DeployedSuite
  pub suite : DeployedSuite
  pub is_record : IsRecordOf text endpoint
  pub fits : FitsPaused means setup.role setup.config suite endpoint
  pub after : PausedAfter setup endpoint h s

-- An endpoint goes on from this record: it stands as far as each that it was written of, and asks the same.
pub record Resumes (role : Side) (config : ConfigData) (text : List ℕ) (e : AskingData DeployedSuite) : Type 0 where
  pub is_role : e.role ≡ role
  pub is_config : e.config ≡ config
  pub is_open : asking_end e ≡ Open
  pub follows : (d : DecisionsData) (h s : List ℕ) → IsRecordAfter (setup_with deployed d role config) text h s → AskingAfter means d e h s
  pub asks : (d : DecisionsData) (h s : List ℕ) (r : IsRecordAfter (setup_with deployed d role config) text h s) → asked_by e ≡ asked_paused r.endpoint

-- this text is the record of no endpoint of this role and config
abbrev pub IsNone : Side → ConfigData → List ℕ → Type 0
IsNone role config text = (d : DecisionsData) (h s : List ℕ) → IsRecordAfter (setup_with deployed d role config) text h s → ⊥
