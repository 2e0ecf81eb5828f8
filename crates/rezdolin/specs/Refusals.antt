-- Why what was put in makes no config.

use Rattle.std.specs.Prelude.{◌≡◌, ◌≢◌, ◌⊎◌, ◌==◌, ◌&&◌, ℕ, Bool, true, false, not, if◌then◌else◌, List}
use Rattle.std.specs.List.{list_all}
use Rattle.sshcore.specs.declared.config_fault.ConfigFault.{ConfigFault}
use Rattle.sshcore.specs.declared.config_fault.ConfigFault.TheVariants as config
use Rattle.sshcore.specs.ConfigRules.{ClientRule, IsLeastBroken, ServerRule, rule_number}
use Rattle.sshcore.specs.SuiteFit.{DemandData, IsFit, client_names, server_names}
use Rattle.sshsuite.specs.Deployed.{deployed}
use Rattle.sshsuite.specs.DeployedInventory.{deployed_inventory}
use Rattle.rezdolin.specs.declared.inputs.AttemptInput.{AttemptInput}
use Rattle.rezdolin.specs.declared.inputs.ClientInput.{ClientInput}
use Rattle.rezdolin.specs.declared.inputs.HostKeyInput.{HostKeyInput}
use Rattle.rezdolin.specs.declared.inputs.ServerInput.{ServerInput}
use Rattle.rezdolin.specs.declared.inputs.TheConstants.{KEY_HERE, METHOD_PUBLICKEY, METHOD_SIGNED}
use Rattle.rezdolin.specs.declared.parts.NoConfig.{NoConfig}
use Rattle.rezdolin.specs.declared.parts.NoConfig.TheVariants as no
use Rattle.rezdolin.specs.declared.texts.InputFault.TheVariants as fault
use Rattle.rezdolin.specs.Inputs.{AreClientTexts, AreServerTexts, client_of, server_of}
use Rattle.rezdolin.specs.PublicKeys.{is_public_key}

-- this is the number of the least rule that is broken, and it isn't out of memory
pub record IsRefused (Rule : ConfigFault → Type 0) (number : ℕ) : Type 0 where
  pub code : ConfigFault
  pub broken : IsLeastBroken Rule code
  pub number_is : number ≡ rule_number code

-- the deployed suite has what is asked for
abbrev pub IsDeployed : List DemandData → Type 0
IsDeployed asked = IsFit deployed deployed_inventory asked

-- the suite holds this private key of this algorithm
abbrev pub is_held : List ℕ → List ℕ → Bool
is_held algorithm key = deployed.holds algorithm key

-- these bytes are a public key, and no private key that the suite holds
abbrev pub is_elsewhere : List ℕ → List ℕ → Bool
is_elsewhere algorithm key = is_public_key key && not (is_held algorithm key)

-- the private key of an attempt is where its method says: the suite holds it, or it is the public key of one elsewhere
abbrev pub is_attempt_placed : AttemptInput → Bool
is_attempt_placed attempt =
    if attempt.method == METHOD_PUBLICKEY then is_held attempt.algorithm.now attempt.secret.now
    else if attempt.method == METHOD_SIGNED then is_elsewhere attempt.algorithm.now attempt.secret.now else true

-- each private key of a plan is where its number says
abbrev pub are_attempts_placed : List AttemptInput → Bool
are_attempts_placed plan = list_all is_attempt_placed plan

-- a host key is where its number says: the suite holds its private key, or has its public key as a key that is elsewhere
abbrev pub is_key_placed : HostKeyInput → Bool
is_key_placed key = if key.place == KEY_HERE then is_held key.algorithm.now key.key.now else is_elsewhere key.algorithm.now key.key.now

-- each host key is where its number says
abbrev pub are_keys_placed : List HostKeyInput → Bool
are_keys_placed keys = list_all is_key_placed keys

-- the suite has each algorithm that is named, and the private keys are where their numbers tell
pub record IsFitClient (client : ClientInput) : Type 0 where
  pub named : IsDeployed (client_names (client_of client))
  pub placed : are_attempts_placed client.plan.now ≡ true

-- the suite has each algorithm that the server's config names, and each host key is where its number says
pub record IsFitServer (server : ServerInput) : Type 0 where
  pub named : IsDeployed (server_names (server_of server))
  pub placed : are_keys_placed server.host_keys.now ≡ true

-- why the suite doesn't fit: 13 where it lacks an algorithm that is named; 14 where a private key isn't where its number tells
abbrev pub IsUnfit : List DemandData → Bool → ℕ → Type 0
IsUnfit named placed number = ((number ≡ 13) × (IsDeployed named → ⊥)) ⊎ ((number ≡ 14) × IsDeployed named × (placed ≡ false))

-- The client's config breaks a rule, of which this is the least number, 1 for C1. Or the suite lacks what the config asks for: then this is
-- 13 for an algorithm, 14 for a private key.
abbrev pub IsRefusedClient : ClientInput → ℕ → Type 0
IsRefusedClient client number =
    IsRefused (λ rule. ClientRule rule (client_of client)) number ⊎ IsUnfit (client_names (client_of client)) (are_attempts_placed client.plan.now) number

-- The server's config breaks a rule, of which this is the least number, 1 for C1. Or the suite lacks what the config asks for: then this is
-- 13 for an algorithm, 14 for a private key.
abbrev pub IsRefusedServer : ServerInput → ℕ → Type 0
IsRefusedServer server number =
    IsRefused (λ rule. ServerRule rule (server_of server)) number ⊎ IsUnfit (server_names (server_of server)) (are_keys_placed server.host_keys.now) number

-- what an answer without a config says
abbrev pub Refuses : (ConfigFault → Type 0) → Type 0 → List DemandData → Bool → NoConfig → Type 0
Refuses Rule Texts named placed (no.Input f) = f ≡ fault.Unreadable → Texts → ⊥
Refuses Rule Texts named placed (no.Parts code) = code ≢ config.Memory → IsLeastBroken Rule code
Refuses Rule Texts named placed (no.Unfit number) = IsUnfit named placed number

-- why there is no config for a client's input: a text, an entry, a rule, or what the suite lacks
abbrev pub RefusesClient : ClientInput → NoConfig → Type 0
RefusesClient client f =
    Refuses (λ rule. ClientRule rule (client_of client)) (AreClientTexts client) (client_names (client_of client)) (are_attempts_placed client.plan.now) f

-- why there is no config for a server's input: a text, an entry, a rule, or what the suite lacks
abbrev pub RefusesServer : ServerInput → NoConfig → Type 0
RefusesServer server f =
    Refuses (λ rule. ServerRule rule (server_of server)) (AreServerTexts server) (server_names (server_of server)) (are_keys_placed server.host_keys.now) f
