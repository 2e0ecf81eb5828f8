-- Why a text is refused.

use Rattle.std.proofs.Common.{◌≡◌, ◌⊎◌, ℕ, List, inl, inr, subst}
use Rattle.sshcore.specs.declared.config_fault.ConfigFault.{ConfigFault}
use Rattle.sshcore.specs.ConfigParts.{ClientData, ServerData}
use Rattle.sshcore.specs.ConfigRules.{ClientRule, IsClient, IsLeastBroken, ServerRule}
use Rattle.sshlab.specs.declared.scenario.ScenarioFault.{ScenarioFault}
use Rattle.sshlab.specs.declared.scenario.ScenarioFault.TheVariants as fault
use Rattle.sshlab.specs.ScenarioFaults.{IsCause, IsClientRefusal, IsLineCause, IsServerRefusal}
use Rattle.sshlab.specs.ScenarioParts.{client_of_lines, server_of_lines}
use Rattle.sshlab.specs.ScenarioText.{CanBeRead, statements_in}

pub line_cause : (ls : List (List ℕ)) (told : ScenarioFault) → IsLineCause ls told → IsCause ls told
line_cause ls (fault.Line k) cause = cause
line_cause ls (fault.Client code) cause = absurd cause
line_cause ls (fault.Server code) cause = absurd cause
line_cause ls fault.Memory cause = tt

module _ (ls : List (List ℕ)) (read : CanBeRead ls) where
  pub client_cause : (parts : ClientData) (told : ScenarioFault) → parts ≡ client_of_lines (statements_in ls) → IsClientRefusal parts told → IsCause ls told
  client_cause parts (fault.Line k) is cause = absurd cause
  client_cause parts (fault.Client code) is cause =
      record { read = read; client = subst (λ (client : ClientData). IsLeastBroken (λ rule. ClientRule rule client) code) is cause }
  client_cause parts (fault.Server code) is cause = absurd cause
  client_cause parts fault.Memory is cause = tt

  pub server_cause : (parts : ServerData) (told : ScenarioFault) → ((rule : ConfigFault) → ClientRule rule (client_of_lines (statements_in ls)))
      → parts ≡ server_of_lines (statements_in ls) → IsServerRefusal parts told → IsCause ls told
  server_cause parts (fault.Line k) kept is cause = absurd cause
  server_cause parts (fault.Client code) kept is cause = absurd cause
  server_cause parts (fault.Server code) kept is cause =
      record { read = read; client = kept; server = subst (λ (server : ServerData). IsLeastBroken (λ rule. ServerRule rule server) code) is cause }
  server_cause parts fault.Memory kept is cause = tt

  -- why both configs can't be had
  pub either_cause : (client : ClientData) (server : ServerData) (told : ScenarioFault) → client ≡ client_of_lines (statements_in ls) → server ≡ server_of_lines (statements_in ls)
      → IsClientRefusal client told ⊎ (IsClient client × IsServerRefusal server told) → IsCause ls told
  either_cause client server told of_client of_server (inl cause) = client_cause client told of_client cause
  either_cause client server told of_client of_server (inr (is, cause)) =
      server_cause server told (λ (rule : ConfigFault). subst (λ (d : ClientData). ClientRule rule d) of_client (is.keeps rule)) of_server cause
