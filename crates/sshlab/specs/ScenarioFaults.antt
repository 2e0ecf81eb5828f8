-- Why a text is no scenario.

use Rattle.std.specs.Prelude.{ℕ, List}
use Rattle.sshcore.specs.declared.config_fault.ConfigFault.{ConfigFault}
use Rattle.sshcore.specs.ConfigParts.{ClientData, ServerData}
use Rattle.sshcore.specs.ConfigRules.{ClientRule, IsLeastBroken, ServerRule}
use Rattle.sshlab.specs.declared.scenario.ScenarioFault.{ScenarioFault}
use Rattle.sshlab.specs.declared.scenario.ScenarioFault.TheVariants as fault
use Rattle.sshlab.specs.ScenarioParts.{client_of_lines, server_of_lines}
use Rattle.sshlab.specs.ScenarioText.{CanBeRead, IsFirstBad, statements_in}

-- all lines can be read, and the client's parts break the rule of this number and none of a lesser one
pub record IsClientCause (ls : List (List ℕ)) (code : ConfigFault) : Type 0 where
  pub read : CanBeRead ls
  pub client : IsLeastBroken (λ rule. ClientRule rule (client_of_lines (statements_in ls))) code

-- all lines can be read, the client's parts keep every rule, and the server's break this one and none of a lesser number
pub record IsServerCause (ls : List (List ℕ)) (code : ConfigFault) : Type 0 where
  pub read : CanBeRead ls
  pub client : (rule : ConfigFault) → ClientRule rule (client_of_lines (statements_in ls))
  pub server : IsLeastBroken (λ rule. ServerRule rule (server_of_lines (statements_in ls))) code

-- why lines are refused so; running out of memory has no cause in them
abbrev pub IsCause : List (List ℕ) → ScenarioFault → Type 0
IsCause ls (fault.Line k) = IsFirstBad k ls
IsCause ls (fault.Client code) = IsClientCause ls code
IsCause ls (fault.Server code) = IsServerCause ls code
IsCause ls fault.Memory = Unit {0}

-- why reading the lines alone is refused: a first bad line; running out of memory has no cause
abbrev pub IsLineCause : List (List ℕ) → ScenarioFault → Type 0
IsLineCause ls (fault.Line k) = IsFirstBad k ls
IsLineCause ls (fault.Client code) = ⊥
IsLineCause ls (fault.Server code) = ⊥
IsLineCause ls fault.Memory = Unit {0}

-- why a client's parts are refused so
abbrev pub IsClientRefusal : ClientData → ScenarioFault → Type 0
IsClientRefusal parts (fault.Line k) = ⊥
IsClientRefusal parts (fault.Client code) = IsLeastBroken (λ rule. ClientRule rule parts) code
IsClientRefusal parts (fault.Server code) = ⊥
IsClientRefusal parts fault.Memory = Unit {0}

-- why a server's are
abbrev pub IsServerRefusal : ServerData → ScenarioFault → Type 0
IsServerRefusal parts (fault.Line k) = ⊥
IsServerRefusal parts (fault.Client code) = ⊥
IsServerRefusal parts (fault.Server code) = IsLeastBroken (λ rule. ServerRule rule parts) code
IsServerRefusal parts fault.Memory = Unit {0}
