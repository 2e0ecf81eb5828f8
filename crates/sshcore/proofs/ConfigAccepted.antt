-- What is true of parts that aren't refused, and of those that are.

use Rattle.std.proofs.Common.{◌≡◌, ◌≢◌, List, [], ◌∷◌, map, None, Some, sym, subst}
use Rattle.std.specs.List.{AllByRecursion}
use Rattle.std.specs.Str.{IsUtf8}
use Rattle.std.proofs.lemmas.Str.{IsUtf8-string_bytes}
use Rattle.sshcore.specs.declared.config_fault.ConfigFault.{ConfigFault}
use Rattle.sshcore.specs.declared.config_fault.ConfigFault.TheVariants as fault
use Rattle.sshcore.specs.declared.config_parts.Attempt as attempt_parts
use Rattle.sshcore.specs.declared.config_parts.ClientParts.{ClientParts}
use Rattle.sshcore.specs.declared.config_parts.ServerParts.{ServerParts}
use Rattle.sshcore.specs.ConfigParts.{AttemptData}
use Rattle.sshcore.specs.ConfigRules.{ClientRule, HasBytes, IsClient, IsLeastBroken, IsServer, ServerRule}
use Rattle.sshcore.specs.ConfigTests.{client_test, refusal, server_test}
use Rattle.sshcore.specs.ConfigView.{attempt_data, client_data, server_data, side_data}
use Rattle.sshcore.proofs.ConfigJudged.{NameLaw, VersionLaw, client_decided, server_decided}
use Rattle.sshcore.proofs.ConfigLeast.{all_kept, refused}

-- a user's name is a String
users_utf8 : (plan : List attempt_parts.Attempt) → AllByRecursion (λ (a : AttemptData). IsUtf8 a.user) (map attempt_data plan)
users_utf8 [] = tt
users_utf8 (a ∷ plan) = (IsUtf8-string_bytes a.user, users_utf8 plan)

-- running out of memory isn't a rule's breach
not_memory : (Rule : ConfigFault → Type 0) (code : ConfigFault) → Rule fault.Memory → IsLeastBroken Rule code → code ≡ fault.Memory → ⊥
not_memory Rule code memory r is = r.broken (subst Rule (sym is) memory)

pub client_kept : NameLaw → VersionLaw → (parts : ClientParts) → refusal (client_test parts) ≡ None → (rule : ConfigFault) → ClientRule rule (client_data parts)
client_kept names versions parts = all_kept (λ rule. ClientRule rule (client_data parts)) (client_test parts) (client_decided names versions parts) tt

pub client_refused : NameLaw → VersionLaw → (parts : ClientParts) (code : ConfigFault) → refusal (client_test parts) ≡ Some code
    → IsLeastBroken (λ rule. ClientRule rule (client_data parts)) code
client_refused names versions parts = refused (λ rule. ClientRule rule (client_data parts)) (client_test parts) (client_decided names versions parts) tt

pub client_not_memory : NameLaw → VersionLaw → (parts : ClientParts) (code : ConfigFault) → refusal (client_test parts) ≡ Some code → code ≢ fault.Memory
client_not_memory names versions parts code e =
    not_memory (λ rule. ClientRule rule (client_data parts)) code tt (client_refused names versions parts code e)

pub client_accepted : NameLaw → VersionLaw → (parts : ClientParts) → refusal (client_test parts) ≡ None → HasBytes (side_data parts.side) → IsClient (client_data parts)
client_accepted names versions parts e bytes =
    record { keeps = client_kept names versions parts e; users = users_utf8 parts.plan.items; bytes = bytes }

pub server_kept : NameLaw → VersionLaw → (parts : ServerParts) → refusal (server_test parts) ≡ None → (rule : ConfigFault) → ServerRule rule (server_data parts)
server_kept names versions parts = all_kept (λ rule. ServerRule rule (server_data parts)) (server_test parts) (server_decided names versions parts) tt

pub server_refused : NameLaw → VersionLaw → (parts : ServerParts) (code : ConfigFault) → refusal (server_test parts) ≡ Some code
    → IsLeastBroken (λ rule. ServerRule rule (server_data parts)) code
server_refused names versions parts = refused (λ rule. ServerRule rule (server_data parts)) (server_test parts) (server_decided names versions parts) tt

pub server_not_memory : NameLaw → VersionLaw → (parts : ServerParts) (code : ConfigFault) → refusal (server_test parts) ≡ Some code → code ≢ fault.Memory
server_not_memory names versions parts code e =
    not_memory (λ rule. ServerRule rule (server_data parts)) code tt (server_refused names versions parts code e)

pub server_accepted : NameLaw → VersionLaw → (parts : ServerParts) → refusal (server_test parts) ≡ None → HasBytes (side_data parts.side) → IsServer (server_data parts)
server_accepted names versions parts e bytes = record { keeps = server_kept names versions parts e; bytes = bytes }
