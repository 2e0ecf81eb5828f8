-- What the lines of a scenario give together.

use Rattle.std.proofs.Common.{◌≡◌, ◌∙◌, ℕ, List, [], ◌∷◌, ◌++◌, refl, sym, ap}
use Rattle.std.specs.Prelude.{Bool, true, false, if◌then◌else◌, None, Some}
use Rattle.std.specs.List.{cons_option, filter_map}
use Rattle.std.proofs.lemmas.List.{append-nil, append_assoc}
use Rattle.sshcore.specs.ConfigParts.{ClientData, HostKeyData, ServerData}
use Rattle.sshneg.specs.declared.side.Side.TheVariants.{Client, Server}
use Rattle.sshlabsuites.specs.LabDecisionsData.{AllowedData, LabDecisionsData, proof_by}
use Rattle.sshlab.specs.ScenarioDrafts.{DraftData, drafted, no_lines}
use Rattle.sshlab.specs.ScenarioParts.{allowance_in, attempt_in, banner_in, can_be_proved, client_of_lines, denied_in, distrusted_in, guess_in, host_key_algorithms_in, host_key_in, methods_in, required_in, notice_in, rules_of_lines, server_of_lines, services_in, set_or, side_of_lines, some_or, step_in, steps_of_lines, tries_in}
use Rattle.sshlab.specs.Scenarios.{Allows, Denies, Distrusts, Does, Holds, Notes, OfClient, OfServer, OfSide, SetBanner, SetGuess, SetHostKeys, SetMethods, SetRequired, SetServices, SetTries, StatementData, Tries}
use Rattle.sshlab.proofs.ScenarioDraftLemmas.{on, step_on}

-- the client's parts
abbrev client_from : ClientData → List StatementData → ClientData
client_from c statements = record {
  side = side_of_lines Client c.side statements;
  host_key_algorithms = set_or c.host_key_algorithms (filter_map host_key_algorithms_in statements);
  guess = set_or c.guess (filter_map guess_in statements);
  plan = c.plan ++ filter_map attempt_in statements;
}

client_step : (d : DraftData) (stated : StatementData) (statements : List StatementData)
    → client_from (step_on d stated).client statements ≡ client_from d.client (stated ∷ statements)
client_step d (OfSide Client value) statements = refl
client_step d (OfSide Server value) statements = refl
client_step d (OfClient (SetHostKeys names)) statements = refl
client_step d (OfClient (SetGuess guess)) statements = refl
client_step d (OfServer value) statements = refl
client_step d (Tries attempt) statements =
    ap (λ (plan : List _). record (client_from d.client statements) { plan = plan }) (append_assoc d.client.plan (attempt ∷ []) (filter_map attempt_in statements))
client_step d (Holds key) statements = refl
client_step d (Notes line) statements = refl
client_step d (Distrusts algorithm) statements = refl
client_step d (Allows user proving) statements = refl
client_step d (Denies number) statements = refl
client_step d (Does step) statements = refl

client_on : (statements : List StatementData) (d : DraftData) → (on d statements).client ≡ client_from d.client statements
client_on [] d = ap (λ (plan : List _). record d.client { plan = plan }) (sym (append-nil d.client.plan))
client_on (stated ∷ statements) d = client_on statements (step_on d stated) ∙ client_step d stated statements

pub client_drafted : (statements : List StatementData) → (drafted statements).client ≡ client_of_lines statements
unfolding drafted no_lines client_of_lines
client_drafted statements = client_on statements no_lines

-- the server's parts, but for the host keys
abbrev server_from : ServerData → List StatementData → ServerData
server_from s statements = record {
  side = side_of_lines Server s.side statements;
  host_keys = s.host_keys;
  services = set_or s.services (filter_map services_in statements);
  methods = set_or s.methods (filter_map methods_in statements);
  required = set_or s.required (filter_map required_in statements);
  signature_algorithms = s.signature_algorithms;
  tries = set_or s.tries (filter_map tries_in statements);
  banner = set_or s.banner (filter_map banner_in statements);
  notices = s.notices ++ filter_map notice_in statements;
}

server_step : (d : DraftData) (stated : StatementData) (statements : List StatementData)
    → server_from (step_on d stated).server statements ≡ server_from d.server (stated ∷ statements)
server_step d (OfSide Client value) statements = refl
server_step d (OfSide Server value) statements = refl
server_step d (OfClient value) statements = refl
server_step d (OfServer (SetServices names)) statements = refl
server_step d (OfServer (SetMethods names)) statements = refl
server_step d (OfServer (SetRequired names)) statements = refl
server_step d (OfServer (SetTries tries)) statements = refl
server_step d (OfServer (SetBanner text)) statements = refl
server_step d (Tries attempt) statements = refl
server_step d (Holds key) statements = refl
server_step d (Notes line) statements =
    ap (λ (notices : List (List ℕ)). record (server_from d.server statements) { notices = notices }) (append_assoc d.server.notices (line ∷ []) (filter_map notice_in statements))
server_step d (Distrusts algorithm) statements = refl
server_step d (Allows user proving) statements = refl
server_step d (Denies number) statements = refl
server_step d (Does step) statements = refl

server_on : (statements : List StatementData) (d : DraftData) → (on d statements).server ≡ server_from d.server statements
server_on [] d = ap (λ (notices : List (List ℕ)). record d.server { notices = notices }) (sym (append-nil d.server.notices))
server_on (stated ∷ statements) d = server_on statements (step_on d stated) ∙ server_step d stated statements

keys_step : (d : DraftData) (stated : StatementData) (statements : List StatementData)
    → (step_on d stated).host_keys ++ filter_map host_key_in statements ≡ d.host_keys ++ filter_map host_key_in (stated ∷ statements)
keys_step d (OfSide Client value) statements = refl
keys_step d (OfSide Server value) statements = refl
keys_step d (OfClient value) statements = refl
keys_step d (OfServer value) statements = refl
keys_step d (Tries attempt) statements = refl
keys_step d (Holds key) statements = append_assoc d.host_keys (key ∷ []) (filter_map host_key_in statements)
keys_step d (Notes line) statements = refl
keys_step d (Distrusts algorithm) statements = refl
keys_step d (Allows user proving) statements = refl
keys_step d (Denies number) statements = refl
keys_step d (Does step) statements = refl

keys_on : (statements : List StatementData) (d : DraftData) → (on d statements).host_keys ≡ d.host_keys ++ filter_map host_key_in statements
keys_on [] d = sym (append-nil d.host_keys)
keys_on (stated ∷ statements) d = keys_on statements (step_on d stated) ∙ keys_step d stated statements

-- the host keys of the lines in the default's place, if there is one
abbrev with_keys : ServerData → List HostKeyData → ServerData
with_keys server keys = record server { host_keys = some_or server.host_keys keys }

pub server_drafted : (statements : List StatementData)
    → record (drafted statements).server { host_keys = some_or (drafted statements).server.host_keys (drafted statements).host_keys } ≡ server_of_lines statements
unfolding drafted no_lines server_of_lines
server_drafted statements =
    ap (λ (server : ServerData). with_keys server (on no_lines statements).host_keys) (server_on statements no_lines)
    ∙ ap (λ (keys : List HostKeyData). with_keys (server_from no_lines.server statements) keys) (keys_on statements no_lines)

-- the decisions
abbrev rules_from : LabDecisionsData → List StatementData → LabDecisionsData
rules_from rules statements = record {
  distrusted = rules.distrusted ++ filter_map distrusted_in statements;
  allowed = rules.allowed ++ filter_map allowance_in statements;
  denied = rules.denied ++ filter_map denied_in statements;
}

allow_step : (b : Bool) (rules : LabDecisionsData) (allowance : AllowedData) (statements : List StatementData)
    → rules_from (if b then record rules { allowed = rules.allowed ++ allowance ∷ [] } else rules) statements
    ≡ record (rules_from rules statements) { allowed = rules.allowed ++ cons_option (if b then Some allowance else None) (filter_map allowance_in statements) }
allow_step true rules allowance statements =
    ap (λ (allowed : List AllowedData). record (rules_from rules statements) { allowed = allowed }) (append_assoc rules.allowed (allowance ∷ []) (filter_map allowance_in statements))
allow_step false rules allowance statements = refl

rules_step : (d : DraftData) (stated : StatementData) (statements : List StatementData)
    → rules_from (step_on d stated).rules statements ≡ rules_from d.rules (stated ∷ statements)
rules_step d (OfSide Client value) statements = refl
rules_step d (OfSide Server value) statements = refl
rules_step d (OfClient value) statements = refl
rules_step d (OfServer value) statements = refl
rules_step d (Tries attempt) statements = refl
rules_step d (Holds key) statements = refl
rules_step d (Notes line) statements = refl
rules_step d (Distrusts algorithm) statements =
    ap (λ (names : List (List ℕ)). record (rules_from d.rules statements) { distrusted = names }) (append_assoc d.rules.distrusted (algorithm ∷ []) (filter_map distrusted_in statements))
rules_step d (Allows user proving) statements = allow_step (can_be_proved proving) d.rules (record { user = user; proof = proof_by proving }) statements
rules_step d (Denies number) statements =
    ap (λ (numbers : List ℕ). record (rules_from d.rules statements) { denied = numbers }) (append_assoc d.rules.denied (number ∷ []) (filter_map denied_in statements))
rules_step d (Does step) statements = refl

abbrev made_of : List (List ℕ) → List AllowedData → List ℕ → LabDecisionsData
made_of distrusted allowed denied = record { distrusted = distrusted; allowed = allowed; denied = denied }

rules_on : (statements : List StatementData) (d : DraftData) → (on d statements).rules ≡ rules_from d.rules statements
rules_on [] d =
    ap (λ (xs : List (List ℕ)). made_of xs d.rules.allowed d.rules.denied) (sym (append-nil d.rules.distrusted))
    ∙ (ap (λ (xs : List AllowedData). made_of (d.rules.distrusted ++ []) xs d.rules.denied) (sym (append-nil d.rules.allowed))
    ∙ ap (λ (xs : List ℕ). made_of (d.rules.distrusted ++ []) (d.rules.allowed ++ []) xs) (sym (append-nil d.rules.denied)))
rules_on (stated ∷ statements) d = rules_on statements (step_on d stated) ∙ rules_step d stated statements

pub rules_drafted : (statements : List StatementData) → (drafted statements).rules ≡ rules_of_lines statements
unfolding drafted no_lines rules_of_lines
rules_drafted statements = rules_on statements no_lines

-- what happens
steps_step : (d : DraftData) (stated : StatementData) (statements : List StatementData)
    → (step_on d stated).steps ++ filter_map step_in statements ≡ d.steps ++ filter_map step_in (stated ∷ statements)
steps_step d (OfSide Client value) statements = refl
steps_step d (OfSide Server value) statements = refl
steps_step d (OfClient value) statements = refl
steps_step d (OfServer value) statements = refl
steps_step d (Tries attempt) statements = refl
steps_step d (Holds key) statements = refl
steps_step d (Notes line) statements = refl
steps_step d (Distrusts algorithm) statements = refl
steps_step d (Allows user proving) statements = refl
steps_step d (Denies number) statements = refl
steps_step d (Does step) statements = append_assoc d.steps (step ∷ []) (filter_map step_in statements)

steps_on : (statements : List StatementData) (d : DraftData) → (on d statements).steps ≡ d.steps ++ filter_map step_in statements
steps_on [] d = sym (append-nil d.steps)
steps_on (stated ∷ statements) d = steps_on statements (step_on d stated) ∙ steps_step d stated statements

pub steps_drafted : (statements : List StatementData) → (drafted statements).steps ≡ steps_of_lines statements
unfolding drafted no_lines steps_of_lines
steps_drafted statements = steps_on statements no_lines
