-- What the lines of a scenario give, one by one and together.

use Rattle.std.proofs.Common.{◌≡◌, ◌∙◌, ℕ, List, [], ◌∷◌, ◌++◌, refl, sym, ap}
use Rattle.std.specs.Prelude.{Option, None, Some, fold}
use Rattle.std.specs.List.{cons_option, filter_map}
use Rattle.std.proofs.lemmas.List.{append-nil, append_assoc}
use Rattle.std.proofs.lemmas.List.Sums.{fold-append}
use Rattle.sshcore.specs.ConfigParts.{ClientData, HostKeyData, ServerData}
use Rattle.sshneg.specs.declared.side.Side.{Side}
use Rattle.sshneg.specs.declared.side.Side.TheVariants.{Client, Server}
use Rattle.sshlab.specs.declared.scenario_line.Step.{Step}
use Rattle.sshlab.specs.declared.scenario_settings.Setting.{Setting}
use Rattle.sshlabsuites.specs.LabConfigs.{lab_client, lab_server}
use Rattle.sshlabsuites.specs.LabDecisionsData.{LabDecisionsData}
use Rattle.sshlab.specs.ScenarioDrafts.{DraftData, after_line, after_statement, drafted, no_lines}
use Rattle.sshlab.specs.ScenarioSettings.{setting_in}
use Rattle.sshlab.specs.ScenarioText.{settings, statement_in, statements_in}
use Rattle.sshlab.specs.Scenarios.{Allows, Denies, Distrusts, Does, Holds, Notes, OfClient, OfServer, OfSide, StatementData, Tries}
use Rattle.sshlab.proofs.ScenarioLineLemmas.{statements_more}

abbrev pub step_on : DraftData → StatementData → DraftData
step_on d stated = after_statement d (Some stated)

abbrev pub on : DraftData → List StatementData → DraftData
on d statements = fold step_on d statements

one_more : (d : DraftData) (o : Option StatementData) → on d (cons_option o []) ≡ after_statement d o
one_more d None = refl
one_more d (Some stated) = refl

-- what a line more gives
pub drafted_more : (ls : List (List ℕ)) (line : List ℕ) → drafted (statements_in (ls ++ line ∷ [])) ≡ after_line (drafted (statements_in ls)) line
unfolding drafted after_line
drafted_more ls line =
    ap (on no_lines) (statements_more ls line)
    ∙ (fold-append step_on no_lines (statements_in ls) (cons_option (statement_in line) [])
    ∙ one_more (on no_lines (statements_in ls)) (statement_in line))

-- settings are noted in their order
note_one : (d : DraftData) (stated : StatementData) → (step_on d stated).settings ≡ d.settings ++ cons_option (setting_in stated) []
note_one d (OfSide Client value) = refl
note_one d (OfSide Server value) = refl
note_one d (OfClient value) = refl
note_one d (OfServer value) = refl
note_one d (Tries attempt) = sym (append-nil d.settings)
note_one d (Holds key) = sym (append-nil d.settings)
note_one d (Notes line) = sym (append-nil d.settings)
note_one d (Distrusts algorithm) = sym (append-nil d.settings)
note_one d (Allows user proving) = sym (append-nil d.settings)
note_one d (Denies number) = sym (append-nil d.settings)
note_one d (Does step) = sym (append-nil d.settings)

front_of : (o : Option (Side × Setting)) (xs : List (Side × Setting)) → cons_option o [] ++ xs ≡ cons_option o xs
front_of None xs = refl
front_of (Some setting) xs = refl

noted : (statements : List StatementData) (d : DraftData) → (on d statements).settings ≡ d.settings ++ filter_map setting_in statements
noted [] d = sym (append-nil d.settings)
noted (stated ∷ statements) d =
    noted statements (step_on d stated)
    ∙ (ap (λ (xs : List (Side × Setting)). xs ++ filter_map setting_in statements) (note_one d stated)
    ∙ (append_assoc d.settings (cons_option (setting_in stated) []) (filter_map setting_in statements)
    ∙ ap (λ (xs : List (Side × Setting)). d.settings ++ xs) (front_of (setting_in stated) (filter_map setting_in statements))))

pub drafted_settings : (ls : List (List ℕ)) → (drafted (statements_in ls)).settings ≡ settings ls
unfolding drafted no_lines
drafted_settings ls = noted (statements_in ls) no_lines

-- a draft of no lines
pub none_read : (client : ClientData) (server : ServerData) (keys : List HostKeyData) (rules : LabDecisionsData) (steps : List Step) (made : List (Side × Setting))
    → client ≡ lab_client → server ≡ lab_server → keys ≡ [] → rules ≡ record { distrusted = []; allowed = []; denied = [] } → steps ≡ [] → made ≡ []
    → record { client = client; server = server; host_keys = keys; rules = rules; steps = steps; settings = made } ≡ no_lines
unfolding no_lines
none_read client server keys rules steps made e1 e2 e3 e4 e5 e6 = cc
