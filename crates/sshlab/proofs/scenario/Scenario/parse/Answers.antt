use Rattle.std.proofs.Common.{◌≡◌, ◌∙◌}
use Rattle.std.proofs.lemmas.Result.{err_from_is_err_and}
use Rattle.sshcore.specs.ConfigView.{client_data, server_data}
use Rattle.sshlab.specs.TextLines.{lines}
use Rattle.sshwire.proofs.OwnedLemmas.{there, told}
use Rattle.sshlab.proofs.ScenarioCauseLemmas.{either_cause}
use Rattle.sshlab.proofs.scenario.Scenario.parse.Goals as goal

pub returns-in_err-decisions-clause-refused : goal.returns-in_err-decisions-clause-refused
returns-in_err-decisions-clause-refused c =
    let gone = err_from_is_err_and c.from_residual-in_err-decisions.result c.from_residual-in_err-decisions.ensures.1 in
    let parts = c.in_ok-client.ensures in
    rw (gone.1, gone.2)
    (either_cause (lines c.args.text.now) parts.read (client_data c.in_ok-client.field-0.client) (server_data c.in_ok-client.field-0.server) _ parts.client parts.server
    (told c.configs_of-configs.result _ _ c.in_err-decisions.ensures.fault c.configs_of-configs.ensures.refused))

pub returns-clause-client : goal.returns-clause-client
returns-clause-client c =
    there c.configs_of-configs.result (λ configs. configs.0 ≡ client_data c.in_ok-client.field-0.client) _ c.in_ok-decisions.ensures.other c.configs_of-configs.ensures.client
    ∙ c.in_ok-client.ensures.client

pub returns-clause-server : goal.returns-clause-server
returns-clause-server c =
    there c.configs_of-configs.result (λ configs. configs.1 ≡ server_data c.in_ok-client.field-0.server) _ c.in_ok-decisions.ensures.other c.configs_of-configs.ensures.server
    ∙ c.in_ok-client.ensures.server
