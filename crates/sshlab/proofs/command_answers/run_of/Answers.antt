use Rattle.std.specs.Prelude.{string_bytes}
use Rattle.sshlab.specs.ScenarioParts.{client_of_lines, rules_of_lines, server_of_lines, steps_of_lines}
use Rattle.sshlab.specs.ScenarioText.{statements_in}
use Rattle.sshlab.specs.TextLines.{lines}
use Rattle.sshlab.proofs.ToldLemmas.{run_of_equal}
use Rattle.sshlab.proofs.command_answers.run_of.Goals as goal

pub returns-in-Ok-clause-told : goal.returns-in-Ok-clause-told
returns-in-Ok-clause-told c =
    let scenario = c.in-Ok.scenario in
    let told = statements_in (lines c.args.text.now) in
    run_of_equal (λ answer. string_bytes answer.text) (λ answer. answer.status) scenario.client (client_of_lines told) scenario.server (server_of_lines told)
    scenario.decisions (rules_of_lines told) scenario.steps.items (steps_of_lines told) c.args.session c.steps_told-told.result
    c.in-Ok.ensures.client c.in-Ok.ensures.server c.in-Ok.ensures.decisions c.in-Ok.ensures.steps c.steps_told-told.ensures.told
