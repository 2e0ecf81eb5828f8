use Rattle.std.proofs.Common.{◌≡◌, ◌∙◌, ap}
use Rattle.std.proofs.lemmas.Result.{err_from_is_err_and}
use Rattle.sshlab.specs.ScenarioDrafts.{DraftData, drafted}
use Rattle.sshlab.specs.ScenarioFaults.{IsLineCause}
use Rattle.sshlab.specs.ScenarioParts.{some_or}
use Rattle.sshlab.specs.ScenarioText.{statements_in}
use Rattle.sshlab.specs.TextLines.{lines}
use Rattle.sshwire.proofs.OwnedLemmas.{done_ok, told}
use Rattle.sshlab.proofs.ScenarioPartLemmas.{client_drafted, rules_drafted, server_drafted, steps_drafted}
use Rattle.sshlab.proofs.scenario.parts_of_text.Goals as goal

pub returns-in_err-whole-clause-refused : goal.returns-in_err-whole-clause-refused
returns-in_err-whole-clause-refused c =
    let gone = err_from_is_err_and c.from_residual-in_err-whole.result c.from_residual-in_err-whole.ensures.1 in
    let read = c.read_lines-read in
    rw (gone.1, gone.2) (told read.result (IsLineCause (lines c.args.text.now)) _ c.in_err-whole.ensures.fault read.ensures.refused)

pub returns-clause-read : goal.returns-clause-read
returns-clause-read c = done_ok c.read_lines-read.result tt c.in_ok-whole.ensures.done c.read_lines-read.ensures.read

pub returns-clause-client : goal.returns-clause-client
returns-clause-client c =
    let is : c.in_ok-whole.whole ≡ drafted (statements_in (lines c.args.text.now)) =
    c.in_ok-whole.ensures.value ∙ done_ok c.read_lines-read.result tt c.in_ok-whole.ensures.done c.read_lines-read.ensures.draft in
    c.finish.ensures.client ∙ (ap (λ (d : DraftData). d.client) is ∙ client_drafted (statements_in (lines c.args.text.now)))

pub returns-clause-server : goal.returns-clause-server
returns-clause-server c =
    let is : c.in_ok-whole.whole ≡ drafted (statements_in (lines c.args.text.now)) =
    c.in_ok-whole.ensures.value ∙ done_ok c.read_lines-read.result tt c.in_ok-whole.ensures.done c.read_lines-read.ensures.draft in
    c.finish.ensures.server
    ∙ (ap (λ (d : DraftData). record d.server { host_keys = some_or d.server.host_keys d.host_keys }) is ∙ server_drafted (statements_in (lines c.args.text.now)))

pub returns-clause-decisions : goal.returns-clause-decisions
returns-clause-decisions c =
    let is : c.in_ok-whole.whole ≡ drafted (statements_in (lines c.args.text.now)) =
    c.in_ok-whole.ensures.value ∙ done_ok c.read_lines-read.result tt c.in_ok-whole.ensures.done c.read_lines-read.ensures.draft in
    c.finish.ensures.decisions ∙ (ap (λ (d : DraftData). d.rules) is ∙ rules_drafted (statements_in (lines c.args.text.now)))

pub returns-clause-steps : goal.returns-clause-steps
returns-clause-steps c =
    let is : c.in_ok-whole.whole ≡ drafted (statements_in (lines c.args.text.now)) =
    c.in_ok-whole.ensures.value ∙ done_ok c.read_lines-read.result tt c.in_ok-whole.ensures.done c.read_lines-read.ensures.draft in
    c.finish.ensures.steps ∙ (ap (λ (d : DraftData). d.steps) is ∙ steps_drafted (statements_in (lines c.args.text.now)))
