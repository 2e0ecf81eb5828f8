use Rattle.std.specs.Prelude.{string_bytes}
use Rattle.sshlab.proofs.ToldLemmas.{run_told}
use Rattle.sshlab.proofs.command_answers.steps_told.Goals as goal

pub returns-in-Ok-clause-told : goal.returns-in-Ok-clause-told
returns-in-Ok-clause-told c =
    let scenario = c.args.scenario.now in
    run_told (λ answer. string_bytes answer.text) (λ answer. answer.status) scenario.client scenario.server scenario.decisions scenario.steps.items c.args.session
    c.in-Ok.world c.world_told-told.result c.in-Ok.ensures.steps c.in-Ok.ensures.predicted c.in-Ok.ensures.settled c.world_told-told.ensures.text c.world_told-told.ensures.complete
