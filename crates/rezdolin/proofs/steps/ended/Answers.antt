use Rattle.std.proofs.Common.{◌∙◌, ap}
use Rattle.sshcore.specs.declared.end.End.{End}
use Rattle.sshcore.specs.EndData.{end_data}
use Rattle.rezdolin.specs.Answers.{end_numbers}
use Rattle.rezdolin.proofs.StepLemmas.{ended_so, no_question, only_open}
use Rattle.rezdolin.proofs.steps.ended.Goals as goal

pub returns-clause-stands : goal.returns-clause-stands
returns-clause-stands c = λ d h s after brought digest.
    ended_so d c.args.endpoint digest h s _ c.into_session-session.result c.in_ok-told.told.items c.requires.closed (c.end_numbers-end.ensures ∙ ap (λ (e : End). end_numbers (end_data e)) c.end.ensures) brought c.in_ok-told.ensures
    c.into_session-session.ensures.session c.into_session-session.ensures.none after c.new.result.items c.new.ensures.items

pub returns-clause-asks : goal.returns-clause-asks
returns-clause-asks c = λ none. no_question _ _ (c.end_numbers-end.ensures ∙ ap (λ (e : End). end_numbers (end_data e)) c.end.ensures)

pub returns-clause-opens : goal.returns-clause-opens
returns-clause-opens c = λ goes_on. absurd (c.requires.closed (only_open _ _ (c.end_numbers-end.ensures ∙ ap (λ (e : End). end_numbers (end_data e)) c.end.ensures) goes_on))
