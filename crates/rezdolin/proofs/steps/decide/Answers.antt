use Rattle.std.proofs.Common.{refl}
use Rattle.sshcore.specs.Asking.{asked_by}
use Rattle.sshcore.specs.QuestionsView.{question_data}
use Rattle.rezdolin.specs.Endpoints.{means}
use Rattle.rezdolin.proofs.StepLemmas.{answer_so, gives_so, is_asked, nothing_so, on_ok, on_ok_both, quiet_so, some_asked}
use Rattle.rezdolin.proofs.steps.decide.Goals as goal

pub returns-clause-carried : goal.returns-clause-carried
returns-clause-carried c =
    let asked = asked_by c.args.endpoint.now in
    let x = c.in-Some.question in
    let there = is_asked c.question.result x asked c.in-Some.is c.question.ensures.asks in
    let is = some_asked c.question.result x asked c.in-Some.is c.question.ensures.asks in
    on_ok_both c.answer.result
    (λ answered owned d same. answer_so means d _ c.args.endpoint.now c.answer.new.self c.args.sent.now.items c.answer.new.out.items
    (gives_so asked (question_data x) d _ c.is_allowed-allowed.result is same c.is_allowed-allowed.ensures) answered owned)
    (c.answer.ensures.answered there) c.answer.ensures.owned

pub returns-clause-decided : goal.returns-clause-decided
returns-clause-decided c =
    let asked = asked_by c.args.endpoint.now in
    let there = is_asked c.question.result c.in-Some.question asked c.in-Some.is c.question.ensures.asks in
    on_ok c.answer.result (λ answered. quiet_so means _ c.args.endpoint.now c.answer.new.self c.args.sent.now.items c.answer.new.out.items answered) (c.answer.ensures.answered there)

pub returns-in-None-clause-carried : goal.returns-in-None-clause-carried
returns-in-None-clause-carried c = λ d same. nothing_so means d c.args.endpoint.now c.args.endpoint.now c.args.sent.now.items c.args.sent.now.items refl refl
