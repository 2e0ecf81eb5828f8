use Rattle.std.proofs.Common.{◌∙◌, [], List, ℕ, ap, length, not, subst, take}
use Rattle.sshcore.specs.Asking.{AskingFed, asked_by}
use Rattle.rezdolin.specs.Endpoints.{means}
use Rattle.rezdolin.proofs.StepLemmas.{asked_there, asks_used, carry_on, if_ok, more_used, read_so, rest_all, rest_low, trusts_some, turn_so, whole_so, within_so}
use Rattle.rezdolin.proofs.steps.carry.Goals as goal

pub returns-in_default-clause-carried : goal.returns-in_default-clause-carried
returns-in_default-clause-carried c =
    if_ok _ _ c.read_on.result c.read_on.ensures.read
    (λ used read d trusts. read_so means d c.args.endpoint.now c.read_on.new.endpoint (take used c.args.piece.now) c.args.sent.now.items c.read_on.new.sent.items read.fed read.owned)

pub loop-init : goal.loop-init
loop-init c = (
  c.in_ok-used.ensures.within,
  (λ d same. carry_on means d c.args.endpoint.now c.decide.new.endpoint c.read_on-2.new.endpoint [] (take c.in_ok-used.used c.args.piece.now)
      c.args.sent.now.items c.decide.new.sent.items c.read_on-2.new.sent.items (c.in_ok-decide.ensures.carried d same)
      (read_so means d c.decide.new.endpoint c.read_on-2.new.endpoint (take c.in_ok-used.used c.args.piece.now) c.decide.new.sent.items c.read_on-2.new.sent.items
      c.in_ok-used.ensures.read.fed c.in_ok-used.ensures.read.owned)),
  asks_used c.in_ok-used.used (asked_by c.decide.new.endpoint) (asked_by c.read_on-2.new.endpoint) c.in_ok-decide.ensures.decided c.in_ok-used.ensures.read.nothing,
  c.in_ok-used.ensures.read.whole,
)

pub returns-then-is_none-clause-carried : goal.returns-then-is_none-clause-carried
returns-then-is_none-clause-carried c = λ d trusts. c.loop.invariant.1 d (trusts_some c.args.trust.now c.in-Some.trust d c.in-Some.is trusts)

pub returns-then-is_none-clause-within : goal.returns-then-is_none-clause-within
returns-then-is_none-clause-within c = c.loop.invariant.0

pub loop-preserved : goal.loop-preserved
loop-preserved c =
    let low = c.loop.invariant.2 (asked_there c.question.result (asked_by c.loop.endpoint) c.question.ensures.asks (c.is_none.ensures ∙ ap not c.if-is_none.false)) in (
      within_so c.loop.used c.in_ok-used-2.field-0 c.args.piece.now c.loop.invariant.0 (rest_low c.loop.used c.in_ok-used-2.field-0 c.args.piece.now c.in_ok-used-2.ensures.within),
      (λ d same. turn_so means d c.args.endpoint.now c.loop.endpoint c.decide-in-loop.new.endpoint c.read_on-in-loop.new.endpoint c.loop.used c.in_ok-used-2.field-0 c.args.piece.now
          c.args.sent.now.items c.loop.sent.items c.decide-in-loop.new.sent.items c.read_on-in-loop.new.sent.items (c.loop.invariant.1 d same) (c.in_ok-decide-2.ensures.carried d same)
          (subst (λ (l : List ℕ). AskingFed means c.decide-in-loop.new.endpoint c.read_on-in-loop.new.endpoint (take c.in_ok-used-2.field-0 l) c.decide-in-loop.new.sent.items c.read_on-in-loop.new.sent.items)
          (rest_all c.loop.used c.args.piece.now) c.in_ok-used-2.ensures.read.fed) c.in_ok-used-2.ensures.read.owned),
      (λ some. more_used c.loop.counter c.loop.used c.in_ok-used-2.field-0 low
          (asks_used c.in_ok-used-2.field-0 (asked_by c.decide-in-loop.new.endpoint) (asked_by c.read_on-in-loop.new.endpoint) c.in_ok-decide-2.ensures.decided c.in_ok-used-2.ensures.read.nothing some)),
      λ goes_on none. whole_so c.loop.used c.in_ok-used-2.field-0 c.args.piece.now c.loop.invariant.0
          (c.in_ok-used-2.ensures.read.whole goes_on none ∙ ap (λ (l : List ℕ). length l) (rest_all c.loop.used c.args.piece.now)),
    )
