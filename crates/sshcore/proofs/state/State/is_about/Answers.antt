use Rattle.std.proofs.Common.{◌≡◌, false, true, rules}
use Rattle.std.proofs.lemmas.Result.{IfOk-weaker}
use Rattle.sshcore.specs.ConfigView.{attempt_data}
use Rattle.sshcore.proofs.AttemptLemmas.{asked_so, first_none, first_some, none_asked, other_asked}
use Rattle.sshcore.proofs.state.State.is_about.Goals as goal

pub returns-in-None : goal.returns-in-None
returns-in-None g c =
    none_asked (g.S.Suite.meaning c.args.suite.now) c.args.algorithm.now c.args.key.now c.args.self.now.confirmed _
    (first_none c.args.self.now.left.now c.first.result c.first.ensures.value c.in-None.is)

pub returns-then-self : goal.returns-then-self
returns-then-self g c =
    let m = g.S.Suite.meaning c.args.suite.now in
    let a = attempt_data c.in-Some.attempt.now in
    let on : c.args.self.now.confirmed ≡ true = search rules in
    other_asked m c.args.algorithm.now c.args.key.now c.args.self.now.confirmed _ a _
    (first_some c.args.self.now.left.now c.first.result c.in-Some.attempt c.first.ensures.value c.in-Some.is) on

pub returns-else-self : goal.returns-else-self
returns-else-self g c =
    let m = g.S.Suite.meaning c.args.suite.now in
    let a = attempt_data c.in-Some.attempt.now in
    let none : c.args.self.now.confirmed ≡ false = search rules in
    IfOk-weaker c.is_asked.result _ _ (λ asked is. asked_so m c.args.algorithm.now c.args.key.now c.args.self.now.confirmed _ a _
    (first_some c.args.self.now.left.now c.first.result c.in-Some.attempt c.first.ensures.value c.in-Some.is) none asked is) c.is_asked.ensures
