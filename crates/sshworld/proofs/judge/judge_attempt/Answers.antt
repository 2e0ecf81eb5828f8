use Rattle.std.proofs.Common.{rules, ◌≡◌, ◌∙◌, ◌+◌, ◌∷◌, ◌++◌, [], ℕ, length, None, true, refl, sym, ap}
use Rattle.sshpacket.specs.Suite.{SuiteData}
use Rattle.sshcore.specs.ConfigParts.{AttemptData, ServerData}
use Rattle.sshcore.specs.ConfigView.{attempt_data}
use Rattle.sshcore.specs.EndpointParts.{DecisionsData}
use Rattle.sshcore.specs.Plan.{after_query, asks}
use Rattle.sshworld.specs.JudgedView.{IsSoFar}
use Rattle.sshworld.specs.Judging.{is_proved}
use Rattle.sshworld.specs.Offered.{is_confirmed}
use Rattle.sshworld.proofs.ProgressLemmas.{after_two, successful_itself, successful_query, twice_itself}
use Rattle.sshworld.proofs.judge.judge_attempt.Goals as goal

pub returns-clause-after : goal.returns-clause-after
returns-clause-after g c = λ made so_far none.
    let m : SuiteData = g.S.Suite.meaning c.args.suite.now in
    let d : DecisionsData = g.D.Decisions.policy c.args.decisions.now in
    let s : ServerData = c.args.server.now in
    let x : AttemptData = attempt_data c.args.attempt.now in
    let asks_is : asks x.proving ≡ true = search rules in
    let no_end : c.judge_request-judged.result ≡ None = search rules in
    let proved_is : is_proved m d s (length made + 1) x ≡ true =
    ap (λ (n : ℕ). is_proved m d s (n + 1) x) (sym so_far.counted) ∙ (sym c.in_ok-proved.ensures ∙ c.if-not-proved.false) in
    let confirmed : is_confirmed m d s made x ≡ true = rw (asks_is, proved_is) refl in
    let first : IsSoFar m d s (made ++ x ∷ []) c.judge_request-judged.new.self =
    c.judge_request-judged.ensures.after m d made x so_far refl (successful_query m d s made x asks_is) no_end in
    after_two m d s made x c.judge_request-2.new.self confirmed
    (c.judge_request-2.ensures.after m d (made ++ x ∷ []) (after_query x) first (twice_itself x)
    (successful_itself m d s made x c.judge_request-judged.new.self.requests c.in_ok-proved-2.proved first.counted c.in_ok-proved-2.ensures) none)
