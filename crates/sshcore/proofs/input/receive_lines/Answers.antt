use Rattle.std.proofs.Common.{ℕ, ◌+◌, ◌≤◌, List, ◌++◌, length, Ok, Err, refl, sym, ap, ◌∙◌, subst, take}
use Rattle.sshwire.specs.Feeding.{PreambleAnswerBy, answer_of}
use Rattle.sshwire.specs.Lines.{PreambleBy}
use Rattle.sshcore.specs.StateData.{state_data}
use Rattle.sshcore.proofs.input.receive_lines.Goals as goal

pub returns-in-Ok-More-clause-lines : goal.returns-in-Ok-More-clause-lines
returns-in-Ok-More-clause-lines c = λ k bytes o.
    let answer = subst (λ x. PreambleAnswerBy c.args.reader.now.form k bytes c.args.piece.now (answer_of (Ok x)) c.feed.new.self.state) c.in-Ok-More.field-0-is (c.in-Ok-More.ensures.tells k bytes o) in
    (answer.0, refl, refl)

pub returns-in_ok-state-in-Ok-Done-clause-lines : goal.returns-in_ok-state-in-Ok-Done-clause-lines
returns-in_ok-state-in-Ok-Done-clause-lines c = λ k bytes o.
    let answer = subst (λ x. PreambleAnswerBy c.args.reader.now.form k bytes c.args.piece.now (answer_of (Ok x)) c.feed.new.self.state) c.in-Ok-Done.field-0-is (c.in-Ok-Done.ensures.tells k bytes o) in
    let used_is = c.taken.ensures ∙ answer.3 in (
      c.in-Ok-Done.version,
      subst (λ (n : ℕ). PreambleBy c.args.reader.now.form k c.in-Ok-Done.version (bytes ++ take n c.args.piece.now)) (sym used_is) answer.1,
      subst (λ (n : ℕ). n ≤ length c.args.piece.now) (sym c.taken.ensures) c.feed.ensures.taken,
      ap (λ (v : List ℕ). record (state_data c.args.state.now) { known = record (state_data c.args.state.now).known { version = v } }) (c.in_ok-state-in-Ok-Done.ensures.items ∙ c.text.ensures.text),
    )

pub returns-in_ok-fail_line-in-Err-clause-lines : goal.returns-in_ok-fail_line-in-Err-clause-lines
returns-in_ok-fail_line-in-Err-clause-lines c = λ k bytes o.
    let came = c.in-Err.is ∙ ap Err c.in-Err.fault-is in
    let told = (subst (λ x. PreambleAnswerBy c.args.reader.now.form k bytes c.args.piece.now (answer_of x) c.feed.new.self.state) came (c.feed.ensures.tells k bytes o)).0 c.in_ok-fail_line-in-Err.ensures.refused in (
      told.0,
      c.in-Err.fault,
      told.1 ∙ ap (λ (n : ℕ). length bytes + n) (sym c.taken-in-Err.ensures),
      told.2,
      subst (λ (n : ℕ). n ≤ length c.args.piece.now) (sym c.taken-in-Err.ensures) c.feed.ensures.taken,
      c.in_ok-fail_line-in-Err.ensures.fails,
    )
