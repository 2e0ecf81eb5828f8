use Rattle.std.proofs.Common.{◌≤◌, length, ap, ◌∙◌, map, rules}
use Rattle.std.proofs.lemmas.List.{take_rest}
use Rattle.sshcore.specs.ConfigView.{attempt_data}
use Rattle.sshcore.proofs.AttemptLemmas.{mapped_after, mapped_past}
use Rattle.sshcore.proofs.auth_client_attempts.attempts_after.Goals as goal

pub returns-then-skipped-attempts : goal.returns-then-skipped-attempts
returns-then-skipped-attempts c = ap (map attempt_data) (take_rest c.args.attempts.now c.args.skipped) ∙ mapped_after c.args.attempts.now c.args.skipped

pub returns-else-skipped-attempts : goal.returns-else-skipped-attempts
returns-else-skipped-attempts c =
    let far : length c.args.attempts.now ≤ c.args.skipped = search rules in
    mapped_past c.args.attempts.now c.args.skipped far
