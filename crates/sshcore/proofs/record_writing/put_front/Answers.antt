use Rattle.std.proofs.Common.{◌∙◌, ℕ, subst}
use Rattle.sshcore.specs.RecordText.{Adds, flag_text, number_text, phase_number}
use Rattle.sshcore.proofs.RecordLemmas.{on_ok}
use Rattle.sshcore.proofs.record_writing.put_front.Goals as goal

pub returns-clause-adds : goal.returns-clause-adds
returns-clause-adds c =
    let parts = c.args.parts.now in
    let role = subst (λ (n : ℕ). Adds (number_text n) c.args.out.now.items c.put_number.new.out.items) c.number_of_role.ensures c.in_ok-put_number.ensures in
    let at = subst (λ (n : ℕ). Adds (number_text n) c.put_number-2.new.out.items c.put_number-3.new.out.items) c.number_of_phase.ensures c.in_ok-put_number-3.ensures in
    on_ok c.put_flag-2.result
    (λ guess rest.
    let after = flag_text parts.guess rest in
    let phased = number_text (phase_number parts.phase) after in
    let left = number_text parts.left phased in
    guess rest ∙ (at after ∙ (c.in_ok-put_number-2.ensures phased ∙ (c.in_ok-put_flag.ensures left ∙ role (flag_text parts.confirmed left)))))
    c.put_flag-2.ensures
