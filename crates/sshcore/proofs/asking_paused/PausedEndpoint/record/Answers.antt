use Rattle.std.proofs.Common.{◌∙◌, [], ◌++◌, List, ℕ, ap, arith, subst, sym}
use Rattle.std.proofs.lemmas.Grind.{common_steps}
use Rattle.std.proofs.lemmas.List.{append-nil}
use Rattle.sshcore.specs.EndData.{end_data}
use Rattle.sshcore.specs.Paused.{paused_end}
use Rattle.sshcore.specs.RecordText.{FitsRecord, record_bytes}
use Rattle.sshcore.specs.RecordView.{record_data}
use Rattle.sshcore.proofs.asking_paused.PausedEndpoint.record.Goals as goal

pub returns-clause-is : goal.returns-clause-is
returns-clause-is g c =
    let same = c.in-Some.ensures.same in
    record {
      is_open = sym (ap (λ p. paused_end p) c.self.view_is) ∙ ap end_data c.in-Open.is;
      written = subst FitsRecord same c.in_ok-put_record.ensures.fits;
      texts = c.in-Some.ensures.texts;
      bytes_are = sym (append-nil c.put_record.new.out.items) ∙ (c.in_ok-put_record.ensures.adds [] ∙ (ap (λ (l : List ℕ). l ++ record_bytes (record_data c.in-Some.parts)) c.new-out.ensures.items ∙ ap record_bytes same));
      short = grind (arith, common_steps);
    }
