use Rattle.std.proofs.Common.{List, ap, refl, ◌∙◌, ℕ}
use Rattle.sshcore.proofs.RecordLemmas.{fits_there}
use Rattle.rezdolin.specs.Frames.{framed}
use Rattle.rezdolin.proofs.StepLemmas.{holds_so}
use Rattle.rezdolin.proofs.steps.hold.Goals as goal

pub returns : goal.returns
returns c =
    let written = c.in_ok-record.ensures ∙ ap (λ (l : List ℕ). framed c.in-Some.found.digest.now l) c.deref.ensures.value in record {
      all = refl;
      none_sent = c.new.ensures.items;
      end_is = c.numbers.ensures;
      none_told = c.new-2.ensures.items;
      frame = (c.in-Some.found.digest.now, (c.in-Some.ensures.frame.1, (c.in-Some.found.text.now, c.in-Some.ensures.frame.0)), (c.in-Some.ensures.frame.1, (c.in-Some-text.text.items, written)));
      stands = holds_so c.args.record.now c.args.piece.now c.in-Some.found.digest.now c.in-Some.found.text.now c.in-Some-text.text.items c.in_ok-record.record.items
          c.in-Some.ensures.frame.0 c.in-Some.ensures.frame.1 written (fits_there _ c.in_ok-text.text c.in-Some-text.text c.in_ok-text.ensures.holds c.in-Some-text.is);
    }
