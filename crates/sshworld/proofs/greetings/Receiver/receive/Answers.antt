use Rattle.std.proofs.Common.{◌+◌, ℕ, length, sym, ap, ◌∙◌, refl}
use Rattle.std.proofs.lemmas.List.{length-append}
use Rattle.sshworld.proofs.ReceiverLemmas.{IsLaw, ended_follows, waiting_stands}
use Rattle.sshworld.proofs.greetings.Receiver.receive.Goals as goal

pub returns-in_ok-self-clause-stands : goal.returns-in_ok-self-clause-stands
returns-in_ok-self-clause-stands c = λ k received s.
    let counted = ap (λ (n : ℕ). n + length c.args.piece.now) s.counted ∙ sym (length-append received c.args.piece.now) in
    record {
      counted = counted;
      follows = c.in_ok-self.ensures.follows k received counted
          (waiting_stands k received c.args.self.now.reader.progress c.args.self.now.reception c.in-Waiting.field-0 c.in-Waiting.is s.follows);
    }

pub returns-in_default : goal.returns-in_default
returns-in_default c =
    let law : IsLaw = record { one = c.reading_law.ensures.one; stays = c.reading_law.ensures.stays } in
    record {
      may_read = c.requires.may_read;
      moved = refl;
      stands = λ k received s. record {
        counted = ap (λ (n : ℕ). n + length c.args.piece.now) s.counted ∙ sym (length-append received c.args.piece.now);
        follows = ended_follows law k received c.args.piece.now c.args.self.now.reader.progress c.args.self.now.reception c.in_default.not-Waiting s.follows;
      };
    }
