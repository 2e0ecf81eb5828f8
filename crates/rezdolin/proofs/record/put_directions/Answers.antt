use Rattle.std.proofs.Common.{◌∙◌, ◌++◌, List, ℕ, ap}
use Rattle.sshwire.specs.Types.{string}
use Rattle.rezdolin.specs.Records.{direction_bytes}
use Rattle.rezdolin.proofs.RecordLemmas.{two_puts}
use Rattle.rezdolin.proofs.record.put_directions.Goals as goal

pub returns : goal.returns
returns c =
    let s = c.args.session.now in
    two_puts (direction_bytes s.incoming) (direction_bytes s.outgoing) c.args.out.now.items c.put_field.new.out.items c.put_field-2.new.out.items
    (c.in_ok-put_field.ensures ∙ ap (λ (xs : List ℕ). c.args.out.now.items ++ string xs) (c.deref.ensures.value ∙ c.in_ok-incoming.ensures))
    (c.in_ok-put_field-2.ensures ∙ ap (λ (xs : List ℕ). c.put_field.new.out.items ++ string xs) (c.deref-2.ensures.value ∙ c.in_ok-outgoing.ensures))
