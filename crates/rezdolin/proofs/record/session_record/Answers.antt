use Rattle.rezdolin.specs.Records.{acceptance_fields, agreed_fields, direction_fields}
use Rattle.rezdolin.proofs.RecordLemmas.{three_parts}
use Rattle.rezdolin.proofs.record.session_record.Goals as goal

pub returns : goal.returns
returns c =
    let s = c.args.session.now in
    three_parts (direction_fields s) (agreed_fields s) (acceptance_fields s)
    c.new-out.result.items c.put_directions.new.out.items c.put_agreed.new.out.items c.put_acceptance.new.out.items
    c.new-out.ensures.items c.in_ok-put_directions.ensures c.in_ok-put_agreed.ensures c.in_ok-put_acceptance.ensures
