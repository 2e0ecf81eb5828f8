use Rattle.std.proofs.Common.{◌≡◌, ◌++◌, map, take}
use Rattle.rezdolin.specs.Records.{strings}
use Rattle.rezdolin.proofs.record.put_fields.Given as goal

abbrev pub invariant-loop-field : goal.invariant-loop-field
invariant-loop-field l = l.out.items ≡ l.fn.out.items ++ strings (map (λ field. field.now) (take l.field-index l.fields))
