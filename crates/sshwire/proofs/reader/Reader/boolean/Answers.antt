use Rattle.std.proofs.Common.{sym, ◌∙◌}
use Rattle.sshwire.specs.Types.{BooleanText}
use Rattle.sshwire.specs.TypeReadings.{boolean_at}
use Rattle.sshwire.proofs.TypeLemmas.{boolean_reading, rest_bytes}
use Rattle.sshwire.proofs.reader.Reader.boolean.Goals as goal

pub invariant_of-self : goal.invariant_of-self
invariant_of-self c = rest_bytes BooleanText boolean_at boolean_reading _ _ _ c.self.invariant c.in_ok-value.ensures.exact

pub returns-clause-reads : goal.returns-clause-reads
returns-clause-reads c =
    let s = boolean_reading.sound c.self.inside.left.now _ _ c.self.invariant c.in_ok-value.ensures.exact in
    (s.0, s.1, sym c.self.view_is ∙ s.2)
