use Rattle.std.proofs.Common.{refl, sym, ap, ◌∙◌}
use Rattle.std.proofs.lemmas.Result.{err_from_is_err_and}
use Rattle.sshwire.specs.Types.{NameListText}
use Rattle.sshwire.specs.TypeReadings.{names_at}
use Rattle.sshwire.proofs.TypeLemmas.{rest_bytes, stands_not, list_reading}
use Rattle.sshwire.proofs.reader.Reader.borrowed_name_list.Goals as goal

pub invariant_of-self : goal.invariant_of-self
invariant_of-self c = rest_bytes NameListText names_at list_reading _ _ _ c.self.invariant c.in_ok-value.ensures.exact

pub returns-clause-reads : goal.returns-clause-reads
returns-clause-reads c =
    let s = list_reading.sound c.self.inside.left.now _ _ c.self.invariant c.in_ok-value.ensures.exact in
    (s.0, s.1, sym c.self.view_is ∙ s.2)

pub returns-in_err-value-clause-reads : goal.returns-in_err-value-clause-reads
returns-in_err-value-clause-reads c =
    let p = err_from_is_err_and c.from_residual.result c.from_residual.ensures.1 in
    rw (p.1, p.2) (refl, λ other. stands_not NameListText names_at list_reading c.args.self.now _ (ap names_at (sym c.self.view_is) ∙ c.in_err-value.ensures.exact other))
