use Rattle.std.proofs.Common.{ℕ, List, length, sym, ap, ◌∙◌, arith}
use Rattle.std.specs.Prelude.{string_bytes}
use Rattle.std.proofs.lemmas.Option.{slice_get_past}
use Rattle.sshwire.specs.TypeReadings.{names_of}
use Rattle.sshwire.proofs.NameLemmas.{table_of}
use Rattle.sshwire.proofs.EndLemmas.{length-ends_from}
use Rattle.sshwire.proofs.name_list.NameList.name_at.Goals as goal

pub returns-else-position-len-clause-exact : goal.returns-else-position-len-clause-exact
returns-else-position-len-clause-exact c =
    let count = c.self.inside.ends.ok.0
    ∙ (ap (λ (xs : List ℕ). length xs) (table_of _ _ c.self.invariant).ends_are ∙ length-ends_from 0 (names_of (string_bytes c.self.inside.text))) in
    rw (← c.self.view_is) (sym (slice_get_past (names_of (string_bytes c.self.inside.text)) c.args.position (omega (arith, count, c.if-position-len.false, c.len.ensures))))
