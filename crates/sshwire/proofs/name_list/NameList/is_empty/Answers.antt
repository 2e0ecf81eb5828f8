use Rattle.std.proofs.Common.{ℕ, List, eqb, length, ap, ◌∙◌}
use Rattle.std.specs.Prelude.{string_bytes}
use Rattle.sshwire.specs.TypeReadings.{names_of}
use Rattle.sshwire.proofs.NameLemmas.{table_of}
use Rattle.sshwire.proofs.EndLemmas.{length-ends_from}
use Rattle.sshwire.proofs.name_list.NameList.is_empty.Goals as goal

pub returns : goal.returns
returns c =
    rw (← c.self.view_is, c.is_empty.ensures)
    (ap (λ (n : ℕ). eqb n 0)
    (c.self.inside.ends.ok.0
    ∙ (ap (λ (xs : List ℕ). length xs) (table_of _ _ c.self.invariant).ends_are ∙ length-ends_from 0 (names_of (string_bytes c.self.inside.text)))))
