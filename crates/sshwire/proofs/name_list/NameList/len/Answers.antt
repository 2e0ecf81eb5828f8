use Rattle.std.proofs.Common.{ℕ, List, length, ap, ◌∙◌}
use Rattle.std.specs.Prelude.{string_bytes}
use Rattle.sshwire.specs.TypeReadings.{names_of}
use Rattle.sshwire.proofs.EndLemmas.{length-ends_from}
use Rattle.sshwire.proofs.NameLemmas.{names_taken, table_of}
use Rattle.sshwire.proofs.name_list.NameList.len.Goals as goal

pub returns-clause-count : goal.returns-clause-count
returns-clause-count c =
    rw (← c.self.view_is, c.len.ensures)
    (c.self.inside.ends.ok.0 ∙ (ap (λ (xs : List ℕ). length xs) (table_of _ _ c.self.invariant).ends_are ∙ length-ends_from 0 (names_of (string_bytes c.self.inside.text))))

pub returns-clause-each : goal.returns-clause-each
returns-clause-each c = rw (← c.self.view_is) (names_taken _ _ (table_of _ _ c.self.invariant).names).each

pub returns-clause-short : goal.returns-clause-short
returns-clause-short c =
    rw (← c.self.view_is, ← (names_taken (string_bytes c.self.inside.text) (names_of (string_bytes c.self.inside.text)) (table_of _ _ c.self.invariant).names).body_is)
    (table_of _ _ c.self.invariant).short
