use Rattle.std.proofs.Common.{◌≤◌, ◌<◌, ◌^◌, List, ℕ, arith, length, subst, sym}
use Rattle.std.specs.Prelude.{string_bytes}
use Rattle.sshwire.specs.TypeReadings.{names_of}
use Rattle.sshwire.proofs.NameLemmas.{names_few, names_taken, table_of}
use Rattle.sshwire.proofs.name_list.NameList.names.Goals as goal

pub returns-clause-each : goal.returns-clause-each
returns-clause-each c = rw (← c.self.view_is) (names_taken _ _ (table_of _ _ c.self.invariant).names).each

pub returns-clause-few : goal.returns-clause-few
returns-clause-few c =
    let table = table_of _ _ c.self.invariant in
    let t = names_taken (string_bytes c.self.inside.text) (names_of (string_bytes c.self.inside.text)) table.names in
    let short : length (string_bytes c.self.inside.text) < 2 ^ 32 = table.short in
    let few : length (names_of (string_bytes c.self.inside.text)) ≤ length (string_bytes c.self.inside.text)
    = subst (λ (xs : List ℕ). length (names_of (string_bytes c.self.inside.text)) ≤ length xs) (sym t.body_is) (names_few _ t.each) in
    rw (← c.self.view_is) (omega arith)
