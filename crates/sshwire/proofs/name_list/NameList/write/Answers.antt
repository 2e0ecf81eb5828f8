use Rattle.std.proofs.Common.{refl}
use Rattle.std.specs.Prelude.{string_bytes}
use Rattle.sshwire.specs.TypeReadings.{names_of}
use Rattle.sshwire.proofs.NameLemmas.{names_taken, table_of}
use Rattle.sshwire.proofs.name_list.NameList.write.Goals as goal

pub returns-clause-appends : goal.returns-clause-appends
returns-clause-appends c =
    let t = names_taken (string_bytes c.self.inside.text) (names_of (string_bytes c.self.inside.text)) (table_of _ _ c.self.invariant).names in
    rw (← c.self.view_is, ← t.body_is, ← c.as_bytes.ensures.value) c.put_string.ensures.appends

pub returns-clause-spells : goal.returns-clause-spells
returns-clause-spells c =
    let t = names_taken (string_bytes c.self.inside.text) (names_of (string_bytes c.self.inside.text)) (table_of _ _ c.self.invariant).names in
    rw (← c.self.view_is) (t.each, (rw (← t.body_is) (table_of _ _ c.self.invariant).short, refl))

pub put_string-requires : goal.put_string-requires
put_string-requires c = rw c.as_bytes.ensures.value (table_of _ _ c.self.invariant).short
