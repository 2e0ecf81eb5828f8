use Rattle.sshwire.specs.TypeReadings.{NameTable}
use Rattle.sshwire.proofs.NameLemmas.{to_table}
use Rattle.sshwire.proofs.name_list.NameList.of_body.Goals as goal

pub invariant_of-result : goal.invariant_of-result
invariant_of-result c =
    let t : NameTable c.args.body.now c.in_ok-ends_of.field-0.items = record { names = c.requires.names; short = c.requires.short; ends_are = c.in_ok-ends_of.ensures } in
    to_table _ _ (rw c.in_ok-text_of.ensures t)
