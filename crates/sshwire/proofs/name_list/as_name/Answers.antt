use Rattle.std.proofs.Common.{sym, ◌∙◌}
use Rattle.std.proofs.lemmas.Bool.{both_ways}
use Rattle.sshwire.specs.TypeReadings.{is_name}
use Rattle.sshwire.proofs.NameLemmas.{name_from_test, name_tested, name_utf8}
use Rattle.sshwire.proofs.name_list.as_name.Goals as goal

pub returns-then-not-is_name-clause-complete : goal.returns-then-not-is_name-clause-complete
returns-then-not-is_name-clause-complete c =
    λ none name. both_ways (is_name c.args.bytes.now) (sym c.is_name.ensures ∙ c.if-not-is_name.true) (name_tested c.args.bytes.now name)

pub returns-in-Ok-clause-sound : goal.returns-in-Ok-clause-sound
returns-in-Ok-clause-sound c = (c.in-Ok.ensures.cases.0, name_from_test c.args.bytes.now (sym c.is_name.ensures ∙ c.if-not-is_name.false))

pub returns-in-Err-clause-complete : goal.returns-in-Err-clause-complete
returns-in-Err-clause-complete c =
    absurd (c.in-Err.ensures.cases.0 (name_utf8 c.args.bytes.now (sym c.is_name.ensures ∙ c.if-not-is_name.false)))
