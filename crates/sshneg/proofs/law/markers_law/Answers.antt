use Rattle.sshneg.proofs.ChoiceOrder.{added, marker, unmarked}
use Rattle.sshneg.proofs.StrictnessLemmas.{config_methods, config_strict, strict_test}
use Rattle.sshneg.proofs.ChoiceLemmas.{listed_method, method_listed}
use Rattle.sshneg.proofs.law.markers_law.Goals as goal

pub returns-clause-method : goal.returns-clause-method
returns-clause-method c = λ names name. (method_listed names name, λ both. listed_method names name both.0 both.1)

pub returns-clause-strictness : goal.returns-clause-strictness
returns-clause-strictness c = strict_test

pub returns-clause-own_methods : goal.returns-clause-own_methods
returns-clause-own_methods c = config_methods marker added unmarked

pub returns-clause-both_flags : goal.returns-clause-both_flags
returns-clause-both_flags c = config_strict marker
