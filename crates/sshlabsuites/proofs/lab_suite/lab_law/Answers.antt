use Rattle.std.proofs.Common.{refl}
use Rattle.sshlabsuites.specs.LabLaws.{lab_agreed, lab_present}
use Rattle.sshlabsuites.proofs.lab_suite.lab_law.Goals as goal

pub returns-clause-agreed : goal.returns-clause-agreed
returns-clause-agreed c = λ kex. lab_agreed

pub returns-clause-present : goal.returns-clause-present
returns-clause-present c = λ kex. lab_present

pub returns-clause-answers : goal.returns-clause-answers
returns-clause-answers c = λ kex a peer. refl
