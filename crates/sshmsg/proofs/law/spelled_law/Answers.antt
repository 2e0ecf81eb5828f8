use Rattle.sshmsg.proofs.ShareLemmas.{spelled_within}
use Rattle.sshmsg.proofs.WellLemmas.{spelled_well}
use Rattle.sshmsg.proofs.law.spelled_law.Goals as goal

pub returns-clause-well_formed : goal.returns-clause-well_formed
returns-clause-well_formed c = spelled_well

pub returns-clause-of_form : goal.returns-clause-of_form
returns-clause-of_form c = spelled_within

pub returns-clause-round_trip : goal.returns-clause-round_trip
returns-clause-round_trip c = λ form payload m s. c.written_law.ensures.again form m (spelled_within form payload m s) (spelled_well form payload m s)
