use Rattle.sshcurve.proofs.FieldLemmas.{is_field}
use Rattle.sshcurve.proofs.OrderLemmas.{order_field}
use Rattle.sshcurve.proofs.prime_law.Goals as goal

pub returns-clause-coordinates : goal.returns-clause-coordinates
returns-clause-coordinates c = is_field

pub returns-clause-order : goal.returns-clause-order
returns-clause-order c = order_field
