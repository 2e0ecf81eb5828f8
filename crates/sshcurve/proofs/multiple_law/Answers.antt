use Rattle.sshcurve.proofs.RowLemmas.{rows_represent_number}
use Rattle.sshcurve.proofs.SignatureLemmas.{product_represents}
use Rattle.sshcurve.proofs.SameBytesLemmas.{base_multiple_bytes, verification_bytes}
use Rattle.sshcurve.proofs.multiple_law.Goals as goal

pub returns-clause-doubling : goal.returns-clause-doubling
returns-clause-doubling c = product_represents

pub returns-clause-rows : goal.returns-clause-rows
returns-clause-rows c = rows_represent_number

pub returns-clause-base_multiple : goal.returns-clause-base_multiple
returns-clause-base_multiple c = base_multiple_bytes

pub returns-clause-verification : goal.returns-clause-verification
returns-clause-verification c = verification_bytes
