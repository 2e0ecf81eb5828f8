use Rattle.sshmlkem.proofs.NttLoopLemmas.{forward_loops_are, inverse_loops_are}
use Rattle.sshmlkem.proofs.RingLemmas.{inverse_of_product}
use Rattle.sshmlkem.proofs.TransformLemmas.{inverse_combines, inverse_of_transform, ntt_combines, transform_of_inverse}
use Rattle.sshmlkem.proofs.laws.transform_law.Goals as goal

pub returns-clause-back : goal.returns-clause-back
returns-clause-back c = transform_of_inverse

pub returns-clause-undone : goal.returns-clause-undone
returns-clause-undone c = inverse_of_transform

pub returns-clause-product : goal.returns-clause-product
returns-clause-product c = inverse_of_product

pub returns-clause-forward : goal.returns-clause-forward
returns-clause-forward c = ntt_combines

pub returns-clause-inverse : goal.returns-clause-inverse
returns-clause-inverse c = inverse_combines

pub returns-clause-forward_loops : goal.returns-clause-forward_loops
returns-clause-forward_loops c = forward_loops_are

pub returns-clause-inverse_loops : goal.returns-clause-inverse_loops
returns-clause-inverse_loops c = inverse_loops_are
