use Rattle.std.proofs.Common.{arith}
use Rattle.sshpacket.proofs.reader.front_means.Goals as goal

pub returns-clause-faithful : goal.returns-clause-faithful
returns-clause-faithful g c =
    c.packet_law.ensures.faithful (g.S.Suite.meaning c.args.suite.now) (g.met.S.Suite.lawful c.args.suite.now) c.args.keys.now c.args.seq (omega arith)

pub returns-clause-bytes : goal.returns-clause-bytes
returns-clause-bytes g c = c.bytes_law.ensures.append c.args.held.now c.args.piece.now (λ i. omega (arith, c.type_inv.held i)) (λ i. omega (arith, c.type_inv.piece i))

pub returns-clause-means : goal.returns-clause-means
returns-clause-means g c = c.packet_law.ensures.found _ _ (returns-clause-faithful g c) (returns-clause-bytes g c)

pub returns-clause-only : goal.returns-clause-only
returns-clause-only g c = c.packet_law.ensures.only _ _ (returns-clause-faithful g c) (returns-clause-bytes g c)
