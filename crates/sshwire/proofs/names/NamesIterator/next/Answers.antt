use Rattle.std.proofs.Common.{sym}
use Rattle.sshwire.proofs.EndLemmas.{left_at}
use Rattle.sshwire.proofs.names.NamesIterator.next.Goals as goal

pub returns-clause-steps : goal.returns-clause-steps
returns-clause-steps c = left_at c.args.self.now.list.now c.args.self.now.given _ (sym c.in_ok-name.ensures.exact)
