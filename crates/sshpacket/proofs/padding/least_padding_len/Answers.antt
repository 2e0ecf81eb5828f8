use Rattle.std.proofs.Common.{rules}
use Rattle.sshpacket.proofs.LeastPadding.{least_from}
use Rattle.sshpacket.proofs.padding.least_padding_len.Goals as goal

pub returns-then-payload_len-missing-clause-least : goal.returns-then-payload_len-missing-clause-least
returns-then-payload_len-missing-clause-least c = least_from c.args.counts c.args.block c.args.payload_len _ (search rules)

pub returns-else-payload_len-missing-clause-least : goal.returns-else-payload_len-missing-clause-least
returns-else-payload_len-missing-clause-least c = least_from c.args.counts c.args.block c.args.payload_len _ (search rules)
