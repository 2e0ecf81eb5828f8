use Rattle.std.proofs.Common.{drop}
use Rattle.sshneg.specs.declared.side.Side.TheVariants.{Client, Server}
use Rattle.sshworld.specs.Greetings.{asked}
use Rattle.sshworld.proofs.ReceiverLemmas.{Delivered}
use Rattle.sshworld.proofs.greetings.greet.Given as goal
use Rattle.sshwire.specs.declared.limits.TheConstants.{OTHER_LINE_LIMIT}

abbrev pub invariant-loop-delivery : goal.invariant-loop-delivery
invariant-loop-delivery l = record {
  to_client : Delivered OTHER_LINE_LIMIT (asked Client l.schedule) (asked Client (drop l.delivery-index l.schedule)) l.server l.at_client;
  to_server : Delivered 0 (asked Server l.schedule) (asked Server (drop l.delivery-index l.schedule)) l.client l.at_server;
}
