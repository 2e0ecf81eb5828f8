use Rattle.sshworld.proofs.ReceiveLemmas.{both_receive}
use Rattle.sshworld.proofs.link_laws.course_receiving_law.Goals as goal

pub returns : goal.returns
returns c = record {
  receive = λ m d client server lawful compatible is_client is_server.
      both_receive m d client server is_client is_server
      (c.keeps_law.ensures.keeps m d client server lawful compatible is_client is_server)
      (c.follows_law.ensures.places m d client server lawful compatible is_client is_server)
      (c.follows_law.ensures.keys m d client server lawful compatible is_client is_server);
}
