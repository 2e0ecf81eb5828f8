use Rattle.sshpacket.specs.Suite.{IsLawful, SuiteData}
use Rattle.sshworld.proofs.AcceptedLemmas.{Below, accepted_follow, accepted_placed, accepted_same_keys, compatible_by}
use Rattle.sshworld.proofs.following.follows_law.Goals as goal
use Rattle.sshworld.proofs.following.follows_law.Goals.{After-config_law}

below_by : After-config_law → (m : SuiteData) → IsLawful m → Below m
below_by c m law = record {
  again = c.written_law.ensures.again;
  share = c.shares_law.ensures.share m law;
  response = c.shares_law.ensures.response m law;
  client_written = c.config_law.ensures.client_offer;
  server_written = c.config_law.ensures.server_offer;
  client_unmarked = c.config_law.ensures.client_unmarked;
  server_unmarked = c.config_law.ensures.server_unmarked;
}

pub returns-clause-follows : goal.returns-clause-follows
returns-clause-follows c = λ m d client server law. accepted_follow m law (below_by c m law) d client server

pub returns-clause-places : goal.returns-clause-places
returns-clause-places c = λ m d client server law. accepted_placed m law (below_by c m law) d client server

pub returns-clause-keys : goal.returns-clause-keys
returns-clause-keys c = λ m d client server law. accepted_same_keys m law (below_by c m law) d client server

pub returns-clause-compatible : goal.returns-clause-compatible
returns-clause-compatible c = compatible_by
