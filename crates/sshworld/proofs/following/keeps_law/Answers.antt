use Rattle.sshworld.specs.Wordings.{wording_of}
use Rattle.sshworld.proofs.following.keeps_law.Goals as goal

pub returns : goal.returns
returns c = record {
  keeps = λ m d client server law compatible accepted_client accepted_server.
      c.course_law.ensures.keeps m d client server (wording_of m d client server) (c.follows_law.ensures.follows m d client server law compatible accepted_client accepted_server);
}
