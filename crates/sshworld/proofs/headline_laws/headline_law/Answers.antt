use Rattle.sshworld.proofs.headline_laws.headline_law.Goals as goal
use Rattle.sshworld.proofs.InCourseLemmas.{all_of_part, begins, client_receives_more, server_receives_more}
use Rattle.sshworld.proofs.HeadlineLemmas.{both_authenticated, both_ended, end_as, more_groups, most_groups, one}

pub returns-clause-ends : goal.returns-clause-ends
returns-clause-ends c = end_as

pub returns-clause-ended : goal.returns-clause-ended
returns-clause-ended c = both_ended

pub returns-clause-one : goal.returns-clause-one
returns-clause-one c = one

pub returns-clause-both : goal.returns-clause-both
returns-clause-both c = both_authenticated

pub returns-clause-groups : goal.returns-clause-groups
returns-clause-groups c = more_groups

pub returns-clause-few : goal.returns-clause-few
returns-clause-few c = most_groups

pub returns-clause-begins : goal.returns-clause-begins
returns-clause-begins c = begins

pub returns-clause-client_receives : goal.returns-clause-client_receives
returns-clause-client_receives c m d client server w of_client of_server new both are = client_receives_more m d client server w both of_client of_server are new

pub returns-clause-server_receives : goal.returns-clause-server_receives
returns-clause-server_receives c m d client server w of_client of_server new both are = server_receives_more m d client server w both of_client of_server are new

pub returns-clause-all : goal.returns-clause-all
returns-clause-all c = all_of_part
