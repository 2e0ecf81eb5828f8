use Rattle.sshcore.proofs.ConfigOffers.{client_few, client_fits, client_formed, client_unmarked, server_few, server_fits, server_formed, server_unmarked}
use Rattle.sshcore.proofs.RedrawnLemmas.{client_redrawn, server_redrawn}
use Rattle.sshcore.proofs.config_laws.config_law.Goals as goal

pub returns-clause-client_offer : goal.returns-clause-client_offer
returns-clause-client_offer c = client_formed c.names_law.ensures.body c.names_law.ensures.name

pub returns-clause-server_offer : goal.returns-clause-server_offer
returns-clause-server_offer c = server_formed c.names_law.ensures.body c.names_law.ensures.name

pub returns-clause-client_fits : goal.returns-clause-client_fits
returns-clause-client_fits c = client_fits c.names_law.ensures.body c.lengths_law.ensures.written

pub returns-clause-server_fits : goal.returns-clause-server_fits
returns-clause-server_fits c = server_fits c.names_law.ensures.body c.lengths_law.ensures.written

pub returns-clause-client_unmarked : goal.returns-clause-client_unmarked
returns-clause-client_unmarked c = client_unmarked

pub returns-clause-server_unmarked : goal.returns-clause-server_unmarked
returns-clause-server_unmarked c = server_unmarked

pub returns-clause-client_few : goal.returns-clause-client_few
returns-clause-client_few c = client_few c.names_law.ensures.body

pub returns-clause-server_few : goal.returns-clause-server_few
returns-clause-server_few c = server_few c.names_law.ensures.body

pub returns-clause-client_redrawn : goal.returns-clause-client_redrawn
returns-clause-client_redrawn c = client_redrawn

pub returns-clause-server_redrawn : goal.returns-clause-server_redrawn
returns-clause-server_redrawn c = server_redrawn
