use Rattle.std.proofs.Common.{◌∙◌}
use Rattle.sshworld.proofs.SessionLemmas.{if_ok}
use Rattle.sshworld.proofs.world.World.new.Goals as goal

pub returns-clause-client_config : goal.returns-clause-client_config
returns-clause-client_config g c = if_ok c.new_with.result (λ w e. e ∙ c.draws.ensures.same) c.new_with.ensures.client_config

pub returns-clause-server_config : goal.returns-clause-server_config
returns-clause-server_config g c = if_ok c.new_with.result (λ w e. e ∙ c.draws-2.ensures.same) c.new_with.ensures.server_config
