use Rattle.sshcore.specs.Redrawn.{redrawn_server}
use Rattle.sshcore.proofs.config_server.ServerConfig.kexinit_with.Goals as goal

pub returns-clause-formed : goal.returns-clause-formed
returns-clause-formed c = c.config_law.ensures.server_offer (redrawn_server c.args.draws.now c.args.self.now)
    (c.config_law.ensures.server_redrawn c.args.draws.now c.args.self.now c.draws_law.ensures c.kexinit_by.ensures.accepted)

pub returns-clause-fits : goal.returns-clause-fits
returns-clause-fits c = c.config_law.ensures.server_fits (redrawn_server c.args.draws.now c.args.self.now)
    (c.config_law.ensures.server_redrawn c.args.draws.now c.args.self.now c.draws_law.ensures c.kexinit_by.ensures.accepted)
