use Rattle.sshcore.specs.ConfigView.{server_data}
use Rattle.sshcore.proofs.config_server.ServerConfig.kexinit.Goals as goal

pub cookie_of-requires : goal.cookie_of-requires
cookie_of-requires c = rw c.deref.ensures.value ((c.config_law.ensures.server_few (server_data c.self.inside.parts) c.self.invariant.1).0.cookie)

pub returns-clause-formed : goal.returns-clause-formed
returns-clause-formed c = c.config_law.ensures.server_offer c.args.self.now c.kexinit_by.ensures.accepted
