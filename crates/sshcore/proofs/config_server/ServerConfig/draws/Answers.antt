use Rattle.sshcore.specs.declared.config_fault.ConfigFault.TheVariants as fault
use Rattle.sshcore.proofs.config_server.ServerConfig.draws.Goals as goal

pub draws_of-requires : goal.draws_of-requires
draws_of-requires c = c.self.invariant.1.keeps fault.Random
