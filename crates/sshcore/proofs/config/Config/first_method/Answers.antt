use Rattle.std.proofs.Common.{◌<◌, ◌∙◌, length, rules, string_bytes}
use Rattle.sshcore.specs.EndpointConfig.{config_data}
use Rattle.sshneg.specs.Markers.{methods}
use Rattle.sshcore.proofs.EndpointPartsLemmas.{first_is_name, first_of_some}
use Rattle.sshcore.proofs.config.Config.first_method.Goals as goal

pub index-requires : goal.index-requires
index-requires c = let some : 0 < length c.side.result.now.kex_algorithms.items = c.side.ensures.some in search rules

pub returns-clause-method : goal.returns-clause-method
returns-clause-method c = c.as_str.ensures.value ∙ first_of_some string_bytes c.side.result.now.kex_algorithms.items c.index.result.now
    (methods (config_data c.args.self.now).offer.kex_algorithms) c.side.ensures.methods c.side.ensures.some c.index.ensures

pub returns-clause-name : goal.returns-clause-name
returns-clause-name c = rw c.as_str.ensures.value (first_is_name string_bytes c.side.result.now.kex_algorithms.items c.index.result.now
    c.side.ensures.some c.index.ensures c.side.ensures.names)
