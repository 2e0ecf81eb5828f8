use Rattle.std.proofs.Common.{◌≡◌, ◌≤◌, arith, length, map}
use Rattle.std.proofs.lemmas.List.{length-map}
use Rattle.sshcore.specs.ConfigView.{host_key_data, server_data}
use Rattle.sshcore.proofs.config_server.ServerConfig.kexinit_by.Goals as goal

pub list_of_host_keys-requires : goal.list_of_host_keys-requires
list_of_host_keys-requires c =
    let keys = c.self.inside.parts.host_keys.items in
    let few : length (map host_key_data keys) ≤ 1001 = (c.config_law.ensures.server_few (server_data c.self.inside.parts) c.self.invariant.1).1 in
    let same : length (map host_key_data keys) ≡ length keys = length-map keys host_key_data in
    grind arith

pub kexinit_of-requires : goal.kexinit_of-requires
kexinit_of-requires c = (c.config_law.ensures.server_few (server_data c.self.inside.parts) c.self.invariant.1).0
