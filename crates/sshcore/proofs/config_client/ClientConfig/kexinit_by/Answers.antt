use Rattle.std.proofs.Common.{◌≡◌, ◌≤◌, arith, length, map, string_bytes}
use Rattle.std.proofs.lemmas.List.{length-map}
use Rattle.sshcore.specs.ConfigView.{client_data}
use Rattle.sshcore.proofs.config_client.ClientConfig.kexinit_by.Goals as goal

pub list_of-requires : goal.list_of-requires
list_of-requires c =
    let names = c.self.inside.parts.server_host_key_algorithms.items in
    let few : length (map string_bytes names) ≤ 1001 = (c.config_law.ensures.client_few (client_data c.self.inside.parts) c.self.invariant.1).1 in
    let same : length (map string_bytes names) ≡ length names = length-map names string_bytes in
    grind arith

pub kexinit_of-requires : goal.kexinit_of-requires
kexinit_of-requires c = (c.config_law.ensures.client_few (client_data c.self.inside.parts) c.self.invariant.1).0
