use Rattle.std.proofs.Common.{◌≡◌, map, take}
use Rattle.sshcore.specs.ConfigView.{host_key_data}
use Rattle.rezdolin.specs.Inputs.{host_key_by}
use Rattle.rezdolin.proofs.parts.host_keys_of.Given as goal

abbrev pub invariant-loop-key : goal.invariant-loop-key
invariant-loop-key l = map host_key_data l.host_keys.items ≡ map host_key_by (take l.key-index l.keys)
