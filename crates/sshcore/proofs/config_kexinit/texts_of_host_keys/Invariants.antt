use Rattle.std.proofs.Common.{◌≡◌, length, map, string_bytes, take}
use Rattle.sshcore.proofs.config_kexinit.texts_of_host_keys.Given as goal

abbrev pub invariant-loop-key : goal.invariant-loop-key
invariant-loop-key l =
    (map (λ text. text.now) l.texts.items ≡ map (λ key. string_bytes key.algorithm) (take l.key-index l.keys)) × (length l.texts.items ≡ l.key-index)
