use Rattle.std.proofs.Common.{◌≡◌, length, map, string_bytes, take}
use Rattle.sshcore.proofs.config_kexinit.texts_of.Given as goal

abbrev pub invariant-loop-name : goal.invariant-loop-name
invariant-loop-name l =
    (map (λ text. text.now) l.texts.items ≡ map string_bytes (take l.name-index l.names)) × (length l.texts.items ≡ l.name-index)
