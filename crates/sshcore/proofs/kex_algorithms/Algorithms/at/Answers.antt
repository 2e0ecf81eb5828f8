use Rattle.sshneg.specs.declared.choice.NoCommon.TheVariants as field
use Rattle.sshcore.proofs.AlgorithmsLemmas.{one_at, same_algorithms}
use Rattle.sshcore.proofs.kex_algorithms.Algorithms.at.Goals as goal

pub name_at-requires : goal.name_at-requires
name_at-requires c = c.requires field.Kex

pub name_at-requires-2 : goal.name_at-requires-2
name_at-requires-2 c = c.requires field.HostKey

pub returns : goal.returns
returns c = λ a at. same_algorithms
    (one_at _ c.in_ok-kex.ensures.stands (at field.Kex))
    (one_at _ c.in_ok-host_key.ensures.stands (at field.HostKey))
    (one_at _ c.in_ok-encryption.ensures.to_server (at field.EncryptionClientToServer))
    (one_at _ c.in_ok-encryption.ensures.to_client (at field.EncryptionServerToClient))
    (one_at _ c.in_ok-mac.ensures.to_server (at field.MacClientToServer))
    (one_at _ c.in_ok-mac.ensures.to_client (at field.MacServerToClient))
    (one_at _ c.in_ok-compression.ensures.to_server (at field.CompressionClientToServer))
    (one_at _ c.in_ok-compression.ensures.to_client (at field.CompressionServerToClient))
