use Rattle.sshneg.specs.declared.choice.NoCommon.TheVariants as field
use Rattle.sshcore.proofs.AlgorithmsLemmas.{one_at, same_algorithms}
use Rattle.sshworld.proofs.algorithms.algorithms_at.Goals as goal

pub name_at-requires : goal.name_at-requires
name_at-requires c = c.requires field.Kex

pub name_at-requires-2 : goal.name_at-requires-2
name_at-requires-2 c = c.requires field.HostKey

pub name_at-requires-3 : goal.name_at-requires-3
name_at-requires-3 c = c.requires field.EncryptionClientToServer

pub name_at-requires-4 : goal.name_at-requires-4
name_at-requires-4 c = c.requires field.EncryptionServerToClient

pub name_at-requires-5 : goal.name_at-requires-5
name_at-requires-5 c = c.requires field.MacClientToServer

pub name_at-requires-6 : goal.name_at-requires-6
name_at-requires-6 c = c.requires field.MacServerToClient

pub name_at-requires-7 : goal.name_at-requires-7
name_at-requires-7 c = c.requires field.CompressionClientToServer

pub name_at-requires-8 : goal.name_at-requires-8
name_at-requires-8 c = c.requires field.CompressionServerToClient

pub returns-clause-at : goal.returns-clause-at
returns-clause-at c = λ a at. same_algorithms
    (one_at _ c.name_at.ensures.stands (at field.Kex))
    (one_at _ c.name_at-2.ensures.stands (at field.HostKey))
    (one_at _ c.name_at-3.ensures.stands (at field.EncryptionClientToServer))
    (one_at _ c.name_at-4.ensures.stands (at field.EncryptionServerToClient))
    (one_at _ c.name_at-5.ensures.stands (at field.MacClientToServer))
    (one_at _ c.name_at-6.ensures.stands (at field.MacServerToClient))
    (one_at _ c.name_at-7.ensures.stands (at field.CompressionClientToServer))
    (one_at _ c.name_at-8.ensures.stands (at field.CompressionServerToClient))
