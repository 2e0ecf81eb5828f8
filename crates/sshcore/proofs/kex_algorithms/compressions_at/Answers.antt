use Rattle.sshneg.specs.declared.choice.NoCommon.TheVariants as field
use Rattle.sshcore.proofs.kex_algorithms.compressions_at.Goals as goal

pub name_at-requires : goal.name_at-requires
name_at-requires c = c.requires field.CompressionClientToServer

pub name_at-requires-2 : goal.name_at-requires-2
name_at-requires-2 c = c.requires field.CompressionServerToClient
