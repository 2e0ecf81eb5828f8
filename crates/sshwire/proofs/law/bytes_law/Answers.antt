use Rattle.sshwire.specs.ByteLaws.{bytes_append, bytes_cons, bytes_dropped, bytes_taken, bytes_uint32}
use Rattle.sshwire.proofs.law.bytes_law.Goals as goal

pub returns-clause-take : goal.returns-clause-take
returns-clause-take c = bytes_taken

pub returns-clause-drop : goal.returns-clause-drop
returns-clause-drop c = bytes_dropped

pub returns-clause-append : goal.returns-clause-append
returns-clause-append c = bytes_append

pub returns-clause-cons : goal.returns-clause-cons
returns-clause-cons c = bytes_cons

pub returns-clause-uint32 : goal.returns-clause-uint32
returns-clause-uint32 c = bytes_uint32
