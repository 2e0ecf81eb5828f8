-- The names that an iterator has left.

use Rattle.std.specs.Prelude.{ℕ, List, drop}
use Rattle.sshwire.specs.declared.names.Names.{Names}

-- the names that an iterator hasn't returned yet
abbrev pub names_left : Names → List (List ℕ)
names_left names = drop names.given names.list.now
