-- What `Keys` keeps of its names.

use Rattle.std.specs.Prelude.{ℕ, List}
use Rattle.sshwire.specs.Types.{IsName}

-- what `Keys` always keep: cipher and MAC are names (RFC 4251 section 6)
pub record HasNames (cipher mac : List ℕ) : Type 0 where
  pub cipher_name : IsName cipher
  pub mac_name : IsName mac
