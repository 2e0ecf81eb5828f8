-- The keys of one direction, as contracts see them: byte lists, so equal keys are equal lists.

use Rattle.std.specs.Prelude.{ℕ, List}

-- the twin of `Keys`: the names of cipher and MAC, the initialisation vector, the encryption key and the integrity key (RFC 4253 section
-- 7.2)
pub record KeysData : Type 0 where
  pub cipher : List ℕ
  pub mac : List ℕ
  pub iv : List ℕ
  pub enc : List ℕ
  pub mac_key : List ℕ
