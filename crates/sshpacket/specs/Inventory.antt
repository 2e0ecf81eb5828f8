-- Which methods, ciphers and MACs a suite has, as functions on byte lists.

use Rattle.std.specs.Prelude.{ℕ, Bool, List}

-- the answers of an inventory, one function for each call
pub record InventoryData : Type 0 where
  pub has_cipher : List ℕ → Bool
  pub has_mac : List ℕ → Bool
  pub has_kex : List ℕ → Bool
