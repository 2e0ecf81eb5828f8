-- What the suite has.

use Rattle.std.specs.Prelude.{ℕ, Bool, List, [], ◌∷◌, codes}
use Rattle.std.specs.List.{list_any}
use Rattle.std.specs.Str.{bytes_eq}
use Rattle.sshpacket.specs.Inventory.{InventoryData}

-- the ciphers of the suite
abbrev pub deployed_ciphers : List (List ℕ)
deployed_ciphers =
    codes "chacha20-poly1305@openssh.com" ∷ codes "aes256-gcm@openssh.com" ∷ codes "aes128-gcm@openssh.com" ∷ codes "aes256-ctr" ∷ codes "aes128-ctr" ∷ []

-- the MACs of the suite, of which the last two ciphers use one
abbrev pub deployed_macs : List (List ℕ)
deployed_macs =
    codes "hmac-sha2-256-etm@openssh.com" ∷ codes "hmac-sha2-512-etm@openssh.com" ∷ codes "hmac-sha2-256" ∷ codes "hmac-sha2-512" ∷ []

-- the key exchange methods of the suite
abbrev pub deployed_methods : List (List ℕ)
deployed_methods =
    codes "mlkem768x25519-sha256" ∷ codes "curve25519-sha256" ∷ codes "curve25519-sha256@libssh.org" ∷ codes "diffie-hellman-group14-sha256" ∷ []

-- whether the name is one of these
abbrev pub is_one : List (List ℕ) → List ℕ → Bool
is_one names name = list_any (λ own. bytes_eq name own) names

-- what the suite has: its ciphers, its MACs and its methods
abbrev pub deployed_inventory : InventoryData
deployed_inventory = record {
  has_cipher = λ cipher. is_one deployed_ciphers cipher;
  has_mac = λ mac. is_one deployed_macs mac;
  has_kex = λ kex. is_one deployed_methods kex;
}
