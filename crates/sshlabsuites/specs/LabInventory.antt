-- What the insecure suites have: every name, since they have an answer for each, but the cipher and the MAC `none`.

use Rattle.std.specs.Prelude.{true, not, codes}
use Rattle.std.specs.Str.{bytes_eq}
use Rattle.sshpacket.specs.Inventory.{InventoryData}

-- `none` is no encryption, and no MAC (RFC 4253 sections 6.3 and 6.4): they encrypt and put a tag under every name
abbrev pub lab_inventory : InventoryData
lab_inventory = record {
  has_cipher = λ cipher. not (bytes_eq cipher (codes "none"));
  has_mac = λ mac. not (bytes_eq mac (codes "none"));
  has_kex = λ kex. true;
}
