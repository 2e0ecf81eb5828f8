-- What is printed of a field without a choice.

use Rattle.std.specs.Prelude.{ℕ, List, codes}
use Rattle.sshneg.specs.declared.choice.NoCommon.{NoCommon}
use Rattle.sshneg.specs.declared.choice.NoCommon.TheVariants.{Kex, HostKey, EncryptionClientToServer, EncryptionServerToClient, MacClientToServer, MacServerToClient, CompressionClientToServer, CompressionServerToClient}

-- the field's name in the program's format (profile)
abbrev pub field_text : NoCommon → List ℕ
field_text Kex = codes "kex"
field_text HostKey = codes "hostkey"
field_text EncryptionClientToServer = codes "cipher_cs"
field_text EncryptionServerToClient = codes "cipher_sc"
field_text MacClientToServer = codes "mac_cs"
field_text MacServerToClient = codes "mac_sc"
field_text CompressionClientToServer = codes "compression_cs"
field_text CompressionServerToClient = codes "compression_sc"
