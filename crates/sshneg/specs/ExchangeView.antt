-- What contracts see of the parts of an exchange.

use Rattle.sshneg.specs.declared.derivations.Exchange.{Exchange}
use Rattle.sshneg.specs.declared.derivations.KeyMaterial.{KeyMaterial}
use Rattle.sshneg.specs.Derivations.{ExchangeData, KeyMaterialData}

-- the twin of an `Exchange`
abbrev pub exchange_data : Exchange → ExchangeData
exchange_data x = record {
  client_version = x.client_version.now;
  server_version = x.server_version.now;
  client_kexinit = x.client_kexinit.now;
  server_kexinit = x.server_kexinit.now;
  host_key = x.host_key.now;
  client_share = x.client_share.now;
  server_share = x.server_share.now;
  shared = x.shared.now;
}

-- the twin of a `KeyMaterial`
abbrev pub key_material_data : KeyMaterial → KeyMaterialData
key_material_data x = record { kex = x.kex.now; shared = x.shared.now; hash = x.hash.now; session = x.session.now }
