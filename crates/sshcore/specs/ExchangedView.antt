-- What both sides have given, without where it lies in memory.

use Rattle.sshcore.specs.declared.kex_exchange.Shares.{Shares}
use Rattle.sshcore.specs.Exchanged.{SharesData}

-- the twin of the shares of an exchange
abbrev pub shares_data : Shares → SharesData
shares_data s = record { host_key = s.host_key.now; client_share = s.client_share.now; server_share = s.server_share.now; shared = s.shared.now }
