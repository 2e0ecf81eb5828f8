-- What a server has prepared of its answer to a client's share: all but the signature.

use Rattle.std.specs.Prelude.{◌≡◌, ◌≤◌, ℕ, List, length, Option, None, Some}
use Rattle.sshneg.specs.declared.side.Side.{Side}
use Rattle.sshneg.specs.ExchangeEnd.{exchange_hash}
use Rattle.sshpacket.specs.declared.limits.TheConstants.{BLOB_LIMIT, DIGEST_LIMIT, SHARE_LIMIT}
use Rattle.sshpacket.specs.Suite.{FitsShare, SuiteData, response_data}
use Rattle.sshcore.specs.declared.pending.Prepared.{Prepared}
use Rattle.sshcore.specs.EndpointParts.{ConfigData}
use Rattle.sshcore.specs.Exchange.{secret_of}
use Rattle.sshcore.specs.Exchanged.{exchanged, server_shares}
use Rattle.sshcore.specs.KnownBefore.{Known}

-- it fits the messages that are sent: the share has the method's form, and all is short
pub record FitsPrepared (m : SuiteData) (known : Known) (p : Prepared) : Type 0 where
  pub share : FitsShare (m.share_form known.algorithms.kex) p.response.share.items
  pub shared : length p.response.shared.items ≤ SHARE_LIMIT
  pub host_key : length p.host_key.items ≤ BLOB_LIMIT
  pub hash : length p.hash.items ≤ DIGEST_LIMIT

-- It is what a server answers to this share, but for the signature: what the suite answers, the server's host key, and the exchange hash
-- (RFC 4253 section 8).
pub record IsPrepared (m : SuiteData) (role : Side) (config : ConfigData) (known : Known) (share : List ℕ) (p : Prepared) : Type 0 where
  pub response : m.respond known.algorithms.kex config.random share ≡ Some (response_data p.response)
  pub host_key : p.host_key.items ≡ m.blob known.algorithms.host_key (secret_of config.host_keys known.algorithms.host_key)
  pub hash : p.hash.items ≡ exchange_hash m known.algorithms.kex (exchanged role config known (server_shares m config known share (response_data p.response)))
  pub fits : FitsPrepared m known p

-- what a server has prepared of its answer to a share, or that there is no shared secret
abbrev pub IsPreparedBy : SuiteData → Side → ConfigData → Known → List ℕ → Option Prepared → Type 0
IsPreparedBy m role config known share None = m.respond known.algorithms.kex config.random share ≡ None
IsPreparedBy m role config known share (Some p) = IsPrepared m role config known share p
