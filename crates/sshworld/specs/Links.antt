-- What one endpoint sends, another receives: what the two directions of a connection have to fit for. Of one direction, own is
-- the endpoint that receives, with this role, and their is the one that sends, with the role peer. All payloads that the
-- receiver sends in a course are ours, and all that it receives are theirs.

use Rattle.std.specs.Prelude.{◌≡◌, true, []}
use Rattle.sshwire.specs.Lines.{Preamble}
use Rattle.sshneg.specs.declared.side.Side.{Side}
use Rattle.sshneg.specs.Markers.{other}
use Rattle.sshpacket.specs.Places.{EachPlace}
use Rattle.sshpacket.specs.Stream.{Units}
use Rattle.sshpacket.specs.Suite.{SuiteData}
use Rattle.sshcore.specs.Counting.{switched_out}
use Rattle.sshcore.specs.Directions.{others_of, preamble_of}
use Rattle.sshcore.specs.EndpointParts.{ConfigData}
use Rattle.sshworld.specs.Placed.{HaveSameKeys, IsInPlace}

-- All that is sent in one direction can be received (RFC 4253 sections 4.2 and 7.3). The two roles differ. The lines that are sent first
-- are a preamble of the version that is sent. Each payload is in its place. Where NEWKEYS is sent at all, both sides have the same keys.
pub record CanBeReceived (m : SuiteData) (role peer : Side) (own their : ConfigData) (ours theirs : Units) : Type 0 where
  pub is_other : other role ≡ peer
  pub preamble : Preamble (others_of role) their.version (preamble_of their)
  pub places : EachPlace (IsInPlace role own) [] theirs
  pub keys : switched_out theirs ≡ true → HaveSameKeys m role peer own their ours theirs
