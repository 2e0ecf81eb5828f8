-- A stream of packets in the standard's terms (RFC 4253 section 6).

use Rattle.std.specs.Prelude.{◌≡◌, ℕ, List, [], ◌∷◌, ◌++◌, length}
use Rattle.sshpacket.specs.Parse.{ProtectionData}
use Rattle.sshpacket.specs.Stream.{Units}
use Rattle.sshpacket.specs.ProtectedPacket.{IsProtectedPacket}

-- the bytes are packets of these payloads one after another, each protected as the payloads before it and the sizes of their packets
-- say, and a rest
abbrev pub Joined : (Units → List ℕ → ProtectionData) → Units → List ℕ → List ℕ → Units → List ℕ → Type 0
Joined at before passed bytes [] rest = bytes ≡ rest
Joined at before passed bytes (p ∷ ps) rest =
    (one : List ℕ) × (more : List ℕ) × (bytes ≡ one ++ more) × IsProtectedPacket (at before passed) p one
    × Joined at (before ++ p ∷ []) (passed ++ length one ∷ []) more ps rest
