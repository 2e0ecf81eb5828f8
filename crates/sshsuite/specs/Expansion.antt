-- What the methods of key exchange draw of the random bytes of an exchange. SHAKE256 gives for each input bytes of which nothing is told
-- by what it gives for another; each purpose has an input of its own. So who learns all that one method has drawn, as whoever breaks
-- X25519 may of a share of curve25519-sha256, learns nothing of what another draws of the same random bytes.

use Rattle.std.specs.Prelude.{ℕ, ◌*◌, List, [], ◌∷◌, ◌++◌, drop, take}
use Rattle.sshkeccak.specs.Sponge.{shake256_96}
use Rattle.sshsuite.specs.declared.expansion.Purpose.{Purpose}
use Rattle.sshsuite.specs.declared.expansion.Purpose.TheVariants.{Curve25519, Group14, HybridClient, HybridServer}

-- the byte that stands for a purpose (profile)
abbrev pub purpose_number : Purpose → ℕ
purpose_number HybridClient = 0
purpose_number HybridServer = 1
purpose_number Curve25519 = 2
purpose_number Group14 = 3

-- what is expanded: the random bytes, and after them the byte of the purpose (profile)
abbrev pub expansion_input : List ℕ → Purpose → List ℕ
expansion_input random purpose = random ++ purpose_number purpose ∷ []

-- part i of the 96 bytes that SHAKE256 gives for it (profile)
unfoldable pub expanded : List ℕ → Purpose → ℕ → List ℕ
expanded random purpose i = take 32 (drop (32 * i) (shake256_96 (expansion_input random purpose)))
