-- What the KEXINITs of both sides come to (RFC 4253 section 7).

use Rattle.std.specs.Prelude.{◌≡◌, ◌&&◌, Bool, List, [], ◌∷◌, ℕ, if◌then◌else◌, Result, Ok, Err}
use Rattle.sshmsg.specs.MessageData.{KexInitData}
use Rattle.sshneg.specs.declared.choice.NoCommon.{NoCommon}
use Rattle.sshneg.specs.declared.side.Side.{Side}
use Rattle.sshneg.specs.declared.side.Side.TheVariants.{Client, Server}
use Rattle.sshneg.specs.ChoiceReadings.{choice}
use Rattle.sshneg.specs.Strictness.{is_right_guess}
use Rattle.sshpacket.specs.Stream.{Units}
use Rattle.sshpacket.specs.Suite.{SuiteData}
use Rattle.sshcore.specs.declared.kex_init.Negotiated.{Negotiated}
use Rattle.sshcore.specs.EndpointParts.{ConfigData}
use Rattle.sshcore.specs.Work.{init_for}

-- what a client's KEXINIT and a server's come to: the algorithms of their choice with the form of its shares, and whether a
-- guess is right; or the field without a choice
abbrev pub IsNegotiated : SuiteData → KexInitData → KexInitData → Result Negotiated NoCommon → Type 0
IsNegotiated m client server (Ok n) =
    (choice m client server ≡ Ok n.algorithms) × (n.shares ≡ m.share_form n.algorithms.kex) × (n.right ≡ is_right_guess client server)
IsNegotiated m client server (Err f) = choice m client server ≡ Err f

-- what is sent at KEXINIT, by whether a guess is right
abbrev pub sends_init : SuiteData → Side → ConfigData → Bool → List ℕ → Units
sends_init m Client config right kex = if config.offer.first_kex_packet_follows && right then [] else init_for m config kex ∷ []
sends_init m Server config right kex = []
