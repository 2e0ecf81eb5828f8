-- Strictness and a right guess as tests, and the kex list that an endpoint sends (OpenSSH PROTOCOL section 1.10, RFC 4253
-- section 7).

use Rattle.std.specs.Prelude.{◌&&◌, ℕ, Bool, if◌then◌else◌, List, [], ◌∷◌, ◌++◌}
use Rattle.sshmsg.specs.MessageData.{KexInitData}
use Rattle.sshneg.specs.declared.side.Side.{Side}
use Rattle.sshneg.specs.ChoiceReadings.{is_in}
use Rattle.sshneg.specs.Markers.{first_name, methods, other, same_name, strict_marker}

-- whether an endpoint of this role is strict, by its own flag and the peer's KEXINIT
abbrev pub is_strict : Bool → Side → KexInitData → Bool
is_strict flag role peer = flag && is_in peer.kex_algorithms (strict_marker (other role))

-- whether a guess is right
abbrev pub is_right_guess : KexInitData → KexInitData → Bool
is_right_guess client server =
    same_name (first_name (methods client.kex_algorithms)) (first_name (methods server.kex_algorithms))
    && same_name (first_name client.server_host_key_algorithms) (first_name server.server_host_key_algorithms)

-- the kex list that is sent: where the flag is on, the marker of strictness stands after the methods
abbrev pub marked_list : Side → Bool → List (List ℕ) → List (List ℕ)
marked_list role flag names = if flag then names ++ strict_marker role ∷ [] else names
