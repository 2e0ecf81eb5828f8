-- How a client guesses the method of key exchange: RFC 4253 section 7.

use Rattle.std.specs.Prelude.{Bool, true, false}
use Rattle.sshneg.specs.Strictness.{is_right_guess}
use Rattle.sshcore.specs.ConfigParts.{ClientData, ServerData, client_offer, server_offer}

-- A client sends no guess after its KEXINIT, or one that is right, or one that is wrong.
pub data Guess : Type 0 where
  NoGuess : Guess
  RightGuess : Guess
  WrongGuess : Guess

-- the guess, by whether one is sent and whether it is right (RFC 4253 section 7)
abbrev pub guess_by : Bool → Bool → Guess
guess_by false right = NoGuess
guess_by true true = RightGuess
guess_by true false = WrongGuess

-- The guess of two configs: the client's config says whether it is sent, and both KEXINITs whether it is right.
abbrev pub guess_of : ClientData → ServerData → Guess
guess_of client server = guess_by client.guess (is_right_guess (client_offer client) (server_offer server))
