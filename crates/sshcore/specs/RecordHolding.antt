-- A paused endpoint that has received more, of which nothing has come yet.

use Rattle.std.specs.Prelude.{◌≡◌, ℕ, List, ◌++◌, None}
use Rattle.sshneg.specs.declared.side.Side.{Side}
use Rattle.sshpacket.specs.Suite.{SuiteData}
use Rattle.sshcore.specs.EndpointParts.{ConfigData, DecisionsData, setup_with}
use Rattle.sshcore.specs.Paused.{FitsPaused, PausedAfter, PausedData, asked_paused}
use Rattle.sshcore.specs.Record.{IsRecordOf}

-- This record is that of an endpoint with the same config and suite, which asks nothing; and whatever the one before has received and
-- sent, by whatever decisions, it has received this piece more, and sent the same.
pub record IsHolding {S : Type 0} (meaning : S → SuiteData) (role : Side) (config : ConfigData) (suite : S) (piece new : List ℕ) (before : PausedData S) : Type 0 where
  pub endpoint : PausedData S
  pub is_record : IsRecordOf new endpoint
  pub fits : FitsPaused meaning role config suite endpoint
  pub after : (d : DecisionsData) (h s : List ℕ) → PausedAfter (setup_with (meaning suite) d role config) before h s
      → PausedAfter (setup_with (meaning suite) d role config) endpoint (h ++ piece) s
  pub asks : asked_paused endpoint ≡ None
