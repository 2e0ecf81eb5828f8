-- What an endpoint shows of its course: its phase, whether both sides are strict, and what both KEXINITs choose.

use Rattle.std.specs.Prelude.{◌≡◌}
use Rattle.sshcore.specs.declared.state.State.{State}

-- phase, strictness and algorithms are as before
pub record ShowsTheSame (old new : State) : Type 0 where
  pub same_phase : new.phase ≡ old.phase
  pub same_strict : new.strict ≡ old.strict
  pub same_algorithms : new.algorithms ≡ old.algorithms
