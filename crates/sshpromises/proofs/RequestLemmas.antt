-- How many requests a plan has at the most.

use Rattle.std.proofs.Common.{◌+◌, ◌*◌, ◌≤◌, Bool, true, false, cond, List, [], ◌∷◌, length, arith}
use Rattle.sshcore.specs.ConfigParts.{AttemptData}
use Rattle.sshcore.specs.Plan.{asks}
use Rattle.sshworld.specs.Offered.{most_requests}

pub few_requests : (plan : List AttemptData) → most_requests plan ≤ 2 * length plan
few_requests [] = omega arith
few_requests (a ∷ later) = by (asks a.proving) (few_requests later)
  where
    by : (b : Bool) → most_requests later ≤ 2 * length later → cond b (2 + most_requests later) (1 + most_requests later) ≤ 2 * length (a ∷ later)
    by true few = omega (arith, few)
    by false few = omega (arith, few)
