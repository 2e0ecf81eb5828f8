use Rattle.std.proofs.Common.{◌≡◌, ◌≢◌, ◌<◌, ◌≤◌, None, length, take}
use Rattle.sshcore.specs.Asking.{asked_by, asking_end}
use Rattle.sshcore.specs.EndData.{Open}
use Rattle.sshcore.specs.EndpointParts.{DecisionsData}
use Rattle.rezdolin.specs.CarriedOn.{CarriesOn}
use Rattle.rezdolin.specs.Endpoints.{means}
use Rattle.rezdolin.specs.Trust.{trust_policy}
use Rattle.rezdolin.proofs.steps.carry.Given as goal

abbrev pub invariant-loop : goal.invariant-loop
invariant-loop l =
    (l.used ≤ length l.piece)
    × ((d : DecisionsData) → d ≡ trust_policy l.trust.host_keys.now l.trust.users.now
    → CarriesOn means d l.fn.endpoint l.endpoint (take l.used l.piece) l.fn.sent.items l.sent.items)
    × (asked_by l.endpoint ≢ None → l.counter < l.used)
    × (asking_end l.endpoint ≡ Open → asked_by l.endpoint ≡ None → l.used ≡ length l.piece)
