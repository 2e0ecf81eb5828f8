use Rattle.std.proofs.Common.{◌≡◌, ◌++◌, map, length}
use denote.Shadow.{shadow}
use denote.Text.{Utf8}
use Rattle.sshlab.specs.ScenarioFields.{parts}
use Rattle.sshlab.proofs.scenario_fields.parts_of.Given as goal

-- the parts found, and those of the rest, are those of the text
abbrev pub invariant-loop-part : goal.invariant-loop-part
invariant-loop-part l =
    shadow (Utf8 l.rest) × (map (λ part. part.now) l.found.items ++ parts l.between l.rest ≡ parts l.between l.text)

abbrev pub decreases-loop-part : goal.decreases-loop-part
decreases-loop-part l = length l.rest
