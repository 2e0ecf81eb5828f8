use Rattle.std.proofs.Common.{◌≡◌, [], drop}
use Rattle.sshsuite.specs.MpintBody.{mpint_body}
use Rattle.sshsuite.proofs.mpint.mpint_body.Given as goal

abbrev pub invariant-loop-i : goal.invariant-loop-i
invariant-loop-i l = (l.body.items ≡ []) × (mpint_body l.bytes ≡ mpint_body (drop l.i l.bytes))
