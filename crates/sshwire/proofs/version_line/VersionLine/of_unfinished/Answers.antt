use Rattle.sshwire.proofs.VersionText.{whole_line_from_test}
use Rattle.sshwire.proofs.version_line.VersionLine.of_unfinished.Goals as goal

pub invariant_of-result : goal.invariant_of-result
invariant_of-result c = rw c.in_ok-push.ensures.items (whole_line_from_test _ c.requires)
