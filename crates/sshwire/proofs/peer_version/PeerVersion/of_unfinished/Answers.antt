use Rattle.std.proofs.Common.{rules, ◌≡◌, length, take}
use Rattle.sshwire.specs.declared.line_form.ReadBy.TheVariants.{Client}
use Rattle.sshwire.specs.Reading.{before_cr}
use Rattle.sshwire.proofs.DeployedText.{before_cr_cut, deployed_from_test}
use Rattle.sshwire.proofs.peer_version.PeerVersion.of_unfinished.Goals as goal

pub invariant_of-result : goal.invariant_of-result
invariant_of-result c =
    let is : c.truncate.new.self.items ≡ take (length (before_cr c.args.line.items)) c.args.line.items = search rules in
    rw (is, before_cr_cut c.args.line.items) (deployed_from_test Client (before_cr c.args.line.items) c.requires)
