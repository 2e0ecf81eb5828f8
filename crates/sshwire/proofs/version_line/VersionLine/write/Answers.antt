use Rattle.std.proofs.Common.{List, ℕ, subst}
use Rattle.sshwire.specs.Lines.{IsVersionText}
use Rattle.sshwire.proofs.Refusals.{version_line_read}
use Rattle.sshwire.proofs.version_line.VersionLine.write.Goals as goal

pub returns-clause-again : goal.returns-clause-again
returns-clause-again c = λ k rest.
    version_line_read k c.args.self.now rest (subst (λ (text : List ℕ). IsVersionText text) c.self.view_is c.self.invariant.version)

pub returns-in_err-extend_from_slice-clause-again : goal.returns-in_err-extend_from_slice-clause-again
returns-in_err-extend_from_slice-clause-again c = λ k rest.
    version_line_read k c.args.self.now rest (subst (λ (text : List ℕ). IsVersionText text) c.self.view_is c.self.invariant.version)
