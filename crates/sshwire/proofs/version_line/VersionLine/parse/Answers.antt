use Rattle.std.proofs.Common.{◌≡◌, true, sym, ◌∙◌, rules}
use Rattle.sshwire.proofs.VersionText.{no_line_from_test, whole_line_from_test}
use Rattle.sshwire.specs.Lines.{IsWholeLine}
use Rattle.sshwire.specs.Reading.{is_version_line}
use Rattle.sshwire.proofs.version_line.VersionLine.parse.Goals as goal

pub returns-then-not-is_version_line-clause-err : goal.returns-then-not-is_version_line-clause-err
returns-then-not-is_version_line-clause-err c =
    (search rules, no_line_from_test _ (sym c.is_version_line.ensures ∙ c.if-not-is_version_line.true))

whole : (c : goal.In-Ok) → IsWholeLine c.in-Ok.line.items
whole c =
    let test : is_version_line c.args.line.now ≡ true = sym c.is_version_line.ensures ∙ c.if-not-is_version_line.false in
    rw c.in-Ok.ensures.items (whole_line_from_test _ test)

pub invariant_of-result : goal.invariant_of-result
invariant_of-result c = whole c

pub returns-in-Ok-clause-ok : goal.returns-in-Ok-clause-ok
returns-in-Ok-clause-ok c =
    let w = whole c in (w.version, sym c.in-Ok.ensures.items ∙ w.line_is)

pub returns-in-Err-clause-memory : goal.returns-in-Err-clause-memory
returns-in-Err-clause-memory c = λ e.
    let test : is_version_line c.args.line.now ≡ true = sym c.is_version_line.ensures ∙ c.if-not-is_version_line.false in
    whole_line_from_test _ test
