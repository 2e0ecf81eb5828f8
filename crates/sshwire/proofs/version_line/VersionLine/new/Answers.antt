use Rattle.std.proofs.Common.{◌≤◌, length, arith}
use Rattle.sshwire.proofs.VersionText.{spelled_no_line}
use Rattle.sshwire.proofs.version_line.VersionLine.new.Goals as goal

pub returns-in-None-clause-complete : goal.returns-in-None-clause-complete
returns-in-None-clause-complete c =
    let short : length c.in_ok-line.line.items ≤ 255 = omega (arith, c.len.ensures, c.if-len-gt-LINE_LIMIT.false) in
    spelled_no_line c.in_ok-line.line.items _ _ c.in_ok-line.ensures short c.in-None.ensures
