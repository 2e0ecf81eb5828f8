use Rattle.std.proofs.Common.{◌≡◌, false, take}
use Rattle.sshauth.proofs.HostNameLemmas.{found_in}
use Rattle.sshauth.specs.PatternRows.{row_after_any}
use Rattle.sshauth.proofs.host_names.row_after_any.Given as goal

-- the row of the answers so far, and whether one of them is yes
abbrev pub invariant-loop-meant : goal.invariant-loop-meant
invariant-loop-meant l =
    (l.next.items ≡ row_after_any false (take l.meant-index l.row)) × (l.found ≡ found_in false (take l.meant-index l.row))
