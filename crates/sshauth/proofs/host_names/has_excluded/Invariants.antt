use Rattle.std.proofs.Common.{◌≡◌, map}
use Rattle.std.specs.List.{list_any}
use Rattle.sshauth.specs.HostNames.{excludes}
use Rattle.sshauth.proofs.host_names.has_excluded.Given as goal

-- one of the patterns so far excludes the host
abbrev pub invariant-loop-pattern : goal.invariant-loop-pattern
invariant-loop-pattern l = l.found ≡ list_any (excludes l.host) (map (λ pattern. pattern.now) l.yielded)
