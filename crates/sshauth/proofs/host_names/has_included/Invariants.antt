use Rattle.std.proofs.Common.{◌≡◌, map}
use Rattle.std.specs.List.{list_any}
use Rattle.sshauth.specs.HostNames.{includes}
use Rattle.sshauth.proofs.host_names.has_included.Given as goal

-- one of the patterns so far includes the host
abbrev pub invariant-loop-pattern : goal.invariant-loop-pattern
invariant-loop-pattern l = l.found ≡ list_any (includes l.host) (map (λ pattern. pattern.now) l.yielded)
