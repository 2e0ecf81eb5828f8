use Rattle.std.proofs.Common.{◌≡◌, ◌++◌}
use Rattle.sshlabsuites.specs.Lab.{stream}
use Rattle.sshlabsuites.proofs.lab_suite.stream.Given as goal

abbrev pub invariant-loop-index : goal.invariant-loop-index
invariant-loop-index l = l.blocks.items ≡ stream (l.front ++ l.back) l.seq l.index
