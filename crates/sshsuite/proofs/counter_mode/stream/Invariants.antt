use Rattle.std.proofs.Common.{◌≡◌, ◌+◌, ◌%◌}
use Rattle.sshsuite.specs.CounterMode.{HoldsFrom, stream_to}
use Rattle.sshsuite.proofs.counter_mode.stream.Given as goal

abbrev pub invariant-loop-i : goal.invariant-loop-i
invariant-loop-i l =
    (l.bytes.items ≡ stream_to l.keys l.counter l.i)
    × (((l.i + l.place) % 8 ≡ 0 → ⊥) → HoldsFrom l.keys l.counter l.i ((l.i + l.place) % 8) l.eight)
