use Rattle.std.proofs.Common.{◌+◌, ◌%◌, ◌^◌, List, ℕ, subst, sym}
use Rattle.sshsuite.specs.CounterMode.{HoldsFrom}
use Rattle.sshsuite.proofs.StreamLemmas.{first_holds}
use Rattle.sshsuite.proofs.gcm.body_stream.Goals as goal

pub stream-requires-clause-made : goal.stream-requires-clause-made
stream-requires-clause-made c =
    let blocks = c.args.blocks.now in
    λ _. subst (λ (eight : List ℕ). HoldsFrom blocks.keys.now ((blocks.counter + 2) % 2 ^ 128) 0 2 eight) (sym c.requires.first) (first_holds blocks.keys.now blocks.counter)
