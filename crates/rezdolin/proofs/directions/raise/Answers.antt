use Rattle.std.proofs.Common.{ℕ, ◌+◌, ◌%◌, ◌^◌, arith}
use Rattle.rezdolin.specs.declared.directions.Place.{Place}
use Rattle.rezdolin.proofs.DirectionLemmas.{place_within, place_within_after, raised_so}
use Rattle.rezdolin.proofs.directions.raise.Goals as goal

raised : Place → ℕ → Place
raised place len = record { number = (place.number + 1) % 2 ^ 32; count = place.count + 1; bytes = place.bytes + len }

pub put_place-requires : goal.put_place-requires
put_place-requires c =
    let within = place_within c.args.place c.args.keys.now c.args.state.now c.requires.state in omega (arith, within)

pub put_vector-requires : goal.put_vector-requires
unfolding raised
put_vector-requires c =
    place_within_after c.args.place (raised c.args.place c.args.len) c.args.keys.now c.args.state.now c.put_place.new.state c.requires.state c.put_place.ensures

pub returns : goal.returns
unfolding raised
returns c =
    raised_so c.args.place (raised c.args.place c.args.len) c.args.keys.now c.args.state.now c.put_place.new.state c.put_vector.new.state c.requires.state c.put_place.ensures c.put_vector.ensures
