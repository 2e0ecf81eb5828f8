use Rattle.std.proofs.Common.{◌&&◌, ℕ, List, not, sym, ◌∙◌, arith}
use Rattle.sshneg.specs.Choice.{serves}
use Rattle.sshneg.specs.ChoiceReadings.{is_in}
use Rattle.sshneg.specs.Markers.{is_marker}
use Rattle.sshneg.proofs.PositionLemmas.{got_name, none_more, position_item, position_nowhere}
use Rattle.sshneg.proofs.choice.first_usable.Goals as goal

pub returns-then-is_usable : goal.returns-then-is_usable
returns-then-is_usable g c =
    let got = got_name c.args.names.now c.loop-position.position c.name_at.result c.unwrap-name.result c.name_at.ensures.exact c.unwrap-name.ensures in
    let test = λ (name : List ℕ). not (is_marker name)
    && (is_in c.args.server.now name && serves ((g.S.Suite.meaning c.args.suite.now).need name) c.args.common) in
    position_item test c.args.names.now c.loop-position.position c.unwrap-name.result.now got c.loop-position.invariant
    (sym c.is_usable.ensures ∙ c.if-is_usable.true)

pub loop-position-preserved : goal.loop-position-preserved
loop-position-preserved g c =
    let got = got_name c.args.names.now c.loop-position.position c.name_at.result c.unwrap-name.result c.name_at.ensures.exact c.unwrap-name.ensures in
    let test = λ (name : List ℕ). not (is_marker name)
    && (is_in c.args.server.now name && serves ((g.S.Suite.meaning c.args.suite.now).need name) c.args.common) in
    none_more test c.args.names.now c.loop-position.position c.unwrap-name.result.now got c.loop-position.invariant
    (sym c.is_usable.ensures ∙ c.if-is_usable.false)

pub returns : goal.returns
returns g c =
    position_nowhere _ c.args.names.now c.loop-position.position (omega (arith, c.loop-position-test.false, c.len-position-end.ensures.count))
    c.loop-position.invariant
