use Rattle.std.proofs.Common.{◌&&◌, ℕ, List, sym, ◌∙◌, arith}
use Rattle.sshneg.specs.Choice.{serves}
use Rattle.sshneg.specs.ChoiceReadings.{is_in}
use Rattle.sshneg.proofs.PositionLemmas.{got_name, none_more, position_item, position_nowhere}
use Rattle.sshneg.proofs.choice.first_able.Goals as goal

pub returns-then-is_able : goal.returns-then-is_able
returns-then-is_able g c =
    let got = got_name c.args.names.now c.loop-position.position c.name_at.result c.unwrap-name.result c.name_at.ensures.exact c.unwrap-name.ensures in
    let test = λ (name : List ℕ). is_in c.args.server.now name
    && serves c.args.need ((g.S.Suite.meaning c.args.suite.now).can name) in
    position_item test c.args.names.now c.loop-position.position c.unwrap-name.result.now got c.loop-position.invariant
    (sym c.is_able.ensures ∙ c.if-is_able.true)

pub loop-position-preserved : goal.loop-position-preserved
loop-position-preserved g c =
    let got = got_name c.args.names.now c.loop-position.position c.name_at.result c.unwrap-name.result c.name_at.ensures.exact c.unwrap-name.ensures in
    let test = λ (name : List ℕ). is_in c.args.server.now name
    && serves c.args.need ((g.S.Suite.meaning c.args.suite.now).can name) in
    none_more test c.args.names.now c.loop-position.position c.unwrap-name.result.now got c.loop-position.invariant
    (sym c.is_able.ensures ∙ c.if-is_able.false)

pub returns : goal.returns
returns g c =
    position_nowhere _ c.args.names.now c.loop-position.position (omega (arith, c.loop-position-test.false, c.len-position-end.ensures.count))
    c.loop-position.invariant
