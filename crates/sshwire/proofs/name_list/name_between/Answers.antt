use Rattle.std.proofs.Common.{arith}
use Rattle.sshwire.proofs.EndLemmas.{cut_after, cut_first}
use Rattle.sshwire.proofs.name_list.name_between.Goals as goal

pub range-requires-clause-end_boundary : goal.range-requires-clause-end_boundary
range-requires-clause-end_boundary c =
    (cut_first c.args.text.now c.args.ends.now c.args.position c.requires.table c.requires.within c.if-position-eq0.true).at_end

pub returns-then-position-eq0-clause-exact : goal.returns-then-position-eq0-clause-exact
returns-then-position-eq0-clause-exact c =
    (cut_first c.args.text.now c.args.ends.now c.args.position c.requires.table c.requires.within c.if-position-eq0.true).gets _ c.range.ensures.value

pub returns-then-position-eq0-clause-sound : goal.returns-then-position-eq0-clause-sound
returns-then-position-eq0-clause-sound c =
    (cut_first c.args.text.now c.args.ends.now c.args.position c.requires.table c.requires.within c.if-position-eq0.true).named _ c.range.ensures.value

pub range-requires-else-position-eq0-clause-start_le_end : goal.range-requires-else-position-eq0-clause-start_le_end
range-requires-else-position-eq0-clause-start_le_end c =
    (cut_after c.args.text.now c.args.ends.now c.args.position c.requires.table c.requires.within (omega (arith, c.if-position-eq0.false))).ordered

pub range-requires-else-position-eq0-clause-start_boundary : goal.range-requires-else-position-eq0-clause-start_boundary
range-requires-else-position-eq0-clause-start_boundary c = λ _.
    (cut_after c.args.text.now c.args.ends.now c.args.position c.requires.table c.requires.within (omega (arith, c.if-position-eq0.false))).at_start

pub range-requires-else-position-eq0-clause-end_boundary : goal.range-requires-else-position-eq0-clause-end_boundary
range-requires-else-position-eq0-clause-end_boundary c =
    (cut_after c.args.text.now c.args.ends.now c.args.position c.requires.table c.requires.within (omega (arith, c.if-position-eq0.false))).at_end

pub returns-else-position-eq0-clause-exact : goal.returns-else-position-eq0-clause-exact
returns-else-position-eq0-clause-exact c =
    (cut_after c.args.text.now c.args.ends.now c.args.position c.requires.table c.requires.within (omega (arith, c.if-position-eq0.false))).gets
    _ c.range-else-position-eq0.ensures.value

pub returns-else-position-eq0-clause-sound : goal.returns-else-position-eq0-clause-sound
returns-else-position-eq0-clause-sound c =
    (cut_after c.args.text.now c.args.ends.now c.args.position c.requires.table c.requires.within (omega (arith, c.if-position-eq0.false))).named
    _ c.range-else-position-eq0.ensures.value
