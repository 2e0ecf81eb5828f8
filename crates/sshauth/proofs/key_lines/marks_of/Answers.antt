use Rattle.std.proofs.Common.{rules, tests, ◌==◌, ◌∙◌, List, ℕ, ap, map}
use Rattle.std.proofs.lemmas.Iterator.Consumers.{YieldsList-end}
use Rattle.std.proofs.lemmas.Iterator.Splits.{YieldsList-from_slice_split}
use Rattle.sshauth.specs.KeyLines.{is_line}
use Rattle.sshauth.proofs.key_lines.marks_of.Goals as goal

pub returns : goal.returns
returns c =
    let end = YieldsList-end (YieldsList-from_slice_split _ (λ x. x == 10) c.args.text.now (search rules) (search rules) c.split-line-items.ensures.closure (λ x b q k. search (rules, tests)))
    c.loop-line.yielded _ c.loop-line.yielded_by _ _ c.in-None.is c.next.ensures.steps in
    c.loop-line.invariant ∙ ap (λ (ls : List (List ℕ)). map (is_line c.args.kind) ls) end.0
