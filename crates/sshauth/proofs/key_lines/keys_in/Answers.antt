use Rattle.std.proofs.Common.{rules, tests, ◌≡◌, ◌==◌, ◌∙◌, Bor, Global, List, None, Some, Vec, ℕ, ap}
use Rattle.std.proofs.lemmas.Iterator.Consumers.{YieldsList-end}
use Rattle.std.proofs.lemmas.Iterator.Splits.{YieldsList-from_slice_split}
use Rattle.std.specs.List.{filter_map}
use Rattle.sshauth.specs.KeyLines.{key_in, keys_in}
use Rattle.sshauth.proofs.KeyLineLemmas.{none_more, some_more}
use Rattle.sshauth.proofs.key_lines.keys_in.Goals as goal

pub returns : goal.returns
unfolding keys_in
returns c =
    let end = YieldsList-end (YieldsList-from_slice_split _ (λ x. x == 10) c.args.text.now (search rules) (search rules) c.split-line-items.ensures.closure (λ x b q k. search (rules, tests)))
    c.loop-line.yielded _ c.loop-line.yielded_by _ _ c.in-None.is c.next.ensures.steps in
    c.loop-line.invariant ∙ ap (λ (ls : List (List ℕ)). filter_map (key_in c.args.kind) ls) end.0

pub loop-line-preserved-in-Continue-branch-3 : goal.loop-line-preserved-in-Continue-branch-3
loop-line-preserved-in-Continue-branch-3 c =
    let given : key_in c.args.kind c.in-Some.line.now ≡ Some c.in-Some-2.key.items = search rules in
    some_more (key_in c.args.kind) (λ (key : Vec ℕ Global). key.items) (λ (line : Bor (List ℕ)). line.now) c.loop-line.keys.items c.push.new.self.items
    c.loop-line.yielded c.in-Some.line c.in-Some-2.key c.loop-line.invariant given (search rules)

pub loop-line-preserved : goal.loop-line-preserved
loop-line-preserved c =
    let given : key_in c.args.kind c.in-Some.line.now ≡ None = search rules in
    none_more (key_in c.args.kind) (λ (key : Vec ℕ Global). key.items) (λ (line : Bor (List ℕ)). line.now) c.loop-line.keys.items
    c.loop-line.yielded c.in-Some.line c.loop-line.invariant given
