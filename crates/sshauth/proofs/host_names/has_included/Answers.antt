use Rattle.std.proofs.Common.{rules, tests, ◌==◌, ◌∙◌, Bor, List, ℕ, ap}
use Rattle.std.proofs.lemmas.Iterator.Consumers.{YieldsList-end}
use Rattle.std.proofs.lemmas.Iterator.Splits.{YieldsList-from_slice_split}
use Rattle.std.specs.List.{list_any}
use Rattle.sshauth.specs.HostNames.{includes}
use Rattle.sshauth.proofs.KeyLineLemmas.{found_more}
use Rattle.sshauth.proofs.host_names.has_included.Goals as goal

pub returns : goal.returns
returns c =
    let end = YieldsList-end (YieldsList-from_slice_split _ (λ x. x == 44) c.args.names.now (search rules) (search rules) c.split-pattern-items.ensures.closure (λ x b q k. search (rules, tests)))
    c.loop-pattern.yielded _ c.loop-pattern.yielded_by _ _ c.in-None.is c.next.ensures.steps in
    c.loop-pattern.invariant ∙ ap (λ (ls : List (List ℕ)). list_any (includes c.args.host.now) ls) end.0

pub loop-pattern-preserved : goal.loop-pattern-preserved
loop-pattern-preserved c =
    c.is_either-found.ensures ∙ found_more (includes c.args.host.now) (λ (pattern : Bor (List ℕ)). pattern.now) c.loop-pattern.yielded c.in-Some.pattern
    c.loop-pattern.found c.in_ok-included.included c.loop-pattern.invariant (search rules)
