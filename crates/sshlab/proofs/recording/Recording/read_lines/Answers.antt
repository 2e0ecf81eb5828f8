use Rattle.std.proofs.Common.{rules, tests, ◌==◌, ◌+◌, ◌++◌, ◌∙◌, List, ℕ, ap, sym}
use Rattle.std.proofs.lemmas.List.{length-map}
use Rattle.std.proofs.lemmas.Iterator.Consumers.{YieldsList-end, YieldsList-so_far, YieldsList-turn}
use Rattle.std.proofs.lemmas.Iterator.Splits.{YieldsList-from_slice_split}
use Rattle.std.specs.List.{list_all, flat_map, slice_split}
use Rattle.sshneg.specs.declared.side.Side.TheVariants.{Client, Server}
use Rattle.sshlab.specs.Recordings.{IsFirstBadLine, is_recorded, sent}
use Rattle.sshlab.proofs.RecordingLemmas.{bad_at}
use Rattle.sshlab.proofs.TextLemmas.{parts_are}
use Rattle.sshlab.proofs.recording.Recording.read_lines.Goals as goal

pub returns-then-not-branch-clause-refused : goal.returns-then-not-branch-clause-refused
returns-then-not-branch-clause-refused c =
    let before = YieldsList-so_far (YieldsList-from_slice_split _ (λ x. x == 10) c.args.text.now (search rules) (search rules) c.split-line-items.ensures.closure (λ x b q k. search (rules, tests)))
    c.loop-line.yielded _ c.loop-line.yielded_by in
    let turn = YieldsList-turn (YieldsList-from_slice_split _ (λ x. x == 10) c.args.text.now (search rules) (search rules) c.split-line-items.ensures.closure (λ x b q k. search (rules, tests)))
    c.loop-line.yielded _ c.loop-line.yielded_by _ _ c.in-Some.line c.in-Some.is c.next.ensures.steps in
    let bad : IsFirstBadLine (c.loop-line.number + 1) (slice_split (λ x. x == 10) c.args.text.now)
    = bad_at _ _ _ _ _ before turn.0 turn.1 c.loop-line.invariant.number (length-map c.loop-line.yielded _) c.loop-line.invariant.readable (search rules) in
    rw (parts_are 10 c.args.text.now) at bad

pub returns-clause-client : goal.returns-clause-client
returns-clause-client c =
    let end = YieldsList-end (YieldsList-from_slice_split _ (λ x. x == 10) c.args.text.now (search rules) (search rules) c.split-line-items.ensures.closure (λ x b q k. search (rules, tests)))
    c.loop-line.yielded _ c.loop-line.yielded_by _ _ c.in-None.is c.next.ensures.steps in
    c.loop-line.invariant.client
    ∙ ap (λ (ls : List (List ℕ)). c.args.self.now.client.items ++ flat_map (sent Client) ls) (end.0 ∙ parts_are 10 c.args.text.now)

pub returns-clause-server : goal.returns-clause-server
returns-clause-server c =
    let end = YieldsList-end (YieldsList-from_slice_split _ (λ x. x == 10) c.args.text.now (search rules) (search rules) c.split-line-items.ensures.closure (λ x b q k. search (rules, tests)))
    c.loop-line.yielded _ c.loop-line.yielded_by _ _ c.in-None.is c.next.ensures.steps in
    c.loop-line.invariant.server
    ∙ ap (λ (ls : List (List ℕ)). c.args.self.now.server.items ++ flat_map (sent Server) ls) (end.0 ∙ parts_are 10 c.args.text.now)

pub returns-clause-taken : goal.returns-clause-taken
returns-clause-taken c =
    let end = YieldsList-end (YieldsList-from_slice_split _ (λ x. x == 10) c.args.text.now (search rules) (search rules) c.split-line-items.ensures.closure (λ x b q k. search (rules, tests)))
    c.loop-line.yielded _ c.loop-line.yielded_by _ _ c.in-None.is c.next.ensures.steps in
    ap (list_all is_recorded) (sym (end.0 ∙ parts_are 10 c.args.text.now)) ∙ c.loop-line.invariant.readable
