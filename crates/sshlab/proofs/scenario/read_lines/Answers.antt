use Rattle.std.proofs.Common.{◌∙◌, ℕ, ◌<◌, List, ap, length, refl, subst, sym, arith, rules, tests}
use Rattle.std.specs.Prelude.{◌==◌}
use Rattle.std.proofs.lemmas.Iterator.Consumers.{YieldsList-end, YieldsList-turn}
use Rattle.std.proofs.lemmas.Iterator.Splits.{YieldsList-from_slice_split}
use Rattle.std.proofs.lemmas.List.{length_push}
use Rattle.sshlab.specs.ScenarioDrafts.{drafted}
use Rattle.sshlab.specs.ScenarioText.{CanBeRead, statements_in}
use Rattle.sshlab.specs.TextLines.{lines}
use Rattle.sshlab.proofs.ScenarioReadLemmas.{IsLineAt, drafts_on, line_at, lines_end, lines_few, none_bad, none_given, reads_on, stops_here}
use Rattle.sshlab.proofs.scenario.read_lines.Goals as goal

pub overflow_add-number : goal.overflow_add-number
overflow_add-number c =
    let turn = YieldsList-turn (YieldsList-from_slice_split _ (λ b. b == 10) c.args.text.now (cc) (cc)
    refl (λ x r q k. search (rules, tests))) c.loop-line.yielded _ c.loop-line.yielded_by _ _ c.in-Some.line c.in-Some.is
    c.next.ensures.steps in
    let at : IsLineAt (lines c.args.text.now) c.loop-line.number c.in-Some.line.now =
    subst (λ (n : ℕ). IsLineAt (lines c.args.text.now) n c.in-Some.line.now) (sym c.loop-line.invariant.counted)
    (line_at c.args.text.now (length c.loop-line.yielded) c.in-Some.line.now turn) in
    let within : c.loop-line.number < length (lines c.args.text.now) = at.within in
    omega (arith, lines_few c.args.text.now, c.requires.within)

pub loop-line-init : goal.loop-line-init
loop-line-init c = record { counted = search rules; read = none_bad; draft = c.requires.fresh ∙ none_given }

pub loop-line-preserved : goal.loop-line-preserved
loop-line-preserved c =
    let turn = YieldsList-turn (YieldsList-from_slice_split _ (λ b. b == 10) c.args.text.now (cc) (cc)
    refl (λ x r q k. search (rules, tests))) c.loop-line.yielded _ c.loop-line.yielded_by _ _ c.in-Some.line c.in-Some.is
    c.next.ensures.steps in
    let at : IsLineAt (lines c.args.text.now) c.loop-line.number c.in-Some.line.now =
    subst (λ (n : ℕ). IsLineAt (lines c.args.text.now) n c.in-Some.line.now) (sym c.loop-line.invariant.counted)
    (line_at c.args.text.now (length c.loop-line.yielded) c.in-Some.line.now turn) in
    record {
      counted = omega (arith, length_push c.loop-line.yielded c.in-Some.line, c.loop-line.invariant.counted);
      read = reads_on (lines c.args.text.now) c.loop-line.number c.in-Some.line.now at c.loop-line.draft c.loop-line.invariant.read
          c.loop-line.invariant.draft c.in-Ok.ensures.read.0;
      draft = drafts_on (lines c.args.text.now) c.loop-line.number c.in-Some.line.now at c.loop-line.draft c.loop-line.invariant.read
          c.loop-line.invariant.draft c.read.new.self c.in-Ok.ensures.read.1;
    }

pub returns-in-Err-Form-clause-refused : goal.returns-in-Err-Form-clause-refused
returns-in-Err-Form-clause-refused c =
    let turn = YieldsList-turn (YieldsList-from_slice_split _ (λ b. b == 10) c.args.text.now (cc) (cc)
    refl (λ x r q k. search (rules, tests))) c.loop-line.yielded _ c.loop-line.yielded_by _ _ c.in-Some.line c.in-Some.is
    c.next.ensures.steps in
    let at : IsLineAt (lines c.args.text.now) c.loop-line.number c.in-Some.line.now =
    subst (λ (n : ℕ). IsLineAt (lines c.args.text.now) n c.in-Some.line.now) (sym c.loop-line.invariant.counted)
    (line_at c.args.text.now (length c.loop-line.yielded) c.in-Some.line.now turn) in
    stops_here (lines c.args.text.now) c.loop-line.number c.in-Some.line.now at c.loop-line.draft c.loop-line.invariant.read
    c.loop-line.invariant.draft (c.read.ensures.form (search rules))

pub returns : goal.returns
returns c =
    let end = YieldsList-end (YieldsList-from_slice_split _ (λ b. b == 10) c.args.text.now (cc) (cc)
    refl (λ x r q k. search (rules, tests))) c.loop-line.yielded _ c.loop-line.yielded_by _ _ c.in-None.is
    c.next.ensures.steps in
    let all = lines_end c.args.text.now c.loop-line.number (c.loop-line.invariant.counted ∙ end.1) in
    record {
      read = subst (λ (ls : List (List ℕ)). CanBeRead ls) all c.loop-line.invariant.read;
      draft = c.loop-line.invariant.draft ∙ ap (λ (ls : List (List ℕ)). drafted (statements_in ls)) all;
      refused = tt;
    }
