use Rattle.std.proofs.Common.{◌≡◌, ◌≢◌, ◌+◌, ◌≤◌, ◌-◌, true, false, length, take, drop, ◌++◌, Option, Ok, refl, sym, ap, ◌∙◌, subst, arith}
use Rattle.std.specs.Prelude.{is_some}
use Rattle.std.proofs.lemmas.Bool.{true≢false}
use Rattle.std.proofs.lemmas.List.{length-drop}
use Rattle.std.proofs.Math.Seq.{take-add}
use Rattle.sshcore.specs.declared.asking_endpoint.Fed.{Fed}
use Rattle.sshcore.specs.declared.asking_endpoint.Fed.TheVariants as fed
use Rattle.sshcore.specs.Asking.{AskingBreaks, AskingFed, IsReadyForBytes, asked_at, asked_by, asking_end, bytes_used, is_question}
use Rattle.sshcore.specs.AskingData.{WaitingData}
use Rattle.sshcore.specs.EndData.{Authenticated, Closed, Disconnected, EndData, Failed, Open}
use Rattle.sshcore.proofs.AskedNothing.{asked_none}
use Rattle.sshcore.proofs.AskingLemmas.{breaks_then, fed_as, fed_none, fed_then}
use Rattle.sshcore.proofs.CallLemmas.{on_err, tail_is}
use Rattle.sshcore.proofs.asking_endpoint.AskingEndpoint.feed.Goals as goal

pub loop-used-init : goal.loop-used-init
loop-used-init g c = record {
  fed = fed_none g.S.Suite.meaning c.args.self.now c.args.out.now.items;
  within = omega arith;
  owned = λ e. refl;
  nothing = λ none. refl;
  stays = λ shut. (refl, refl, refl);
}

pub loop-used-preserved : goal.loop-used-preserved
loop-used-preserved g c =
    let m = g.S.Suite.meaning in
    let old = c.args.self.now in
    let mid = c.loop-used.self in
    let new = c.take_for.new.self in
    let n = c.loop-used.used in
    let k = c.in_ok-used.field-0 in
    let piece = c.args.piece.now in
    let low : n ≤ length piece = c.loop-used.invariant.within in
    let left : k ≤ length (drop n piece) = subst (λ x. k ≤ length x) (tail_is n piece) c.in_ok-used.ensures.used in
    let size : length (drop n piece) ≡ length piece - n = length-drop n piece in
    let ready : IsReadyForBytes mid = c.is_ready.ensures.0 c.if-is_ready.true in
    record {
      fed = fed_as m old new (take n piece ++ take k (drop n piece)) (take (n + k) piece) c.args.out.now.items c.take_for.new.out.items (sym (take-add n k piece))
          (fed_then m old mid new (take n piece) (take k (drop n piece)) c.args.out.now.items c.loop-used.out.items c.take_for.new.out.items c.loop-used.invariant.fed
          (subst (λ x. AskingFed m mid new (take k x) c.loop-used.out.items c.take_for.new.out.items) (tail_is n piece) c.in_ok-used.ensures.fed));
      within = omega arith;
      owned = λ e. absurd (true≢false (sym c.in_ok-used.ensures.kept ∙ e));
      nothing = λ none.
          let first : n ≡ 0 = omega (arith, none) in
          let second : k ≡ 0 = omega (arith, none) in
          c.in_ok-used.ensures.nothing second ∙ sym (asked_none (asking_end mid)) ∙ ap (asked_at (asking_end mid)) (sym ready.waits_for_none) ∙ c.loop-used.invariant.nothing first;
      stays = λ shut. absurd (shut (subst (λ x. IsReadyForBytes x) (c.loop-used.invariant.stays shut).1 ready));
    }

pub returns-in_err-used-clause-memory : goal.returns-in_err-used-clause-memory
returns-in_err-used-clause-memory g c =
    let b = c.in_err-used.ensures.memory in
    let ready : IsReadyForBytes c.loop-used.self = c.is_ready.ensures.0 c.if-is_ready.true in
    let broken = subst (λ x. AskingBreaks g.S.Suite.meaning c.loop-used.self c.take_for.new.self x c.loop-used.out.items c.take_for.new.out.items) (tail_is c.loop-used.used c.args.piece.now) b.1 in
    on_err c.from_residual.result (
      b.0,
      breaks_then g.S.Suite.meaning c.args.self.now c.loop-used.self c.take_for.new.self c.args.piece.now c.loop-used.used c.args.out.now.items c.loop-used.out.items c.take_for.new.out.items
          c.loop-used.invariant.within ready.waits_for_none c.loop-used.invariant.fed broken,
    )

-- no byte was used, and it asks or doesn't
asks_none_used : (f : Fed) → bytes_used f ≡ 0 → is_question f ≡ true → f ≡ fed.Asks 0
asks_none_used (fed.Used n) a b = absurd (true≢false (sym b))
asks_none_used (fed.Asks n) a b = ap (λ k. fed.Asks k) a

none_used : (f : Fed) → bytes_used f ≡ 0 → is_question f ≡ false → f ≡ fed.Used 0
none_used (fed.Used n) a b = ap (λ k. fed.Used k) a
none_used (fed.Asks n) a b = absurd (true≢false b)

-- one that has ended asks nothing
ended_asks : (e : EndData) (w : Option WaitingData) → e ≢ Open → is_some (asked_at e w) ≡ false
ended_asks Open w shut = absurd (shut refl)
ended_asks (Authenticated a) w shut = refl
ended_asks (Failed f) w shut = refl
ended_asks (Closed n) w shut = refl
ended_asks (Disconnected n) w shut = refl

pub returns-clause-waits : goal.returns-clause-waits
returns-clause-waits g c = λ some.
    let self = c.args.self.now in
    let stays = c.loop-used.invariant.stays (λ r. true≢false (sym some ∙ ap (λ q. is_some q) (ap (asked_at (asking_end self)) r.waits_for_none ∙ asked_none (asking_end self)))) in
    (ap Ok (asks_none_used c.fed.result (c.fed.ensures.used ∙ stays.0) (c.fed.ensures.asks ∙ ap (λ e. is_some (asked_by e)) stays.1 ∙ some)), stays.1, stays.2)

pub returns-clause-ended : goal.returns-clause-ended
returns-clause-ended g c = λ shut.
    let self = c.args.self.now in
    let stays = c.loop-used.invariant.stays (λ r. shut r.is_open) in
    (ap Ok (none_used c.fed.result (c.fed.ensures.used ∙ stays.0) (c.fed.ensures.asks ∙ ap (λ e. is_some (asked_by e)) stays.1 ∙ ended_asks (asking_end self) self.waiting shut)), stays.1, stays.2)
