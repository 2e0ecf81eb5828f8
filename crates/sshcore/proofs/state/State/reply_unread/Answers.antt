use Rattle.std.proofs.Common.{None, ap, subst, sym, ◌∙◌}
use Rattle.std.proofs.lemmas.Result.{on_ok_weaker}
use Rattle.sshpacket.specs.Stream.{Units}
use Rattle.sshcore.specs.Comes.{ComesTo}
use Rattle.sshcore.specs.EndData.{by_input}
use Rattle.sshcore.specs.EndpointParts.{setup_with}
use Rattle.sshcore.specs.Judging.{IsJudged}
use Rattle.sshcore.specs.StateData.{StateData, state_data}
use Rattle.sshcore.proofs.BringsLemmas.{drops_comes, judged_comes, unknown_comes}
use Rattle.sshcore.proofs.WorksLemmas.{if_two}
use Rattle.sshcore.proofs.state.State.reply_unread.Goals as goal

pub returns-in-Drops-clause-comes : goal.returns-in-Drops-clause-comes
returns-in-Drops-clause-comes c = λ m role config d judged.
    let old = state_data c.args.self.now in
    let new = state_data c.drop_guess.new.self in
    subst (λ (a : Units). ComesTo (setup_with m d role config) old new c.args.packet c.args.payload.now (record { answers = a; switch = None })) (sym c.none.ensures)
    (drops_comes (setup_with m d role config) old new c.args.packet c.args.payload.now (subst (IsJudged m role config old c.args.payload.now) c.in-Drops.is judged) c.requires.open c.drop_guess.ensures)

pub returns-in-Fails-clause-comes : goal.returns-in-Fails-clause-comes
returns-in-Fails-clause-comes c = if_two c.fail.result _ _ _ c.fail.ensures.gives c.fail.ensures.stays (λ answers gives stays m role config d judged.
    let is = subst (IsJudged m role config (state_data c.args.self.now) c.args.payload.now) c.in-Fails.is judged in
    judged_comes (setup_with m d role config) _ _ c.args.packet c.args.payload.now answers c.in-Fails.fault (is.1 d c.args.packet) gives (ap (λ (k : StateData). k.sending) stays))

pub returns-in-Unknown-clause-comes : goal.returns-in-Unknown-clause-comes
returns-in-Unknown-clause-comes c = if_two c.tell_unknown.result _ _ _ c.tell_unknown.ensures.gives c.tell_unknown.ensures.stays (λ answers gives stays m role config d judged.
    let is = subst (IsJudged m role config (state_data c.args.self.now) c.args.payload.now) c.in-Unknown.is judged in
    unknown_comes (setup_with m d role config) _ _ c.args.packet c.args.payload.now answers is.0 is.1 gives stays)

pub returns-in-Fails-clause-kept : goal.returns-in-Fails-clause-kept
returns-in-Fails-clause-kept c = on_ok_weaker c.fail.result (λ ends m role config judged.
    ap by_input ends ∙ (subst (IsJudged m role config (state_data c.args.self.now) c.args.payload.now) c.in-Fails.is judged).0) c.fail.ensures.ends
