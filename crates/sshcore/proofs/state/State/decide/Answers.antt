use Rattle.std.proofs.Common.{Bool, ap, sym, refl, ◌∙◌}
use Rattle.std.specs.Prelude.{◌&&◌}
use Rattle.std.proofs.lemmas.Result.{IfOk-weaker, on_ok_weaker}
use Rattle.sshcore.specs.Authenticating.{claimed_reply, counted_request, tried_key}
use Rattle.sshcore.specs.EndpointConfig.{config_data}
use Rattle.sshcore.specs.QuestionsView.{claim_method}
use Rattle.sshcore.specs.StateData.{state_data}
use Rattle.sshcore.specs.Tries.{tried_with}
use Rattle.sshcore.specs.declared.pending.Claim.{Claim}
use Rattle.sshcore.proofs.RequestLemmas.{claimed_other, claims_other, named_other}
use Rattle.sshcore.proofs.state.State.decide.Goals as goal

pub returns-in-Query-clause-gives : goal.returns-in-Query-clause-gives
returns-in-Query-clause-gives c = IfOk-weaker c.answer_query.result _ _ (λ answers given.
    given ∙ (rw (c.deref.ensures, c.deref-in-Query.ensures.value) refl
    ∙ ap (λ (x : Claim). claimed_reply (config_data c.args.config.now) (state_data c.args.self.now).known c.args.user.now c.args.service.now (claim_method x) c.args.allowed) (sym c.in-Query.is))) c.answer_query.ensures.gives

pub decide_claim-requires-clause-named : goal.decide_claim-requires-clause-named
decide_claim-requires-clause-named c = named_other (config_data c.args.config.now) (state_data c.args.self.now).known c.args.claim.now c.in_default.not-Query c.requires.fits

pub returns-clause-gives : goal.returns-clause-gives
returns-clause-gives c = IfOk-weaker c.decide_claim.result _ _ (λ answers given.
    given ∙ (claimed_other (config_data c.args.config.now) (state_data c.args.self.now).known c.args.user.now c.args.service.now c.args.claim.now c.in_default.not-Query c.args.allowed)) c.decide_claim.ensures.gives

pub returns-clause-stays : goal.returns-clause-stays
returns-clause-stays c =
    let old = state_data c.args.self.now in
    let new = state_data c.decide_claim.new.self in
    let method = claim_method c.args.claim.now in
    on_ok_weaker c.decide_claim.result (λ stays goes_on. stays goes_on
    ∙ ap (λ (b : Bool). record old { end = new.end; known = counted_request old.known (tried_with c.args.user.now c.args.service.now method (b && c.args.allowed)); carried = tried_key old.carried method (b && c.args.allowed) })
    (sym (claims_other c.args.claim.now c.in_default.not-Query))) c.decide_claim.ensures.stays
