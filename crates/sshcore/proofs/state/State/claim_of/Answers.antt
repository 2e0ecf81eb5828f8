use Rattle.std.proofs.Common.{[], sym, ap, subst, refl, ◌∙◌}
use Rattle.std.specs.Prelude.{IfOk, IfSome}
use Rattle.sshmsg.specs.MessageData.{MethodData, Password, PublicKey}
use Rattle.sshmsg.specs.View.{method_data}
use Rattle.sshcore.specs.EndpointConfig.{config_data}
use Rattle.sshcore.specs.Judging.{KeepsMethod}
use Rattle.sshcore.specs.Requests.{method_step}
use Rattle.sshcore.specs.StateData.{state_data}
use Rattle.sshcore.specs.Step.{asked_in}
use Rattle.sshcore.specs.Tries.{proof_in}
use Rattle.sshcore.proofs.PendingLemmas.{both_weaker, ok_both}
use Rattle.sshcore.proofs.RequestLemmas.{claims_ask, key_kept, other_asks}
use Rattle.sshcore.proofs.state.State.claim_of.Goals as goal

pub returns-in-Password-clause-asks : goal.returns-in-Password-clause-asks
returns-in-Password-clause-asks g c =
    let m = g.S.Suite.meaning c.args.suite.now in
    let config = config_data c.args.config.now in
    let known = (state_data c.args.self.now).known in
    let claimed = Password c.in-Password.password.now in
    ok_both c.password_claim.result _ _ _ (λ o proves keeps.
    claims_ask config known c.args.user.now c.args.service.now claimed claimed o (proof_in m config known.session c.args.user.now c.args.service.now claimed) refl (proves m known.session c.args.user.now c.args.service.now) keeps
    ∙ ap (λ (x : MethodData). asked_in (method_step m config known c.args.user.now c.args.service.now x)) (sym (ap method_data c.in-Password.is))) c.password_claim.ensures.proves c.password_claim.ensures.keeps

pub returns-in-PublicKey-clause-asks : goal.returns-in-PublicKey-clause-asks
returns-in-PublicKey-clause-asks g c =
    let m = g.S.Suite.meaning c.args.suite.now in
    let config = config_data c.args.config.now in
    let known = (state_data c.args.self.now).known in
    let claimed = PublicKey c.in-PublicKey.algorithm.now c.in-PublicKey.key.now c.in-PublicKey.signature.now in
    ok_both c.key_claim.result _ _ _ (λ o proves keeps.
    claims_ask config known c.args.user.now c.args.service.now claimed (PublicKey c.in-PublicKey.algorithm.now c.in-PublicKey.key.now []) o
    (proof_in m config known.session c.args.user.now c.args.service.now claimed) refl proves keeps
    ∙ ap (λ (x : MethodData). asked_in (method_step m config known c.args.user.now c.args.service.now x)) (sym (ap method_data c.in-PublicKey.is))) c.key_claim.ensures.proves c.key_claim.ensures.keeps

pub returns-in-PublicKey-clause-keeps : goal.returns-in-PublicKey-clause-keeps
returns-in-PublicKey-clause-keeps g c =
    let config = config_data c.args.config.now in
    let known = (state_data c.args.self.now).known in
    subst (λ (x : MethodData). IfOk c.key_claim.result (λ o. IfSome o (KeepsMethod config known x))) (sym (ap method_data c.in-PublicKey.is))
    (both_weaker c.key_claim.result _ _ _ (key_kept config known c.in-PublicKey.algorithm.now c.in-PublicKey.key.now c.in-PublicKey.signature.now) c.key_claim.ensures.keeps c.key_claim.ensures.named)

pub returns-in_default-clause-asks : goal.returns-in_default-clause-asks
returns-in_default-clause-asks g c =
    other_asks (g.S.Suite.meaning c.args.suite.now) (config_data c.args.config.now) (state_data c.args.self.now).known c.args.user.now c.args.service.now c.args.method.now
    c.in_default.not-None c.in_default.not-Password c.in_default.not-PublicKey c.in_default.not-PublicKeyQuery
