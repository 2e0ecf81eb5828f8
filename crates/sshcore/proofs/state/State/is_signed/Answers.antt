use Rattle.std.proofs.Common.{length, ◌≡◌, ◌≤◌, ◌+◌, ◌∙◌, List, ℕ, ap, arith, rules}
use Rattle.std.proofs.lemmas.Result.{IfOk-weaker}
use Rattle.sshneg.specs.Derivations.{signed_text}
use Rattle.sshcore.proofs.state.State.is_signed.Goals as goal

pub verify-requires-clause-input : goal.verify-requires-clause-input
verify-requires-clause-input g c =
    let session = c.args.self.now.session.items in
    let long : length (signed_text session c.args.user.now c.args.service.now c.args.algorithm.now c.args.key.now)
    ≡ length session + length c.args.user.now + length c.args.service.now + length c.args.algorithm.now + length c.args.key.now + 35 =
    c.exchange_law.ensures.signed_length session c.args.user.now c.args.service.now c.args.algorithm.now c.args.key.now in
    let made : c.deref-2.result.now ≡ signed_text session c.args.user.now c.args.service.now c.args.algorithm.now c.args.key.now = search rules in
    let kept : length session ≤ 64 = c.args.self.now.session_short in
    let name : length c.args.algorithm.now ≤ 64 = c.requires.named.short in
    rw made (omega (arith, c.requires.user, c.requires.service, c.requires.key))

pub returns : goal.returns
returns g c =
    let m = g.S.Suite.meaning c.args.suite.now in
    let session = c.args.self.now.session.items in
    let made : c.deref-2.result.now ≡ signed_text session c.args.user.now c.args.service.now c.args.algorithm.now c.args.key.now = search rules in
    IfOk-weaker c.verify.result _ _ (λ signed is. is ∙ ap (λ (l : List ℕ). m.verify c.args.algorithm.now c.args.key.now l c.args.signature.now) made) c.verify.ensures
