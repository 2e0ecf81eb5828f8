use Rattle.std.proofs.Common.{◌≡◌, ◌∷◌, List, ℕ, [], option_map, sym, ap, ◌∙◌, Bor}
use Rattle.std.proofs.lemmas.Result.{IfOk-weaker}
use Rattle.sshmsg.specs.MessageData.{UserauthRequest}
use Rattle.sshmsg.specs.Written.{written_message}
use Rattle.sshcore.specs.Attempts.{signed_method}
use Rattle.sshcore.specs.ConfigParts.{AttemptData}
use Rattle.sshcore.specs.ConfigView.{attempt_data}
use Rattle.sshcore.specs.EndData.{Open, goes}
use Rattle.sshcore.specs.Plan.{first_made}
use Rattle.sshcore.specs.StateData.{StateData}
use Rattle.sshcore.proofs.AttemptLemmas.{first_some, left_some, made_as, quiet_user_request, same_first}
use Rattle.sshcore.proofs.MadeLemmas.{made_plain, replied_made}
use Rattle.sshcore.proofs.state.State.answer_attempt.Goals as goal

pub one-requires : goal.one-requires
one-requires c =
    let mid = c.move_on.new.self in
    let made = first_made mid.confirmed (attempt_data c.in-Some.attempt.now) in
    let method = signed_method c.args.key.algorithm.now c.args.key.blob.now (option_map (λ (s : Bor (List ℕ)). s.now) c.args.signature) in
    made_plain _ _ (made_as mid.confirmed (attempt_data c.in-Some.attempt.now) method _ c.in_ok-request-in-Some.ensures) (quiet_user_request made.user made.service method)

pub returns-in_ok-request-in-Some-clause-gives : goal.returns-in_ok-request-in-Some-clause-gives
returns-in_ok-request-in-Some-clause-gives c =
    let mid = c.move_on.new.self in
    let made = first_made mid.confirmed (attempt_data c.in-Some.attempt.now) in
    let method = signed_method c.args.key.algorithm.now c.args.key.blob.now (option_map (λ (s : Bor (List ℕ)). s.now) c.args.signature) in
    IfOk-weaker c.one.result _ _ (λ answers alone a later is.
    let here = left_some mid.confirmed _ _ _ (first_some mid.left.now c.first.result c.in-Some.attempt c.first.ensures.value c.in-Some.is) in
    let same : made ≡ a = same_first made a _ later (sym here ∙ (ap (λ (k : StateData). k.known.left) c.move_on.ensures ∙ is)) in
    replied_made (written_message (UserauthRequest made.user made.service method)) _ answers _ Open alone
    (made_as mid.confirmed (attempt_data c.in-Some.attempt.now) method _ c.in_ok-request-in-Some.ensures) (ap (λ (k : StateData). k.end) c.move_on.ensures ∙ c.requires.open)
    ∙ ap (λ (x : AttemptData). goes (written_message (UserauthRequest x.user x.service method) ∷ [])) same) c.one.ensures
