use Rattle.std.proofs.Common.{◌≡◌, ◌∙◌, rules, string_bytes}
use Rattle.sshmsg.specs.View.{method_data}
use Rattle.sshcore.specs.EndpointConfig.{config_data}
use Rattle.sshcore.specs.Questions.{UserQuestion}
use Rattle.sshcore.specs.StateData.{state_data}
use Rattle.sshcore.specs.QuestionsView.{claim_method, claim_proof}
use Rattle.sshcore.specs.Requests.{is_signed}
use Rattle.sshcore.proofs.PendingLemmas.{none_of, some_of}
use Rattle.sshcore.proofs.RequestLemmas.{asks_elsewhere, asks_here}
use Rattle.sshcore.proofs.state.State.pending_request.Goals as goal

pub returns-in_default-clause-asks : goal.returns-in_default-clause-asks
returns-in_default-clause-asks g c =
    asks_elsewhere (g.S.Suite.meaning c.args.suite.now) (config_data c.args.config.now) (state_data c.args.self.now).known c.args.user.now c.args.service.now
    (method_data c.args.method.now) c.service.result c.service.ensures.service c.in_default.is

pub returns-in-None-clause-asks : goal.returns-in-None-clause-asks
returns-in-None-clause-asks g c =
    none_of (λ claim. UserQuestion c.args.self.now.request c.args.user.now c.in-Some.service.now (claim_proof claim) (is_signed (claim_method claim))) c.in_ok-claim_of.field-0 _ c.in_ok-claim_of.ensures.asks c.in-None.is ∙ asks_here (g.S.Suite.meaning c.args.suite.now) (config_data c.args.config.now) (state_data c.args.self.now).known c.args.user.now c.args.service.now (method_data c.args.method.now) c.service.result c.service.ensures.service c.in-Some.service c.in-Some.is

pub returns-in_ok-service-in-Some-2-clause-asks : goal.returns-in_ok-service-in-Some-2-clause-asks
returns-in_ok-service-in-Some-2-clause-asks g c =
    let user : string_bytes c.in_ok-user-in-Some-2.user ≡ c.args.user.now = search rules in
    let service : string_bytes c.in_ok-service-in-Some-2.service ≡ c.in-Some.service.now = search rules in
    rw (user, service) (some_of (λ claim. UserQuestion c.args.self.now.request c.args.user.now c.in-Some.service.now (claim_proof claim) (is_signed (claim_method claim))) c.in_ok-claim_of.field-0 _ c.in-Some-2.claim c.in_ok-claim_of.ensures.asks c.in-Some-2.is ∙ asks_here (g.S.Suite.meaning c.args.suite.now) (config_data c.args.config.now) (state_data c.args.self.now).known c.args.user.now c.args.service.now (method_data c.args.method.now) c.service.result c.service.ensures.service c.in-Some.service c.in-Some.is)
