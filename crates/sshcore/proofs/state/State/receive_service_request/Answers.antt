use Rattle.std.proofs.Common.{◌≡◌, ℕ, Bool, true, false, List, ◌∷◌, refl, cond, ap, ◌∙◌}
use Rattle.std.specs.Prelude.{not}
use Rattle.std.specs.Str.{bytes_eq}
use Rattle.std.proofs.lemmas.Result.{IfOk-weaker}
use Rattle.sshmsg.specs.MessageData.{ServiceAccept}
use Rattle.sshmsg.specs.Written.{written_message}
use Rattle.sshcore.specs.declared.end.Fault.TheVariants as fault
use Rattle.sshcore.specs.EndpointConfig.{config_data}
use Rattle.sshpacket.specs.Stream.{Units}
use Rattle.sshcore.specs.EndData.{Reply, fails, goes}
use Rattle.sshcore.specs.ReplyView.{replied}
use Rattle.sshcore.specs.StateData.{state_data}
use Rattle.sshcore.specs.EndpointParts.{ConfigData}
use Rattle.sshcore.specs.Work.{banner_by, service_reply, userauth}
use Rattle.sshcore.proofs.state.State.receive_service_request.Goals as goal

-- the reply where the service isn't the one of authentication, and where it is
off : (b : Bool) (x y : Reply) → true ≡ not b → y ≡ cond b x y
off true x y e = absurd cc
off false x y e = refl

on : (b : Bool) (x y : Reply) → false ≡ not b → x ≡ cond b x y
on true x y e = refl
on false x y e = absurd cc

accepted : ConfigData → Reply
accepted config = goes (written_message (ServiceAccept userauth) ∷ banner_by config.banner)

refuses : (config : ConfigData) (service : List ℕ) → true ≡ not (bytes_eq service userauth) → fails fault.Service ≡ service_reply config service
unfolding accepted
refuses config service e = off (bytes_eq service userauth) (accepted config) (fails fault.Service) e

accepts : (config : ConfigData) (service : List ℕ) → false ≡ not (bytes_eq service userauth) → goes (written_message (ServiceAccept userauth) ∷ banner_by config.banner) ≡ service_reply config service
unfolding accepted
accepts config service e = on (bytes_eq service userauth) (accepted config) (fails fault.Service) e

pub returns-then-ne-clause-gives : goal.returns-then-ne-clause-gives
returns-then-ne-clause-gives c = IfOk-weaker c.fail.result _ _ (λ answers given.
    given ∙ refuses (config_data c.args.config.now) c.args.service.now c.if-ne.ensures) c.fail.ensures.gives

pub returns-clause-gives : goal.returns-clause-gives
returns-clause-gives c =
    ap (λ (a : Units). replied a (state_data c.args.self.now).end) c.in_ok-answers.ensures
    ∙ (ap (replied (written_message (ServiceAccept userauth) ∷ banner_by (config_data c.args.config.now).banner)) c.requires.open
    ∙ accepts (config_data c.args.config.now) c.args.service.now c.if-ne.ensures)
