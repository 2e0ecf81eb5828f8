use Rattle.std.proofs.Common.{◌≡◌, ◌∙◌, ap, subst}
use Rattle.sshneg.specs.declared.side.Side.TheVariants as role
use Rattle.sshcore.specs.declared.config_draws.Draws.{Draws}
use Rattle.sshcore.specs.ConfigParts.{ClientData}
use Rattle.sshcore.specs.Endpoints.{EndpointMade}
use Rattle.sshcore.specs.EndpointParts.{config_of_client}
use Rattle.sshcore.specs.Redrawn.{redrawn_client}
use Rattle.sshworld.proofs.SessionLemmas.{if_ok}
use Rattle.sshworld.proofs.drawn.DrawnClient.endpoint.Goals as goal

pub returns : goal.returns
returns g c =
    let config = c.self.inside.config.now in
    let same : redrawn_client c.again-draws.result config ≡ c.args.self.now = ap (λ (draws : Draws). redrawn_client draws config) c.again-draws.ensures ∙ c.self.view_is in
    if_ok c.client_with.result
    (λ e made. subst (λ (drawn : ClientData). EndpointMade g.S.Suite.meaning g.D.Decisions.policy role.Client (config_of_client drawn) c.args.suite.now c.args.decisions.now e c.args.out.now.items c.client_with.new.out.items) same made)
    c.client_with.ensures.made
