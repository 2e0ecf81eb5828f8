use Rattle.std.proofs.Common.{◌≡◌, ◌∙◌, ap, subst}
use Rattle.sshneg.specs.declared.side.Side.TheVariants as role
use Rattle.sshcore.specs.declared.config_draws.Draws.{Draws}
use Rattle.sshcore.specs.ConfigParts.{ServerData}
use Rattle.sshcore.specs.Endpoints.{EndpointMade}
use Rattle.sshcore.specs.EndpointParts.{config_of_server}
use Rattle.sshcore.specs.Redrawn.{redrawn_server}
use Rattle.sshworld.proofs.SessionLemmas.{if_ok}
use Rattle.sshworld.proofs.drawn.DrawnServer.endpoint.Goals as goal

pub returns : goal.returns
returns g c =
    let config = c.self.inside.config.now in
    let same : redrawn_server c.again-draws.result config ≡ c.args.self.now = ap (λ (draws : Draws). redrawn_server draws config) c.again-draws.ensures ∙ c.self.view_is in
    if_ok c.server_with.result
    (λ e made. subst (λ (drawn : ServerData). EndpointMade g.S.Suite.meaning g.D.Decisions.policy role.Server (config_of_server drawn) c.args.suite.now c.args.decisions.now e c.args.out.now.items c.server_with.new.out.items) same made)
    c.server_with.ensures.made
