use Rattle.std.proofs.Common.{IfOk, subst}
use Rattle.sshneg.specs.declared.side.Side.TheVariants.{Server}
use Rattle.sshcore.specs.ConfigParts.{ServerData}
use Rattle.sshcore.specs.Endpoints.{EndpointMade}
use Rattle.sshcore.specs.EndpointParts.{config_of_server}
use Rattle.sshcore.proofs.endpoint.Endpoint.server.Goals as goal

pub returns-clause-made : goal.returns-clause-made
returns-clause-made g c = subst
    (λ (config : ServerData). IfOk c.server_with.result (λ e. EndpointMade g.S.Suite.meaning g.D.Decisions.policy Server (config_of_server config) c.args.suite.now c.args.decisions.now e c.args.out.now.items c.server_with.new.out.items))
    c.draws.ensures.same c.server_with.ensures.made
