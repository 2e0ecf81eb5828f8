use Rattle.std.proofs.Common.{IfOk, subst}
use Rattle.sshneg.specs.declared.side.Side.TheVariants.{Client}
use Rattle.sshcore.specs.ConfigParts.{ClientData}
use Rattle.sshcore.specs.Endpoints.{EndpointMade}
use Rattle.sshcore.specs.EndpointParts.{config_of_client}
use Rattle.sshcore.proofs.endpoint.Endpoint.client.Goals as goal

pub returns-clause-made : goal.returns-clause-made
returns-clause-made g c = subst
    (λ (config : ClientData). IfOk c.client_with.result (λ e. EndpointMade g.S.Suite.meaning g.D.Decisions.policy Client (config_of_client config) c.args.suite.now c.args.decisions.now e c.args.out.now.items c.client_with.new.out.items))
    c.draws.ensures.same c.client_with.ensures.made
