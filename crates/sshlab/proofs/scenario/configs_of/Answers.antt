use Rattle.std.proofs.Common.{◌≡◌, ◌∙◌, ◌⊎◌, Ok, Err, ap, inl, inr, subst}
use Rattle.std.proofs.lemmas.Result.{IfErr-weaker, IfOk-weaker, err_from_is_err_and}
use Rattle.sshcore.specs.ConfigParts.{ClientData, ServerData}
use Rattle.sshcore.specs.ConfigRules.{IsClient}
use Rattle.sshcore.specs.ConfigView.{client_data, server_data}
use Rattle.sshlab.specs.ScenarioFaults.{IsClientRefusal, IsServerRefusal}
use Rattle.sshwire.proofs.OwnedLemmas.{there, told}
use Rattle.sshlab.proofs.scenario.configs_of.Goals as goal

pub returns-in_err-server-clause-refused : goal.returns-in_err-server-clause-refused
returns-in_err-server-clause-refused c =
    let gone = err_from_is_err_and c.from_residual.result c.from_residual.ensures.1 in
    let config = c.client_config-config in
    rw (gone.1, gone.2)
    (inl (told config.result (IsClientRefusal (client_data c.args.client)) _ c.in_err-server.ensures.fault config.ensures.refused))

pub returns-clause-client : goal.returns-clause-client
returns-clause-client c =
    let config = c.client_config-config in
    let accepted = there config.result (λ (d : ClientData). (d ≡ client_data c.args.client) × IsClient d) _ c.in_ok-server.ensures.other config.ensures.accepted in
    IfOk-weaker c.beside-2.result (λ two. two.0 ≡ c.in_ok-server.client) (λ two. two.0 ≡ client_data c.args.client) (λ two is. is ∙ accepted.0) c.beside-2.ensures.first

pub returns-clause-server : goal.returns-clause-server
returns-clause-server c =
    let config = c.server_config in
    IfOk-weaker c.beside-2.result (λ two. config.result ≡ Ok two.1) (λ two. two.1 ≡ server_data c.args.server)
    (λ two is. there config.result (λ (d : ServerData). d ≡ server_data c.in_ok-server.server) two.1 is config.ensures.accepted ∙ ap server_data c.in_ok-server.ensures.first) c.beside-2.ensures.other

pub returns-clause-refused : goal.returns-clause-refused
returns-clause-refused c =
    let config = c.client_config-config in
    let accepted = there config.result (λ (d : ClientData). (d ≡ client_data c.args.client) × IsClient d) _ c.in_ok-server.ensures.other config.ensures.accepted in
    let server = c.server_config in
    IfErr-weaker c.beside-2.result (λ fault. server.result ≡ Err fault)
    (λ fault. IsClientRefusal (client_data c.args.client) fault ⊎ (IsClient (client_data c.args.client) × IsServerRefusal (server_data c.args.server) fault))
    (λ fault is. inr (
      subst IsClient accepted.0 accepted.1,
      subst (λ (parts : ServerData). IsServerRefusal parts fault) (ap server_data c.in_ok-server.ensures.first)
          (told server.result (IsServerRefusal (server_data c.in_ok-server.server)) fault is server.ensures.refused),
    )) c.beside-2.ensures.fault
