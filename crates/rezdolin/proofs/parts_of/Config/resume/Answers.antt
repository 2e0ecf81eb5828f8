use Rattle.std.proofs.Common.{◌∙◌, Ok, ap, subst, sym}
use Rattle.sshneg.specs.declared.side.Side.TheVariants.{Client, Server}
use Rattle.sshcore.specs.declared.config_draws.Draws.{Draws}
use Rattle.sshcore.specs.EndpointParts.{ConfigData, config_of_client, config_of_server}
use Rattle.sshcore.specs.RecordMade.{GoesOnFrom}
use Rattle.sshcore.specs.Redrawn.{redrawn_client, redrawn_server}
use Rattle.rezdolin.specs.declared.parts_of.Config.{Config}
use Rattle.rezdolin.specs.Endpoints.{Resumes, config_in, means, role_in}
use Rattle.rezdolin.proofs.StepLemmas.{resumes_so}
use Rattle.rezdolin.proofs.parts_of.Config.resume.Goals as goal

pub returns-in_ok-paused-in-Client-clause-resumes : goal.returns-in_ok-paused-in-Client-clause-resumes
returns-in_ok-paused-in-Client-clause-resumes c =
    let made = c.in_ok-paused-in-Client in
    let config = c.in-Client.config in
    let resumed = c.resume_client.ensures in
    let same = ap (λ (draws : Draws). config_of_client (redrawn_client draws config)) made.ensures.draws in
    subst (λ (m : Config). Resumes (role_in m) (config_in m) c.args.text.now c.resume_client.result) (sym c.in-Client.is)
    (resumes_so Client (config_of_client (redrawn_client made.paused.draws config)) (config_of_client config) c.args.text.now made.paused c.resume_client.result _
    (subst (λ (p : ConfigData). GoesOnFrom means Client p _ c.args.text.now (Ok made.paused)) (sym same) made.ensures.goes_on)
    resumed.resumes resumed.follows resumed.asks made.ensures.open resumed.end (same ∙ ap config_of_client c.draws-draws.ensures.same))

pub returns-in_ok-paused-in-Server-clause-resumes : goal.returns-in_ok-paused-in-Server-clause-resumes
returns-in_ok-paused-in-Server-clause-resumes c =
    let made = c.in_ok-paused-in-Server in
    let config = c.in-Server.config in
    let resumed = c.resume_server.ensures in
    let same = ap (λ (draws : Draws). config_of_server (redrawn_server draws config)) made.ensures.draws in
    subst (λ (m : Config). Resumes (role_in m) (config_in m) c.args.text.now c.resume_server.result) (sym c.in-Server.is)
    (resumes_so Server (config_of_server (redrawn_server made.paused.draws config)) (config_of_server config) c.args.text.now made.paused c.resume_server.result _
    (subst (λ (p : ConfigData). GoesOnFrom means Server p _ c.args.text.now (Ok made.paused)) (sym same) made.ensures.goes_on)
    resumed.resumes resumed.follows resumed.asks made.ensures.open resumed.end (same ∙ ap config_of_server c.draws-draws-in-Server.ensures.same))
