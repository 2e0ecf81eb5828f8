use Rattle.std.proofs.Common.{◌≡◌, ◌∙◌, ap, sym}
use Rattle.sshneg.specs.declared.side.Side.TheVariants.{Client}
use Rattle.sshcore.specs.declared.config_draws.Draws.{Draws}
use Rattle.sshcore.specs.Dialogue.{Rests}
use Rattle.sshcore.specs.EndpointParts.{config_of_client}
use Rattle.sshcore.specs.Redrawn.{redrawn_client}
use Rattle.sshpromises.proofs.PauseLemmas.{rested, rested_same}
use Rattle.sshpromises.proofs.pauses.rested_client.Goals as goal

pub returns : goal.returns
returns g c =
    let config = c.args.config.now in
    let of = c.requires.config in
    let config_is : c.args.endpoint.config ≡ config_of_client (redrawn_client c.pause.result.draws config) =
    of.1 ∙ ap (λ (draws : Draws). config_of_client (redrawn_client draws config)) (sym (c.pause.ensures.client config of.0 of.1)) in
    let resumed = c.resume_client.ensures in
    let is = rested g.S.Suite.meaning c.args.endpoint c.resume_client.result Client (config_of_client (redrawn_client c.pause.result.draws config)) c.args.suite.now
    c.requires.role config_is c.requires.suite c.pause.result resumed.resumes c.pause.ensures.follows c.pause.ensures.asks resumed.follows resumed.asks in
    record {
      rests = is;
      same = rested_same g.S.Suite.meaning c.args.endpoint c.resume_client.result Client (config_of_client (redrawn_client c.pause.result.draws config)) c.args.suite.now
          c.requires.role config_is c.requires.suite c.pause.result resumed.resumes;
      goes_on = λ answers h s before. Rests c.args.endpoint c.resume_client.result answers h s before is;
    }

pub resume_client-requires : goal.resume_client-requires
resume_client-requires g c = search (c.pause.ensures.fits_client)
