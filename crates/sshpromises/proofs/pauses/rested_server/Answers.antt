use Rattle.std.proofs.Common.{◌≡◌, ◌∙◌, ap, sym}
use Rattle.sshneg.specs.declared.side.Side.TheVariants.{Server}
use Rattle.sshcore.specs.declared.config_draws.Draws.{Draws}
use Rattle.sshcore.specs.Dialogue.{Rests}
use Rattle.sshcore.specs.EndpointParts.{config_of_server}
use Rattle.sshcore.specs.Redrawn.{redrawn_server}
use Rattle.sshpromises.proofs.PauseLemmas.{rested, rested_same}
use Rattle.sshpromises.proofs.pauses.rested_server.Goals as goal

pub returns : goal.returns
returns g c =
    let config = c.args.config.now in
    let of = c.requires.config in
    let config_is : c.args.endpoint.config ≡ config_of_server (redrawn_server c.pause.result.draws config) =
    of.1 ∙ ap (λ (draws : Draws). config_of_server (redrawn_server draws config)) (sym (c.pause.ensures.server config of.0 of.1)) in
    let resumed = c.resume_server.ensures in
    let is = rested g.S.Suite.meaning c.args.endpoint c.resume_server.result Server (config_of_server (redrawn_server c.pause.result.draws config)) c.args.suite.now
    c.requires.role config_is c.requires.suite c.pause.result resumed.resumes c.pause.ensures.follows c.pause.ensures.asks resumed.follows resumed.asks in
    record {
      rests = is;
      same = rested_same g.S.Suite.meaning c.args.endpoint c.resume_server.result Server (config_of_server (redrawn_server c.pause.result.draws config)) c.args.suite.now
          c.requires.role config_is c.requires.suite c.pause.result resumed.resumes;
      goes_on = λ answers h s before. Rests c.args.endpoint c.resume_server.result answers h s before is;
    }

pub resume_server-requires : goal.resume_server-requires
resume_server-requires g c = search (c.pause.ensures.fits_server)
