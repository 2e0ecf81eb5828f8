use Rattle.std.proofs.Common.{◌≡◌, refl, subst}
use Rattle.sshcore.specs.ConfigParts.{ServerData}
use Rattle.sshcore.specs.Redrawn.{draws_of, redrawn_server}
use Rattle.sshworld.proofs.drawn.DrawnServer.config.Goals as goal

pub returns : goal.returns
returns c = subst (λ (drawn : ServerData). redrawn_server (draws_of drawn.side) c.self.inside.config.now ≡ drawn) c.self.view_is refl
