use Rattle.std.proofs.Common.{◌≡◌, refl, subst}
use Rattle.sshcore.specs.ConfigParts.{ClientData}
use Rattle.sshcore.specs.Redrawn.{draws_of, redrawn_client}
use Rattle.sshworld.proofs.drawn.DrawnClient.config.Goals as goal

pub returns : goal.returns
returns c = subst (λ (drawn : ClientData). redrawn_client (draws_of drawn.side) c.self.inside.config.now ≡ drawn) c.self.view_is refl
