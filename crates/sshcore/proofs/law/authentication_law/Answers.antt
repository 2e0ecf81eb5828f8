use Rattle.sshcore.proofs.AuthenticatedLemmas.{authenticated}
use Rattle.sshcore.proofs.LawsBelow.{Below}
use Rattle.sshcore.proofs.TriesLemmas.{granted}
use Rattle.sshcore.proofs.law.authentication_law.Goals as goal

pub returns : goal.returns
returns c =
    let below : Below = record { numbers = c.numbers_law.ensures.message_number; alike = c.numbers_law.ensures.alike; right = c.markers_law.ensures.right } in
    record { authenticated = authenticated below; granted = granted below }
