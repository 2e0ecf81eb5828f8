use Rattle.sshmsg.specs.View.{kexinit_data}
use Rattle.sshneg.specs.Strictness.{is_strict}
use Rattle.sshcore.proofs.AgreeLemmas.{same_test}
use Rattle.sshcore.proofs.kex_init.is_strict.Goals as goal

pub returns : goal.returns
returns c =
    let flag = c.side.result.now.strict in
    rw (← c.side.ensures.strict, ← c.role.ensures) (same_test c.strict_of.result (is_strict flag c.role.result (kexinit_data c.args.peer.now)) c.strict_of.ensures
    (c.markers_law.ensures.strictness flag c.role.result (kexinit_data c.args.peer.now)))
