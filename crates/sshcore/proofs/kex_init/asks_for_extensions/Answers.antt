use Rattle.std.specs.Prelude.{codes}
use Rattle.sshmsg.specs.View.{kexinit_data}
use Rattle.sshneg.specs.ChoiceReadings.{is_in}
use Rattle.sshneg.proofs.FirstLemmas.{in_both}
use Rattle.sshcore.proofs.AgreeLemmas.{same_test}
use Rattle.sshcore.proofs.kex_init.asks_for_extensions.Goals as goal

pub returns : goal.returns
returns c =
    let names = (kexinit_data c.args.peer.now).kex_algorithms in
    same_test c.contains.result (is_in names (codes "ext-info-c")) c.contains.ensures (in_both names (codes "ext-info-c"))
