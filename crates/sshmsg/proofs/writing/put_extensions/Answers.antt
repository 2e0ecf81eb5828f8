use Rattle.std.proofs.Common.{rules, [], take}
use Rattle.sshmsg.specs.declared.message.Extension.{Extension}
use Rattle.sshmsg.specs.View.{pairs_of}
use Rattle.sshmsg.specs.Written.{pairs_written}
use Rattle.sshmsg.proofs.PutLemmas.{keeps_on, pair_short}
use Rattle.sshmsg.proofs.writing.put_extensions.Goals as goal

abbrev none : Extension
none = record { name = record { ref_ptr = (0, 0); now = [] }; value = record { ref_ptr = (0, 0); now = [] } }

pub put_pair-requires : goal.put_pair-requires
put_pair-requires c =
    pair_short c.args.extensions.now c.loop-extension.extension-index none c.loop-extension-test.true c.requires

pub returns-in_err-put_pair-clause-err : goal.returns-in_err-put_pair-clause-err
returns-in_err-put_pair-clause-err c =
    keeps_on c.from_residual.result c.args.out.now.items (pairs_written (pairs_of (take c.loop-extension.extension-index c.args.extensions.now)))
    c.loop-extension.out.items c.put_pair.new.out.items c.loop-extension.invariant (search rules)
