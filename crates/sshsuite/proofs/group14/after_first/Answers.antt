use Rattle.std.proofs.lemmas.List.{take_rest}
use Rattle.sshsuite.proofs.group14.after_first.Goals as goal

pub returns : goal.returns
returns c = take_rest c.args.bytes.now 1
