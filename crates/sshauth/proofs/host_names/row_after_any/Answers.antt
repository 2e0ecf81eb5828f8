use Rattle.sshauth.proofs.HostNameLemmas.{nothing_yet}
use Rattle.sshauth.proofs.host_names.row_after_any.Goals as goal

pub loop-meant-init : goal.loop-meant-init
loop-meant-init c = nothing_yet c.new-next.result.items c.new-next.ensures.items
