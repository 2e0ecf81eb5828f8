use Rattle.sshcore.proofs.CompletedMethodsLemmas.{complete_is, run_is, run_only}
use Rattle.sshcore.proofs.law.completed_methods_law.Goals as goal

pub returns : goal.returns
returns c = record { run = run_is; only = run_only; kept = λ tried t successful required is all. complete_is tried t successful is required all }
