use Rattle.sshneg.proofs.FirstLemmas.{is_in_by}
use Rattle.sshcore.proofs.auth_client_attempts.is_listed.Goals as goal

pub returns : goal.returns
returns c = rw (← c.method.ensures) (is_in_by c.args.listed.now c.method.result.now c.contains.result c.contains.ensures)
