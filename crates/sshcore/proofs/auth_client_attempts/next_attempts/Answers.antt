use Rattle.sshcore.proofs.AttemptLemmas.{none_after}
use Rattle.sshcore.proofs.auth_client_attempts.next_attempts.Goals as goal

pub returns-in-None : goal.returns-in-None
returns-in-None c = none_after c.args.listed.now c.args.attempts.now c.in-None.ensures.cases
