use Rattle.std.proofs.lemmas.Str.{IsUtf8-string_bytes}
use Rattle.sshcore.proofs.record.authentication_parts.Goals as goal

pub returns-clause-user : goal.returns-clause-user
returns-clause-user c = IsUtf8-string_bytes c.args.state.now.completed.user

pub returns-clause-service : goal.returns-clause-service
returns-clause-service c = IsUtf8-string_bytes c.args.state.now.completed.service
