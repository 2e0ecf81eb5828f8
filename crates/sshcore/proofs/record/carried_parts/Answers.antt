use Rattle.std.proofs.Common.{Option, None, Some, IfSome}
use Rattle.std.proofs.lemmas.Str.{IsUtf8-string_bytes}
use Rattle.sshcore.specs.declared.session.UserKey.{UserKey}
use Rattle.sshcore.specs.Record.{HasUserText}
use Rattle.sshcore.specs.StateData.{user_key_data}
use Rattle.sshcore.proofs.record.carried_parts.Goals as goal

user_text : (key : Option UserKey) → IfSome (user_key_data key) HasUserText
user_text None = tt
user_text (Some key) = IsUtf8-string_bytes key.algorithm

pub returns-clause-text : goal.returns-clause-text
returns-clause-text c = user_text c.args.state.now.user_key
