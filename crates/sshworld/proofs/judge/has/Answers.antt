use Rattle.std.proofs.Common.{◌∙◌, string_bytes}
use Rattle.std.specs.Str.{bytes_eq}
use Rattle.sshworld.proofs.JudgeLemmas.{any_map}
use Rattle.sshworld.proofs.judge.has.Goals as goal

pub returns : goal.returns
returns c = c.is_one_of.ensures ∙ any_map string_bytes (λ own. bytes_eq c.args.name.now own) c.args.names.now
