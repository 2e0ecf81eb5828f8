use Rattle.std.proofs.Common.{◌++◌, sym, ap, ◌∙◌}
use Rattle.std.proofs.lemmas.List.{append-nil}
use Rattle.std.proofs.lemmas.Result.{on_ok_weaker}
use Rattle.sshpacket.specs.Stream.{Units}
use Rattle.sshcore.specs.Work.{banner_by}
use Rattle.sshcore.proofs.auth_service.add_banner.Goals as goal

pub returns-in-None : goal.returns-in-None
returns-in-None c = sym (append-nil c.args.answers.now) ∙ ap (λ (u : Units). c.args.answers.now ++ u) (ap banner_by c.in-None.ensures.banner)

pub returns-in-Some : goal.returns-in-Some
returns-in-Some c = on_ok_weaker c.push_message.result (λ is. is ∙ ap (λ (u : Units). c.args.answers.now ++ u) (ap banner_by c.in-Some.ensures.banner)) c.push_message.ensures
