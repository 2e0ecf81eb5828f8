use Rattle.std.proofs.Common.{◌∷◌, ◌++◌}
use Rattle.sshwire.specs.Types.{string}
use Rattle.sshmsg.specs.View.{method_data}
use Rattle.sshmsg.specs.MessageData.{method_name}
use Rattle.sshmsg.proofs.PutLemmas.{keeps_on}
use Rattle.sshmsg.proofs.writing.put_userauth_request.Goals as goal

pub returns-clause-err : goal.returns-clause-err
returns-clause-err c =
    keeps_on c.put_method_fields.result c.args.out.now.items
    (50 ∷ (string c.args.user.now ++ (string c.args.service.now ++ string (method_name (method_data c.args.method.now)))))
    c.put_three_strings.new.out.items c.put_method_fields.new.out.items
    (rw (← c.name.ensures, ← c.as_bytes.ensures.value) c.in_ok-put_three_strings.ensures.ok)
    c.put_method_fields.ensures.err
