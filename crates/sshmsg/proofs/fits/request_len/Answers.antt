use Rattle.std.proofs.Common.{◌++◌}
use Rattle.sshwire.specs.Types.{string}
use Rattle.sshmsg.specs.View.{method_data}
use Rattle.sshmsg.specs.MessageData.{method_name}
use Rattle.sshmsg.specs.Written.{method_fields, written_message}
use Rattle.sshmsg.proofs.LengthLemmas.{request_length}
use Rattle.sshmsg.proofs.fits.request_len.Goals as goal

pub returns : goal.returns
unfolding written_message
returns c =
    let method = method_data c.args.method.now in
    request_length (string c.args.user.now) (string c.args.service.now) (string (method_name method) ++ method_fields method)
    c.two_len.result c.method_len.result c.two_len.ensures.len c.method_len.ensures.len
