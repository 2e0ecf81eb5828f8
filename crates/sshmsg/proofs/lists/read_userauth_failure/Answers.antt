use Rattle.std.proofs.Common.{rules, ◌≡◌, length}
use Rattle.sshmsg.specs.declared.numbers.TheConstants.{SSH_MSG_USERAUTH_FAILURE}
use Rattle.sshmsg.specs.MessageData.{userauth_failure, UserauthFailure}
use Rattle.sshmsg.specs.Form.{form_at}
use Rattle.sshmsg.proofs.ListLemmas.{out_of_memory}
use Rattle.sshmsg.proofs.lists.read_userauth_failure.Goals as goal

pub returns-in-Err-clause-memory : goal.returns-in-Err-clause-memory
returns-in-Err-clause-memory c = λ told.
    let none : length c.lend_userauth_failure.new.reader ≡ 0 = search rules in
    out_of_memory SSH_MSG_USERAUTH_FAILURE (form_at userauth_failure c.args.fields.now) (UserauthFailure c.in-Ok.methods c.in-Ok.partial_success)
    c.lend_userauth_failure.new.reader tt (search rules) none
