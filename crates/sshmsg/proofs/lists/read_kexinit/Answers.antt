use Rattle.std.proofs.Common.{rules, ◌≡◌, length}
use Rattle.sshmsg.specs.declared.numbers.TheConstants.{SSH_MSG_KEXINIT}
use Rattle.sshmsg.specs.MessageData.{KexInit, kexinit}
use Rattle.sshmsg.specs.Form.{form_at}
use Rattle.sshmsg.specs.View.{lent_kexinit_data}
use Rattle.sshmsg.proofs.ListLemmas.{out_of_memory}
use Rattle.sshmsg.proofs.lists.read_kexinit.Goals as goal

pub returns-in-Err-clause-memory : goal.returns-in-Err-clause-memory
returns-in-Err-clause-memory c = λ told.
    let none : length c.lend_kexinit.new.reader ≡ 0 = search rules in
    out_of_memory SSH_MSG_KEXINIT (form_at kexinit c.args.fields.now) (KexInit (lent_kexinit_data c.in-Ok.lent))
    c.lend_kexinit.new.reader tt (search rules) none
