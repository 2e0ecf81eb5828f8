use Rattle.std.proofs.Common.{rules, ◌≡◌, length}
use Rattle.sshmsg.specs.declared.numbers.TheConstants.{SSH_MSG_EXT_INFO}
use Rattle.sshmsg.specs.MessageData.{ext_info, ExtInfo}
use Rattle.sshmsg.specs.Form.{form_at}
use Rattle.sshmsg.proofs.ListLemmas.{out_of_memory}
use Rattle.sshmsg.proofs.lists.read_ext_info.Goals as goal

pub returns-in-Err-Memory-clause-memory : goal.returns-in-Err-Memory-clause-memory
returns-in-Err-Memory-clause-memory c = λ told.
    let none : length c.lend_ext_info.new.reader ≡ 0 = search rules in
    out_of_memory SSH_MSG_EXT_INFO (form_at ext_info c.args.fields.now) (ExtInfo c.in-Ok.ensures.0.0)
    c.lend_ext_info.new.reader tt (search rules) none
