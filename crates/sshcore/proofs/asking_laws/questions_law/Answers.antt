use Rattle.sshcore.proofs.AnsweredLemmas.{some_decisions}
use Rattle.sshcore.proofs.AskedOnceLemmas as asked
use Rattle.sshcore.proofs.asking_laws.questions_law.Goals as goal

pub returns : goal.returns
returns c = record {
  once = λ setup version before. asked.once c.numbers_law.ensures.message_number setup version before;
  answers = some_decisions;
  same = asked.same;
  nothing = asked.nothing;
  more = asked.more;
  stands = asked.stands;
}
