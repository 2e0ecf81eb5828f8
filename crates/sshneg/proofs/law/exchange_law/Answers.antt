use Rattle.sshneg.proofs.EndLemmas.{one_answer_at, one_choice, one_exchange, written_choice, written_offer}
use Rattle.sshneg.proofs.LengthLemmas.{exchange_length, signed_length}
use Rattle.sshneg.proofs.law.exchange_law.Goals as goal

pub returns-clause-offered : goal.returns-clause-offered
returns-clause-offered c = written_offer c.written_law.ensures.again

pub returns-clause-chosen : goal.returns-clause-chosen
returns-clause-chosen c = written_choice c.written_law.ensures.again

pub returns-clause-choices : goal.returns-clause-choices
returns-clause-choices c = one_choice

pub returns-clause-answers : goal.returns-clause-answers
returns-clause-answers c = one_answer_at

pub returns-clause-hashed : goal.returns-clause-hashed
returns-clause-hashed c = one_exchange

pub returns-clause-text_length : goal.returns-clause-text_length
returns-clause-text_length c = exchange_length

pub returns-clause-signed_length : goal.returns-clause-signed_length
returns-clause-signed_length c = signed_length
