use Rattle.sshneg.proofs.ChoiceFacts as facts
use Rattle.sshneg.proofs.ChoiceLaws as laws
use Rattle.sshneg.proofs.ChoiceOrder as order
use Rattle.sshneg.proofs.ChoicePlaces as places
use Rattle.sshneg.proofs.law.choice_law.Goals as goal

pub returns-clause-tells : goal.returns-clause-tells
returns-clause-tells c = λ m client server r. (places.tells m client server r, places.told_when m client server r)

pub returns-clause-names : goal.returns-clause-names
returns-clause-names c = λ m client server a. (laws.choice_sound m client server a, laws.choice_complete m client server a)

pub returns-clause-without : goal.returns-clause-without
returns-clause-without c = λ m client server f. (laws.without_sound m client server f, facts.without_complete m client server f)

pub returns-clause-one_kex : goal.returns-clause-one_kex
returns-clause-one_kex c = laws.one_kex

pub returns-clause-exists : goal.returns-clause-exists
returns-clause-exists c = facts.exists

pub returns-clause-listed : goal.returns-clause-listed
returns-clause-listed c = facts.listed

pub returns-clause-method : goal.returns-clause-method
returns-clause-method c = facts.method

pub returns-clause-able : goal.returns-clause-able
returns-clause-able c = facts.able

pub returns-clause-earliest : goal.returns-clause-earliest
returns-clause-earliest c = places.earliest

pub returns-clause-order : goal.returns-clause-order
returns-clause-order c = order.order

pub returns-clause-same_first : goal.returns-clause-same_first
returns-clause-same_first c = facts.same_first

pub returns-clause-placed : goal.returns-clause-placed
returns-clause-placed c = places.placed

pub returns-clause-stands : goal.returns-clause-stands
returns-clause-stands c = places.stands

pub returns-clause-well : goal.returns-clause-well
returns-clause-well c = places.well

pub returns-clause-answers : goal.returns-clause-answers
returns-clause-answers c = places.answers

pub returns-clause-refuses : goal.returns-clause-refuses
returns-clause-refuses c = places.refuses

pub returns-clause-offered : goal.returns-clause-offered
returns-clause-offered c = order.offered

pub returns-clause-guessed : goal.returns-clause-guessed
returns-clause-guessed c = facts.guessed
