use Rattle.sshcore.proofs.FormLemmas.{formless}
use Rattle.sshcore.proofs.StandingLemmas as standing
use Rattle.sshcore.proofs.TableLemmas as table
use Rattle.sshcore.proofs.law.standing_law.Goals as goal

pub returns-clause-begins : goal.returns-clause-begins
returns-clause-begins c = standing.begins

pub returns-clause-replies : goal.returns-clause-replies
returns-clause-replies c = standing.replies

pub returns-clause-offers : goal.returns-clause-offers
returns-clause-offers c = λ setup version before payload.
    standing.offers setup version before payload (record { numbers = c.numbers_law.ensures.message_number; alike = c.numbers_law.ensures.alike; right = c.markers_law.ensures.right })

pub returns-clause-drops : goal.returns-clause-drops
returns-clause-drops c = standing.drops

pub returns-clause-exchanges : goal.returns-clause-exchanges
returns-clause-exchanges c = standing.exchanges

pub returns-clause-leaves : goal.returns-clause-leaves
returns-clause-leaves c = standing.leaves

pub returns-clause-stays : goal.returns-clause-stays
returns-clause-stays c = standing.stays

pub returns-clause-quiet : goal.returns-clause-quiet
returns-clause-quiet c = table.quiet

pub returns-clause-makes_keys : goal.returns-clause-makes_keys
returns-clause-makes_keys c = standing.makes_keys

pub returns-clause-keeps_keys : goal.returns-clause-keeps_keys
returns-clause-keeps_keys c = standing.keeps_keys

pub returns-clause-counts_anew : goal.returns-clause-counts_anew
returns-clause-counts_anew c = standing.counts_anew

pub returns-clause-counts_on : goal.returns-clause-counts_on
returns-clause-counts_on c = standing.counts_on

pub returns-clause-formless : goal.returns-clause-formless
returns-clause-formless c =
    formless (record { numbers = c.numbers_law.ensures.message_number; alike = c.numbers_law.ensures.alike; right = c.markers_law.ensures.right })
