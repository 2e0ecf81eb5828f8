use Rattle.sshmsg.proofs.NumberLemmas.{message_number_tells, number_tells, octets_alike, reads_alike}
use Rattle.sshmsg.proofs.law.numbers_law.Goals as goal

pub returns : goal.returns
returns c = record { message_number = message_number_tells; starts = number_tells; alike = reads_alike; octets = octets_alike }
