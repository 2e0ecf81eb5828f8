use Rattle.sshpacket.proofs.Streams.{link, link_all, link_sizes, one_reading, read_more, read_push, received_front, received_more, received_none, received_part, received_push, received_refusal, received_unit, sent_append, sent_push, sent_received, sent_same}
use Rattle.sshpacket.proofs.stream_laws.stream_law.Goals as goal

pub returns-clause-one : goal.returns-clause-one
returns-clause-one c = one_reading

pub returns-clause-nothing : goal.returns-clause-nothing
returns-clause-nothing c = received_none

pub returns-clause-read_more : goal.returns-clause-read_more
returns-clause-read_more c = read_more

pub returns-clause-read_push : goal.returns-clause-read_push
returns-clause-read_push c = read_push

pub returns-clause-received_more : goal.returns-clause-received_more
returns-clause-received_more c = received_more

pub returns-clause-received_push : goal.returns-clause-received_push
returns-clause-received_push c = received_push

pub returns-clause-received_unit : goal.returns-clause-received_unit
returns-clause-received_unit c = received_unit

pub returns-clause-received_refusal : goal.returns-clause-received_refusal
returns-clause-received_refusal c = received_refusal

pub returns-clause-received_part : goal.returns-clause-received_part
returns-clause-received_part c = received_part

pub returns-clause-prefix : goal.returns-clause-prefix
returns-clause-prefix c = received_front

pub returns-clause-link : goal.returns-clause-link
returns-clause-link c = λ parsers spells each. link parsers each spells

pub returns-clause-again : goal.returns-clause-again
returns-clause-again c = λ parsers spells each. sent_received parsers each spells

pub returns-clause-sizes : goal.returns-clause-sizes
returns-clause-sizes c = λ parsers spells each. link_sizes parsers each spells

pub returns-clause-all : goal.returns-clause-all
returns-clause-all c = λ parsers spells each. link_all parsers each spells

pub returns-clause-sent_push : goal.returns-clause-sent_push
returns-clause-sent_push c = sent_push

pub returns-clause-sent_append : goal.returns-clause-sent_append
returns-clause-sent_append c = sent_append

pub returns-clause-sent_same : goal.returns-clause-sent_same
returns-clause-sent_same c = sent_same
