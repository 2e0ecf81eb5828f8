use Rattle.sshcore.proofs.SendingLemmas.{none_sent, number_next, switched_push}
use Rattle.sshcore.proofs.StreamLemmas.{sent_stays, unready}
use Rattle.sshcore.proofs.law.sending_law.Goals as goal

pub returns : goal.returns
returns c = record { nothing = none_sent; switches = switched_push; counts = number_next; unswitched = unready; stays = sent_stays }
