use Rattle.std.proofs.Common.{refl}
use Rattle.sshmsg.specs.Written.{kexinit_payload, written_message}
use Rattle.sshmsg.proofs.WrittenLemmas.{written_spells}
use Rattle.sshmsg.proofs.law.written_law.Goals as goal

pub returns-clause-spells : goal.returns-clause-spells
returns-clause-spells c = written_spells

pub returns-clause-again : goal.returns-clause-again
returns-clause-again c = λ form m o h. c.messages_law.ensures.complete form (written_message m) m (written_spells form m o h)

pub returns-clause-kexinit : goal.returns-clause-kexinit
unfolding kexinit_payload written_message
returns-clause-kexinit c = λ offer. refl
