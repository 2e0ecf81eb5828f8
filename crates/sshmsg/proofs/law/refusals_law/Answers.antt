use Rattle.sshmsg.proofs.NumberLemmas.{refused_complete, refused_sound}
use Rattle.sshmsg.proofs.law.refusals_law.Goals as goal

pub returns-clause-sound : goal.returns-clause-sound
returns-clause-sound c = refused_sound c.messages_law.ensures.complete

pub returns-clause-complete : goal.returns-clause-complete
returns-clause-complete c = refused_complete c.messages_law.ensures.sound
