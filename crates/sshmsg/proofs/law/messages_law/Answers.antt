use Rattle.sshmsg.proofs.FormLemmas.{IsTypesLaw, message_complete, message_sound, one_message}
use Rattle.sshmsg.proofs.law.messages_law.Goals as goal

law : (c : goal.After-types_law) → IsTypesLaw
law c = record {
  boolean = c.types_law.ensures.boolean;
  uint32 = c.types_law.ensures.uint32;
  string = c.types_law.ensures.string;
  mpint = c.types_law.ensures.mpint;
  name_list = c.types_law.ensures.name_list;
}

pub returns-clause-sound : goal.returns-clause-sound
returns-clause-sound c = message_sound (law c)

pub returns-clause-complete : goal.returns-clause-complete
returns-clause-complete c = message_complete (law c)

pub returns-clause-one : goal.returns-clause-one
returns-clause-one c = one_message (law c)
