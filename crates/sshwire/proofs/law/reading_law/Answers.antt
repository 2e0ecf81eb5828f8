use Rattle.std.proofs.Common.{[]}
use Rattle.sshwire.proofs.Readings.{reading-append, preamble_read}
use Rattle.sshwire.proofs.Refusals.{reading_sound, reading_complete, one_meaning, refused_within, preamble_after, refused_stays, refused_used}
use Rattle.sshwire.specs.declared.line_form.LineForm.TheVariants.{Strict}
use Rattle.sshwire.proofs.law.reading_law.Goals as goal

pub returns-clause-cut : goal.returns-clause-cut
returns-clause-cut c = λ k bytes more. reading-append Strict k [] bytes more

pub returns-clause-written : goal.returns-clause-written
returns-clause-written c = preamble_read Strict

pub returns-clause-sound : goal.returns-clause-sound
returns-clause-sound c = reading_sound Strict

pub returns-clause-complete : goal.returns-clause-complete
returns-clause-complete c = reading_complete Strict

pub returns-clause-one : goal.returns-clause-one
returns-clause-one c = one_meaning Strict

pub returns-clause-within : goal.returns-clause-within
returns-clause-within c = refused_within Strict

pub returns-clause-after : goal.returns-clause-after
returns-clause-after c = preamble_after Strict

pub returns-clause-stays : goal.returns-clause-stays
returns-clause-stays c = refused_stays Strict

pub returns-clause-used : goal.returns-clause-used
returns-clause-used c = refused_used Strict
