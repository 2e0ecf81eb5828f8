use Rattle.std.proofs.Common.{[]}
use Rattle.sshwire.proofs.DeployedText.{client_text, deployed_from_test, deployed_tested}
use Rattle.sshwire.proofs.Readings.{reading-append, preamble_read}
use Rattle.sshwire.proofs.Refusals.{reading_sound, reading_complete, one_meaning, refused_within, preamble_after, refused_stays, refused_strictly, refused_used, preamble_wider, read_wider}
use Rattle.sshwire.proofs.law.reading_by_law.Goals as goal

pub returns-clause-cut : goal.returns-clause-cut
returns-clause-cut c = λ form k bytes more. reading-append form k [] bytes more

pub returns-clause-written : goal.returns-clause-written
returns-clause-written c = preamble_read

pub returns-clause-sound : goal.returns-clause-sound
returns-clause-sound c = reading_sound

pub returns-clause-complete : goal.returns-clause-complete
returns-clause-complete c = reading_complete

pub returns-clause-one : goal.returns-clause-one
returns-clause-one c = one_meaning

pub returns-clause-within : goal.returns-clause-within
returns-clause-within c = refused_within

pub returns-clause-after : goal.returns-clause-after
returns-clause-after c = preamble_after

pub returns-clause-stays : goal.returns-clause-stays
returns-clause-stays c = refused_stays

pub returns-clause-used : goal.returns-clause-used
returns-clause-used c = refused_used

pub returns-clause-wider_preamble : goal.returns-clause-wider_preamble
returns-clause-wider_preamble c = preamble_wider

pub returns-clause-wider : goal.returns-clause-wider
returns-clause-wider c = read_wider

pub returns-clause-refuses : goal.returns-clause-refuses
returns-clause-refuses c = refused_strictly

pub returns-clause-widest : goal.returns-clause-widest
returns-clause-widest c = client_text

pub returns-clause-text : goal.returns-clause-text
returns-clause-text c = λ by text. (deployed_from_test by text, deployed_tested by text)
