use Rattle.sshmsg.proofs.SizeLemmas.{spelled_length, written_length}
use Rattle.sshmsg.proofs.law.lengths_law.Goals as goal

pub returns : goal.returns
returns c = record { spelled = spelled_length; written = written_length }
