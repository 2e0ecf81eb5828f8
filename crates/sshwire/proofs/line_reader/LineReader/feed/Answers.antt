use Rattle.sshwire.specs.declared.line_form.LineForm.TheVariants.{Strict}
use Rattle.sshwire.proofs.Tellings.{none_refused, only, tells}
use Rattle.sshwire.proofs.line_reader.LineReader.feed.Goals as goal

pub returns-clause-tells : goal.returns-clause-tells
returns-clause-tells c = λ k received o. tells Strict k received _ _ _ _ o c.advance.ensures.taken c.advance.ensures.reads

pub returns-clause-only : goal.returns-clause-only
returns-clause-only c = λ k received o. only Strict k received _ _ _ _ o c.advance.ensures.taken c.advance.ensures.reads

pub returns-clause-memory : goal.returns-clause-memory
returns-clause-memory c = λ k received o e. none_refused Strict k received _ _ _ _ o c.advance.ensures.reads e
