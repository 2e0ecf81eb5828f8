use Rattle.sshwire.proofs.Tellings.{memory_of, none_refused, only, tells}
use Rattle.sshwire.proofs.peer_line_reader.PeerLineReader.feed.Goals as goal

pub returns-clause-tells : goal.returns-clause-tells
returns-clause-tells c = λ k received o. tells _ k received _ _ _ _ o c.advance.ensures.taken c.advance.ensures.reads

pub returns-clause-only : goal.returns-clause-only
returns-clause-only c = λ k received o. only _ k received _ _ _ _ o c.advance.ensures.taken c.advance.ensures.reads

pub returns-clause-memory : goal.returns-clause-memory
returns-clause-memory c = λ k received o e. none_refused _ k received _ _ _ _ o c.advance.ensures.reads (memory_of _ e)
