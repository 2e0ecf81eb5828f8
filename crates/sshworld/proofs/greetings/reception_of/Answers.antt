use Rattle.sshworld.proofs.ReceiverLemmas.{done_follows}
use Rattle.sshworld.proofs.greetings.reception_of.Goals as goal

pub returns-in-Ok-More-clause-follows : goal.returns-in-Ok-More-clause-follows
returns-in-Ok-More-clause-follows c =
    let e = rw c.in-Ok-More.field-0-is at c.in-Ok-More.ensures in
    λ k received count o. ((e.tells k received o).0, count)

pub returns-in-Ok-Done-clause-follows : goal.returns-in-Ok-Done-clause-follows
returns-in-Ok-Done-clause-follows c =
    let e = rw c.in-Ok-Done.field-0-is at c.in-Ok-Done.ensures in
    λ k received count o. done_follows k received c.args.piece.now c.in-Ok-Done.version _ (e.tells k received o).1

pub returns-in_default : goal.returns-in_default
returns-in_default c = record {
  may_read = tt;
  follows = λ k received count o. let t = (c.in-Err.ensures.tells k received o).0 c.in_default.not-Memory in (t.0, t.2);
}
