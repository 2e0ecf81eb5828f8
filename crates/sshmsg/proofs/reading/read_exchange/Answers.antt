use Rattle.sshmsg.proofs.reading.read_exchange.Goals as goal

pub returns-clause-only : goal.returns-clause-only
returns-clause-only c = λ m s. rw (← c.messages_law.ensures.complete c.args.form c.args.payload.now m s) c.read_payload.ensures.exact
