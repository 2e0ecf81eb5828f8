use Rattle.sshlab.specs.Told.{PredictTells, RunTells}
use Rattle.sshlab.proofs.ToldLemmas.{done_prints, refused_prints}
use Rattle.sshlab.proofs.program.tool.Goals as goal

pub returns-in-Ok-clause-predict : goal.returns-in-Ok-clause-predict
returns-in-Ok-clause-predict g c first =
    done_prints PredictTells (g.I.Source.remaining c.args.input.now) (g.O.Sink.contents c.args.output.now) (g.O.Sink.contents c.done.new.output)
    (g.O.Sink.has_failed c.done.new.output) c.in-Ok.status c.done.result c.in-Ok.is c.done.ensures.write (c.done.ensures.predict first)

pub returns-in-Ok-clause-run : goal.returns-in-Ok-clause-run
returns-in-Ok-clause-run g c first =
    done_prints RunTells (g.I.Source.remaining c.args.input.now) (g.O.Sink.contents c.args.output.now) (g.O.Sink.contents c.done.new.output)
    (g.O.Sink.has_failed c.done.new.output) c.in-Ok.status c.done.result c.in-Ok.is c.done.ensures.write (c.done.ensures.run first)

pub returns-in-Err-clause-predict : goal.returns-in-Err-clause-predict
returns-in-Err-clause-predict g c first =
    refused_prints PredictTells (g.I.Source.remaining c.args.input.now) (g.O.Sink.contents c.args.output.now) (g.O.Sink.contents c.done.new.output)
    (g.O.Sink.has_failed c.done.new.output) c.refuse.result c.done.result c.in-Err.fault c.in-Err.is c.refuse.ensures c.done.ensures.write (c.done.ensures.predict first)

pub returns-in-Err-clause-run : goal.returns-in-Err-clause-run
returns-in-Err-clause-run g c first =
    refused_prints RunTells (g.I.Source.remaining c.args.input.now) (g.O.Sink.contents c.args.output.now) (g.O.Sink.contents c.done.new.output)
    (g.O.Sink.has_failed c.done.new.output) c.refuse.result c.done.result c.in-Err.fault c.in-Err.is c.refuse.ensures c.done.ensures.write (c.done.ensures.run first)
