use Rattle.sshlab.proofs.ToldLemmas.{predict_answered, run_answered}
use Rattle.sshlab.proofs.program.done.Goals as goal

pub returns-clause-predict : goal.returns-clause-predict
returns-clause-predict g c =
    predict_answered c.args.words.now c.in_ok-request.request (g.I.Source.remaining c.args.input.now) (g.O.Sink.contents c.args.output.now)
    (g.O.Sink.contents c.answered.new.output) c.answered.result c.in_ok-request.ensures.first c.answered.ensures.answered

pub returns-clause-run : goal.returns-clause-run
returns-clause-run g c =
    run_answered c.args.words.now c.in_ok-request.request (g.I.Source.remaining c.args.input.now) (g.O.Sink.contents c.args.output.now)
    (g.O.Sink.contents c.answered.new.output) c.answered.result c.in_ok-request.ensures.first c.answered.ensures.answered
