use Rattle.std.specs.Prelude.{string_bytes}
use Rattle.sshlab.specs.Told.{RunTells}
use Rattle.sshlab.proofs.ToldLemmas.{print_writes}
use Rattle.sshlab.proofs.program.answered.Goals as goal

pub returns-in_ok-run-in-Run-clause-answered : goal.returns-in_ok-run-in-Run-clause-answered
returns-in_ok-run-in-Run-clause-answered g c =
    let run = c.in_ok-run-in-Run.run' in
    let printed = c.print-in-Run.ensures in
    rw c.in-Run.is
    (print_writes (RunTells c.in-Run.session) (g.I.Source.remaining c.args.input.now) (g.O.Sink.contents c.args.output.now) (g.O.Sink.contents c.print-in-Run.new.output)
    (string_bytes run.text) run.status c.print-in-Run.result c.in_ok-run-in-Run.ensures.told printed.fault printed.status printed.whole printed.prefix)
