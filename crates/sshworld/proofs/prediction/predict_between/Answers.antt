use Rattle.std.proofs.Common.{◌∙◌, Err, Ok, ap, sym}
use Rattle.sshmsg.specs.View.{kexinit_data}
use Rattle.sshneg.specs.ChoiceReadings.{answer, choice}
use Rattle.sshcore.proofs.AgreeLemmas.{answered, named}
use Rattle.sshworld.specs.AlgorithmsView.{algorithms_named}
use Rattle.sshworld.specs.Outcome.{BothEnds}
use Rattle.sshworld.proofs.OutcomeLemmas.{both_ok, outcome_by}
use Rattle.sshworld.proofs.prediction.predict_between.Goals as goal

pub returns-in-Err : goal.returns-in-Err
returns-in-Err g c =
    let m = g.S.Suite.meaning c.args.suite.now in
    let d = g.D.Decisions.policy c.args.decisions.now in
    let client = kexinit_data c.args.of_client.now in
    let server = kexinit_data c.args.of_server.now in
    let is = outcome_by m d c.args.client.now c.args.server.now client server (Err c.in-Err.field) c.requires.client c.requires.server
    ((c.choice_law.ensures.refuses m client server c.in-Err.field).0 (sym c.choose.ensures.exact ∙ c.in-Err.is)) in
    record { outcome = (ap (λ (e : BothEnds). e.client) (sym is), ap (λ (e : BothEnds). e.server) (sym is)) }

pub returns-in-Ok : goal.returns-in-Ok
returns-in-Ok g c =
    let m = g.S.Suite.meaning c.args.suite.now in
    let d = g.D.Decisions.policy c.args.decisions.now in
    let client = kexinit_data c.args.of_client.now in
    let server = kexinit_data c.args.of_server.now in
    let chosen = c.in-Ok.chosen in
    let names = algorithms_named c.algorithms_at-names.result in
    let found = (c.choice_law.ensures.answers m client server chosen).0 (answered c.choose.result (answer m client server) chosen c.choose.ensures.exact c.in-Ok.is) in
    let choice_is = (c.choice_law.ensures.names m client server found.0).0 found.1 in
    let is = outcome_by m d c.args.client.now c.args.server.now client server (Ok names) c.requires.client c.requires.server
    (named client chosen names (choice m client server) (found.0, found.1, (c.choice_law.ensures.placed m client server found.0 chosen choice_is).1 found.2)
    (λ a. c.choice_law.ensures.stands client a chosen) c.algorithms_at-names.ensures.at) in
    record {
      outcome = both_ok c.predict_chosen.result (λ ends p q. (p ∙ ap (λ (e : BothEnds). e.client) (sym is), q ∙ ap (λ (e : BothEnds). e.server) (sym is)))
          c.predict_chosen.ensures.client c.predict_chosen.ensures.server;
    }
