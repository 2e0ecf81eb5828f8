use Rattle.sshmsg.specs.View.{kexinit_data}
use Rattle.sshneg.specs.ChoiceReadings.{answer, choice}
use Rattle.sshneg.specs.Strictness.{is_right_guess}
use Rattle.sshcore.proofs.AgreeLemmas.{answered, named, same_test}
use Rattle.sshcore.proofs.kex_init.agree.Goals as goal

pub returns-in_ok-algorithms-in-Ok : goal.returns-in_ok-algorithms-in-Ok
returns-in_ok-algorithms-in-Ok g c =
    let m = g.S.Suite.meaning c.args.suite.now in
    let client = kexinit_data c.args.client.now in
    let server = kexinit_data c.args.server.now in
    let chosen = c.in-Ok.chosen in
    let found = (c.choice_law.ensures.answers m client server chosen).0 (answered c.choose.result (answer m client server) chosen c.choose.ensures.exact c.in-Ok.is) in
    let is = (c.choice_law.ensures.names m client server found.0).0 found.1 in (
      named client chosen c.in_ok-algorithms-in-Ok.algorithms (choice m client server)
          (found.0, found.1, (c.choice_law.ensures.placed m client server found.0 chosen is).1 found.2)
          (λ a. c.choice_law.ensures.stands client a chosen) c.in_ok-algorithms-in-Ok.ensures,
      rw (← c.kex.ensures.kex) c.share_form-shares.ensures,
      same_test c.guess_right-right.result (is_right_guess client server) c.guess_right-right.ensures (c.markers_law.ensures.right client server),
    )
