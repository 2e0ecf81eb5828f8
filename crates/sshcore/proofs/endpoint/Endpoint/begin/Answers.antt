use Rattle.std.proofs.Common.{[], refl}
use Rattle.sshcore.proofs.CallLemmas.{as_endpoint}
use Rattle.sshcore.proofs.endpoint.Endpoint.begin.Goals as goal

pub returns-clause-made : goal.returns-clause-made
returns-clause-made g c =
    let made = c.in_ok-asking.ensures.made in
    record {
      added = made.added;
      appended = made.appended;
      begins = as_endpoint g.S.Suite.meaning g.D.Decisions.policy c.args.decisions.now c.in_ok-asking.asking [] made.added made.waits_for_none (made.begins (g.D.Decisions.policy c.args.decisions.now));
      is_open = made.is_open;
      is_role = made.is_role;
      is_config = made.is_config;
      is_suite = made.is_suite;
      is_decisions = refl;
    }

pub invariant_of-result : goal.invariant_of-result
invariant_of-result g c = c.in_ok-asking.ensures.made.waits_for_none
