use Rattle.sshcore.proofs.record_making.state_of.Goals as goal

pub invariant_of-result : goal.invariant_of-result
invariant_of-result c = record {
  version_short = c.in_ok-exchange.ensures.version;
  kexinit_short = c.in_ok-exchange.ensures.kexinit;
  asked = c.in_ok-exchange.ensures.asks;
  chosen = c.in_ok-exchange.ensures.chosen;
  session_short = c.in_ok-exchange.ensures.session;
  granted = λ _. c.in_ok-authentication.ensures.granted;
  accepted = tt;
}
