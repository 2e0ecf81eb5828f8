use Rattle.std.proofs.Common.{ap, subst}
use Rattle.sshcore.specs.EndData.{Authenticated, by_owner}
use Rattle.sshcore.specs.Endpoints.{endpoint_end}
use Rattle.sshcore.specs.Replies.{Ends}
use Rattle.sshcore.specs.EndpointData.{endpoint_setup}
use Rattle.sshcore.proofs.EndpointLemmas.{as_received, authenticated_strictly, cut_open, joined_ends, joined_received}
use Rattle.sshcore.proofs.SessionLemmas.{uncut_end}
use Rattle.sshcore.proofs.endpoint_laws.endpoint_law.Goals as goal

pub returns-clause-joined : goal.returns-clause-joined
returns-clause-joined g c = joined_ends g.S.Suite.meaning g.D.Decisions.policy c.history_law.ensures.joined c.args.one.now c.args.other.now

pub returns-clause-joined_received : goal.returns-clause-joined_received
returns-clause-joined_received g c = joined_received g.S.Suite.meaning g.D.Decisions.policy c.history_law.ensures.joined c.args.one.now c.args.other.now

pub returns-clause-strict : goal.returns-clause-strict
returns-clause-strict g c = λ h s a.
    c.strict_law.ensures.keeps (endpoint_setup g.S.Suite.meaning g.D.Decisions.policy c.args.one.now) a.units a.refusal a.received_end
    a.history.replies.ends

pub returns-clause-received : goal.returns-clause-received
returns-clause-received g c = λ h s a uncut. as_received a.received_end (endpoint_end c.args.one.now) a.ends uncut

pub returns-clause-cut : goal.returns-clause-cut
returns-clause-cut g c = λ h s a cut.
    cut_open (endpoint_setup g.S.Suite.meaning g.D.Decisions.policy c.args.one.now) a.units a.refusal a.received_end
    (endpoint_end c.args.one.now) a.history.replies.ends a.ends (ap by_owner cut)

pub returns-clause-left : goal.returns-clause-left
returns-clause-left g c = λ h s a reason left.
    cut_open (endpoint_setup g.S.Suite.meaning g.D.Decisions.policy c.args.one.now) a.units a.refusal a.received_end
    (endpoint_end c.args.one.now) a.history.replies.ends a.ends (ap by_owner left)

pub returns-clause-authenticated : goal.returns-clause-authenticated
returns-clause-authenticated g c = λ h s a agreed is.
    let setup = endpoint_setup g.S.Suite.meaning g.D.Decisions.policy c.args.one.now in
    let ends = subst (Ends setup a.units a.refusal) (uncut_end a.received_end (endpoint_end c.args.one.now) agreed a.ends is) a.history.replies.ends in
    let authenticated = c.authentication_law.ensures.authenticated setup a.units a.refusal agreed ends in
    (authenticated, authenticated_strictly setup a.units agreed (Authenticated agreed) (c.strict_law.ensures.keeps setup a.units a.refusal (Authenticated agreed) ends) authenticated)
