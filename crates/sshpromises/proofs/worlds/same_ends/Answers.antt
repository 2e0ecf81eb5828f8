use Rattle.sshpromises.proofs.WorldLemmas.{client_same, server_same}
use Rattle.sshpromises.proofs.worlds.same_ends.Goals as goal

pub returns-clause-client : goal.returns-clause-client
returns-clause-client g c =
    let r = c.requires in
    client_same g.S.Suite.meaning g.D.Decisions.policy c.args.one.now c.args.other.now r.client r.server r.suite r.decisions
    r.compatible r.one_had r.other_had c.complete.ensures.holds.headline c.complete-2.ensures.holds.headline r.one_complete r.other_complete

pub returns-clause-server : goal.returns-clause-server
returns-clause-server g c =
    let r = c.requires in
    server_same g.S.Suite.meaning g.D.Decisions.policy c.args.one.now c.args.other.now r.client r.server r.suite r.decisions
    r.compatible r.one_had r.other_had c.complete.ensures.holds.headline c.complete-2.ensures.holds.headline r.one_complete r.other_complete

pub returns-clause-together : goal.returns-clause-together
returns-clause-together g c = (c.complete.ensures.holds.headline c.requires.compatible c.requires.one_had).together c.requires.one_complete

pub returns-clause-ended : goal.returns-clause-ended
returns-clause-ended g c = (c.complete.ensures.holds.headline c.requires.compatible c.requires.one_had).both_ended c.requires.one_complete
