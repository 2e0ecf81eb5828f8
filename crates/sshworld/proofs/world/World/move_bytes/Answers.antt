use Rattle.std.proofs.Common.{◌≢◌, ◌≡◌, Ok, min, IfOk, OnErr}
use Rattle.sshcore.specs.EndData.{Open}
use Rattle.sshneg.specs.declared.side.Side.TheVariants.{Client, Server}
use Rattle.sshworld.specs.Deliveries.{Refused}
use Rattle.sshworld.specs.Nodes.{seen}
use Rattle.sshworld.specs.WorldRounds.{Keeps, Moves}
use Rattle.sshworld.specs.Worlds.{node_at, waiting_for}
use Rattle.sshworld.proofs.DeliveryLemmas.{as_seen}
use Rattle.sshworld.proofs.MoveLemmas.{moved_by, moved_into, moved_keeps, moved_none, moved_world}
use Rattle.sshworld.proofs.world.World.move_bytes.Goals as goal

pub invariant_of-self : goal.invariant_of-self
invariant_of-self g c =
    let i = c.self.inside in
    moved_world g.S.Suite.meaning g.D.Decisions.policy i.client_config i.server_config i.suite.now i.decisions.now c.below_law.ensures.laws c.course_receiving_law.ensures.receive (g.met.S.Suite.lawful i.suite.now)
    Client i.client i.server c.receive.new.self c.deref.result.now c.deref.ensures.value c.args.count c.receive.result c.receive.ensures.takes c.receive.ensures.count c.receive.ensures.broken c.self.invariant

pub returns-in-Client-clause-moves : goal.returns-in-Client-clause-moves
returns-in-Client-clause-moves g c =
    let i = c.self.inside in
    as_seen (λ s w. IfOk c.receive.result (λ n. Moves s c.args.count n w (seen i.client_config i.server_config i.suite.now i.decisions.now c.receive.new.self i.server))) c.args.to Client c.args.self.now
    (seen i.client_config i.server_config i.suite.now i.decisions.now i.client i.server) c.in-Client.is c.self.view_is
    (moved_by g.S.Suite.meaning g.D.Decisions.policy i.client_config i.server_config i.suite.now i.decisions.now c.below_law.ensures.laws c.course_receiving_law.ensures.receive (g.met.S.Suite.lawful i.suite.now)
    Client i.client i.server c.receive.new.self c.deref.result.now c.deref.ensures.value c.args.count c.receive.result c.receive.ensures.takes c.receive.ensures.count c.receive.ensures.broken c.self.invariant)

pub returns-in-Client-clause-refused : goal.returns-in-Client-clause-refused
returns-in-Client-clause-refused g c =
    let i = c.self.inside in
    as_seen (λ s w. OnErr c.receive.result (Refused g.S.Suite.meaning g.D.Decisions.policy s (min c.args.count (waiting_for s w)) w (seen i.client_config i.server_config i.suite.now i.decisions.now c.receive.new.self i.server))) c.args.to Client c.args.self.now
    (seen i.client_config i.server_config i.suite.now i.decisions.now i.client i.server) c.in-Client.is c.self.view_is
    (moved_into g.S.Suite.meaning g.D.Decisions.policy i.client_config i.server_config i.suite.now i.decisions.now c.below_law.ensures.laws c.course_receiving_law.ensures.receive (g.met.S.Suite.lawful i.suite.now)
    Client i.client i.server c.receive.new.self c.deref.result.now c.deref.ensures.value c.args.count c.receive.result c.receive.ensures.takes c.receive.ensures.count c.receive.ensures.broken c.self.invariant)

pub returns-in-Client-clause-ended : goal.returns-in-Client-clause-ended
returns-in-Client-clause-ended g c =
    let i = c.self.inside in
    as_seen (λ s w. (node_at s w).end ≢ Open → (c.receive.result ≡ Ok 0) × ((seen i.client_config i.server_config i.suite.now i.decisions.now c.receive.new.self i.server) ≡ w)) c.args.to Client c.args.self.now
    (seen i.client_config i.server_config i.suite.now i.decisions.now i.client i.server) c.in-Client.is c.self.view_is
    (moved_none g.S.Suite.meaning g.D.Decisions.policy i.client_config i.server_config i.suite.now i.decisions.now c.below_law.ensures.laws c.course_receiving_law.ensures.receive (g.met.S.Suite.lawful i.suite.now)
    Client i.client i.server c.receive.new.self c.deref.result.now c.deref.ensures.value c.args.count c.receive.result c.receive.ensures.takes c.receive.ensures.count c.receive.ensures.broken c.self.invariant)

pub returns-in-Client-clause-keeps : goal.returns-in-Client-clause-keeps
returns-in-Client-clause-keeps g c =
    let i = c.self.inside in
    as_seen (λ s w. Keeps g.S.Suite.meaning g.D.Decisions.policy w (seen i.client_config i.server_config i.suite.now i.decisions.now c.receive.new.self i.server)) c.args.to Client c.args.self.now
    (seen i.client_config i.server_config i.suite.now i.decisions.now i.client i.server) c.in-Client.is c.self.view_is
    (moved_keeps g.S.Suite.meaning g.D.Decisions.policy i.client_config i.server_config i.suite.now i.decisions.now c.below_law.ensures.laws c.course_receiving_law.ensures.receive (g.met.S.Suite.lawful i.suite.now)
    Client i.client i.server c.receive.new.self c.deref.result.now c.deref.ensures.value c.args.count c.receive.result c.receive.ensures.takes c.receive.ensures.count c.receive.ensures.broken c.self.invariant)

pub invariant_of-self-in-Server : goal.invariant_of-self-in-Server
invariant_of-self-in-Server g c =
    let i = c.self.inside in
    moved_world g.S.Suite.meaning g.D.Decisions.policy i.client_config i.server_config i.suite.now i.decisions.now c.below_law.ensures.laws c.course_receiving_law.ensures.receive (g.met.S.Suite.lawful i.suite.now)
    Server i.server i.client c.receive-in-Server.new.self c.deref-in-Server.result.now c.deref-in-Server.ensures.value c.args.count c.receive-in-Server.result c.receive-in-Server.ensures.takes c.receive-in-Server.ensures.count c.receive-in-Server.ensures.broken c.self.invariant

pub returns-in-Server-clause-moves : goal.returns-in-Server-clause-moves
returns-in-Server-clause-moves g c =
    let i = c.self.inside in
    as_seen (λ s w. IfOk c.receive-in-Server.result (λ n. Moves s c.args.count n w (seen i.client_config i.server_config i.suite.now i.decisions.now i.client c.receive-in-Server.new.self))) c.args.to Server c.args.self.now
    (seen i.client_config i.server_config i.suite.now i.decisions.now i.client i.server) c.in-Server.is c.self.view_is
    (moved_by g.S.Suite.meaning g.D.Decisions.policy i.client_config i.server_config i.suite.now i.decisions.now c.below_law.ensures.laws c.course_receiving_law.ensures.receive (g.met.S.Suite.lawful i.suite.now)
    Server i.server i.client c.receive-in-Server.new.self c.deref-in-Server.result.now c.deref-in-Server.ensures.value c.args.count c.receive-in-Server.result c.receive-in-Server.ensures.takes c.receive-in-Server.ensures.count c.receive-in-Server.ensures.broken c.self.invariant)

pub returns-in-Server-clause-refused : goal.returns-in-Server-clause-refused
returns-in-Server-clause-refused g c =
    let i = c.self.inside in
    as_seen (λ s w. OnErr c.receive-in-Server.result (Refused g.S.Suite.meaning g.D.Decisions.policy s (min c.args.count (waiting_for s w)) w (seen i.client_config i.server_config i.suite.now i.decisions.now i.client c.receive-in-Server.new.self))) c.args.to Server c.args.self.now
    (seen i.client_config i.server_config i.suite.now i.decisions.now i.client i.server) c.in-Server.is c.self.view_is
    (moved_into g.S.Suite.meaning g.D.Decisions.policy i.client_config i.server_config i.suite.now i.decisions.now c.below_law.ensures.laws c.course_receiving_law.ensures.receive (g.met.S.Suite.lawful i.suite.now)
    Server i.server i.client c.receive-in-Server.new.self c.deref-in-Server.result.now c.deref-in-Server.ensures.value c.args.count c.receive-in-Server.result c.receive-in-Server.ensures.takes c.receive-in-Server.ensures.count c.receive-in-Server.ensures.broken c.self.invariant)

pub returns-in-Server-clause-ended : goal.returns-in-Server-clause-ended
returns-in-Server-clause-ended g c =
    let i = c.self.inside in
    as_seen (λ s w. (node_at s w).end ≢ Open → (c.receive-in-Server.result ≡ Ok 0) × ((seen i.client_config i.server_config i.suite.now i.decisions.now i.client c.receive-in-Server.new.self) ≡ w)) c.args.to Server c.args.self.now
    (seen i.client_config i.server_config i.suite.now i.decisions.now i.client i.server) c.in-Server.is c.self.view_is
    (moved_none g.S.Suite.meaning g.D.Decisions.policy i.client_config i.server_config i.suite.now i.decisions.now c.below_law.ensures.laws c.course_receiving_law.ensures.receive (g.met.S.Suite.lawful i.suite.now)
    Server i.server i.client c.receive-in-Server.new.self c.deref-in-Server.result.now c.deref-in-Server.ensures.value c.args.count c.receive-in-Server.result c.receive-in-Server.ensures.takes c.receive-in-Server.ensures.count c.receive-in-Server.ensures.broken c.self.invariant)

pub returns-in-Server-clause-keeps : goal.returns-in-Server-clause-keeps
returns-in-Server-clause-keeps g c =
    let i = c.self.inside in
    as_seen (λ s w. Keeps g.S.Suite.meaning g.D.Decisions.policy w (seen i.client_config i.server_config i.suite.now i.decisions.now i.client c.receive-in-Server.new.self)) c.args.to Server c.args.self.now
    (seen i.client_config i.server_config i.suite.now i.decisions.now i.client i.server) c.in-Server.is c.self.view_is
    (moved_keeps g.S.Suite.meaning g.D.Decisions.policy i.client_config i.server_config i.suite.now i.decisions.now c.below_law.ensures.laws c.course_receiving_law.ensures.receive (g.met.S.Suite.lawful i.suite.now)
    Server i.server i.client c.receive-in-Server.new.self c.deref-in-Server.result.now c.deref-in-Server.ensures.value c.args.count c.receive-in-Server.result c.receive-in-Server.ensures.takes c.receive-in-Server.ensures.count c.receive-in-Server.ensures.broken c.self.invariant)
