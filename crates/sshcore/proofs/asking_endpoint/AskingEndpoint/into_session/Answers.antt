use Rattle.std.proofs.Common.{ap, refl, sym, ◌∙◌}
use Rattle.sshpacket.specs.PacketReaderData.{packet_reader_data}
use Rattle.sshcore.specs.EndpointConfig.{config_data, role_of, setup_of}
use Rattle.sshcore.specs.EndData.{agreed_data, end_data}
use Rattle.sshcore.specs.StateData.{state_data}
use Rattle.sshcore.specs.WaitingView.{waiting_of}
use Rattle.sshcore.proofs.AskingLemmas.{asks_nothing, unread_none}
use Rattle.sshcore.proofs.LawsBelow.{Below}
use Rattle.sshcore.proofs.SessionLemmas.{authenticated_at, hands_on, hands_over, none_left, packets_at, session_is}
use Rattle.sshcore.proofs.asking_endpoint.AskingEndpoint.into_session.Goals as goal

pub returns-clause-session : goal.returns-clause-session
returns-clause-session g c =
    let below : Below = record { numbers = c.numbers_law.ensures.message_number; alike = c.numbers_law.ensures.alike; right = c.markers_law.ensures.right } in
    let m = g.S.Suite.meaning c.self.inside.suite.now in
    let kept = state_data c.self.inside.state in
    let i = c.self.inside.input in
    let w = waiting_of c.self.inside.waiting in
    rw (← c.self.view_is) (λ d h s p a is.
    let setup = setup_of m d c.self.inside.config in
    let x = p.stands in
    let unread = unread_none m p.reader i p.earlier h w (asks_nothing m (role_of c.self.inside.config) (config_data c.self.inside.config) kept i w c.self.invariant a is) p.unread in
    let packets = packets_at below setup kept p.reader p.earlier s x a is in
    let end = authenticated_at c.self.inside.state.end a is in
    let at = sym unread.0 ∙ packets.1 in
    let told = session_is setup x.units x.answers x.sizes x.rest (packet_reader_data packets.0) kept.sending
    (hands_over below setup kept p.reader packets.0 packets.1 p.earlier s x a is) (none_left below setup kept p.reader p.earlier s x a is)
    end.0 a (ap end_data (sym end.1) ∙ is)
    c.self.inside.state.own_version c.self.inside.state.version c.self.inside.state.host_key c.accepted_by-accepted.result
    (hands_on below setup kept p.reader p.earlier s x a is c.accepted_by-accepted.result c.self.inside.state.user_key refl
    (λ e. c.accepted_by-accepted.ensures.client (c.role-role.ensures ∙ e)) (λ e. c.accepted_by-accepted.ensures.server (c.role-role.ensures ∙ e)))
    c.into_keys.result.0 c.into_keys.result.1 (c.into_keys.ensures.keys packets.0 at) (c.into_keys.ensures.number packets.0 at)
    c.session_of.result (λ x y reads output. c.session_of.ensures.whole end.0 x y (c.into_agreed.ensures.some end.0 end.1) reads output) in
    (told.0, told.1, told.2, told.3, unread.1))

pub returns-clause-none : goal.returns-clause-none
returns-clause-none g c = rw (← c.self.view_is) (λ not. c.session_of.ensures.none (c.into_agreed.ensures.none (λ x e. not (agreed_data x) (ap end_data e))))
