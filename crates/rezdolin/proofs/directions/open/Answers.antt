use Rattle.std.proofs.Common.{◌∙◌, Some, subst, take}
use Rattle.sshpacket.specs.PacketReaderData.{PacketReaderData, packet_reader_data}
use Rattle.sshpacket.specs.Parse.{protection}
use Rattle.sshpacket.specs.ProtectedPacket.{IsProtectedPacket}
use Rattle.sshpacket.specs.Suite.{advanced}
use Rattle.sshsuite.specs.Deployed.{deployed}
use Rattle.rezdolin.proofs.DirectionLemmas.{before_next, opened_by, reads_on_by, same_keys}
use Rattle.rezdolin.proofs.directions.open.Goals as goal
use Rattle.rezdolin.proofs.directions.open.Goals.{in-Some, in_default}

pub raise-requires-clause-state : goal.raise-requires-clause-state
raise-requires-clause-state c =
    let now = c.in_ok-now.now in
    let used = c.in_ok-opening.opening.used in
    let on = reads_on_by now.keys now.place.number used (packet_reader_data c.with_keys-reader.result) (packet_reader_data c.opened.new.reader) c.keys.result.now
    c.with_keys-reader.ensures.state c.in_ok-opening.ensures.next c.keys.ensures in
    before_next now.place used now.keys c.in-Some.keys c.args.state.now c.in_ok-now.ensures.0
    (same_keys (advanced deployed now.keys used) c.in-Some.keys c.keys.result.now c.in-Some.is on)

pub returns-clause-opened : goal.returns-clause-opened
returns-clause-opened c =
    let now = c.in_ok-now.now in
    let used = c.in_ok-opening.opening.used in
    let found = c.in_ok-opening.ensures.opened in
    let on = reads_on_by now.keys now.place.number used (packet_reader_data c.with_keys-reader.result) (packet_reader_data c.opened.new.reader) c.keys.result.now
    c.with_keys-reader.ensures.state c.in_ok-opening.ensures.next c.keys.ensures in
    let packet : IsProtectedPacket (protection deployed (Some now.keys) now.place.number) found.0 (take used c.args.received.now)
    = subst (λ (d : PacketReaderData). IsProtectedPacket (protection deployed d.keys d.seq) found.0 (take used c.args.received.now)) c.with_keys-reader.ensures.state found.2 in
    elim c.match-keys.branch [
      | in-Some w ↦ opened_by now.place now.keys w.in-Some.keys c.args.state.now c.match-keys.state c.args.received.now found.0 c.args.out.now c.opened.new.out
          used c.in_ok-opening.opening.len c.in_ok-now.ensures.0 c.in_ok-now.ensures.1 c.in_ok-now.ensures.2
          (same_keys (advanced deployed now.keys used) w.in-Some.keys c.keys.result.now w.in-Some.is on) (w.state-is ∙ w.raise.ensures) c.in_ok-opening.ensures.within found.1 packet
      | in_default w ↦ absurd (w.in_default.not-Some (advanced deployed now.keys used) on)
    ]
