use Rattle.std.proofs.Common.{◌≡◌, ℕ, ◌+◌, Err, Ok, Result, refl, arith, ap, sym, subst}
use Rattle.sshpacket.specs.declared.fault.PacketFault.{PacketFault}
use Rattle.sshpacket.specs.declared.reader.PacketStep.{PacketStep}
use Rattle.sshpacket.specs.PacketReaderData.{ReaderLeaves, last_used, packet_reader_data}
use Rattle.sshcore.specs.declared.link_fault.LinkFault.{LinkFault}
use Rattle.sshcore.specs.Linked.{Incoming, LinkLeaves, OnlyOpenAnswer, OpenAnswer, fault_by, incoming_of, outgoing_of, packet_ended}
use Rattle.sshcore.proofs.LinkLemmas.{leaves_of, none_found, only_of, tells_of}
use Rattle.sshcore.proofs.link.Link.next.Goals as goal

pub returns-in-Ok : goal.returns-in-Ok
unfolding incoming_of outgoing_of
returns-in-Ok g c =
    let m = g.S.Suite.meaning c.args.suite.now in
    let i : Incoming = incoming_of c.args.self.now in
    let piece = c.args.piece.now in
    let new : Incoming = incoming_of (record c.args.self.now { reader = c.next.follows.lender-at-none; opened = c.opened-opened.result }) in
    let answer : Result PacketStep PacketFault = Ok c.in-Ok.step in (
      (
        refl,
        λ _. tt,
        (
          refl,
          none_found _ (packet_reader_data c.args.self.now.reader).fault c.fault.result c.fault.ensures c.in_default.not-Some,
          λ up. absurd (omega (arith, up, c.opened-opened.ensures, c.if-opened.false)),
          λ low waits. leaves_of m i piece answer new
              (subst (λ (r : Result PacketStep PacketFault). ReaderLeaves m (packet_reader_data i.reader) piece r new.reader) c.in-Ok.is (c.next.follows.holds-at-none.0 waits))
              c.in-Ok.ensures.uses
              (ap (λ (n : ℕ). n + packet_ended (packet_reader_data new.reader).held (last_used new.reader)) c.opened-opened.ensures),
        ),
      ),
      record {
        used_up = λ up unfaulted. absurd (omega (arith, up, c.opened-opened.ensures, c.if-opened.false));
        tells = λ low waits. tells_of m i piece answer (c.in-Ok.ensures.tells waits);
        only = λ low waits. only_of m i piece answer (c.in-Ok.ensures.only waits);
        again = none_found _ (packet_reader_data c.args.self.now.reader).fault c.fault.result c.fault.ensures c.in_default.not-Some;
        uses = c.in-Ok.ensures.uses;
        after = tt;
      },
    )

pub returns-in-Err : goal.returns-in-Err
unfolding incoming_of outgoing_of
returns-in-Err g c =
    let m = g.S.Suite.meaning c.args.suite.now in
    let i : Incoming = incoming_of c.args.self.now in
    let piece = c.args.piece.now in
    let new : Incoming = incoming_of (record c.args.self.now { reader = c.next.follows.lender-at-none; opened = c.opened-opened.result }) in
    let answer : Result PacketStep PacketFault = Err c.in-Err.fault in
    let told : ◌≡◌ {A = LinkFault} (fault_by c.in-Err.fault) c.told_fault-in-Err.result = sym c.told_fault-in-Err.ensures in (
      (
        refl,
        λ _. tt,
        (
          refl,
          none_found _ (packet_reader_data c.args.self.now.reader).fault c.fault.result c.fault.ensures c.in_default.not-Some,
          λ up. absurd (omega (arith, up, c.opened-opened.ensures, c.if-opened.false)),
          λ low waits. subst (λ (f : LinkFault). LinkLeaves m i piece (Err f) new) told (leaves_of m i piece answer new
              (subst (λ (r : Result PacketStep PacketFault). ReaderLeaves m (packet_reader_data i.reader) piece r new.reader) c.in-Err.is (c.next.follows.holds-at-none.0 waits))
              tt
              (ap (λ (n : ℕ). n + packet_ended (packet_reader_data new.reader).held (last_used new.reader)) c.opened-opened.ensures)),
        ),
      ),
      record {
        used_up = λ up unfaulted. absurd (omega (arith, up, c.opened-opened.ensures, c.if-opened.false));
        tells = λ low waits. subst (λ (f : LinkFault). OpenAnswer m i piece (Err f)) told (tells_of m i piece answer (c.in-Err.ensures.tells waits));
        only = λ low waits. subst (λ (f : LinkFault). OnlyOpenAnswer m i piece (Err f)) told (only_of m i piece answer (c.in-Err.ensures.only waits));
        again = none_found _ (packet_reader_data c.args.self.now.reader).fault c.fault.result c.fault.ensures c.in_default.not-Some;
        uses = tt;
        after = tt;
      },
    )
