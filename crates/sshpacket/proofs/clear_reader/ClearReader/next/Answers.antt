use Rattle.std.proofs.Common.{Err, Ok, Result, refl, subst}
use Rattle.sshpacket.specs.declared.fault.PacketFault.{PacketFault}
use Rattle.sshpacket.specs.declared.reader.PacketReader.{PacketReader}
use Rattle.sshpacket.specs.declared.reader.PacketStep.{PacketStep}
use Rattle.sshpacket.specs.ClearReaderData.{packets_of}
use Rattle.sshpacket.specs.NoSuite.{no_suite}
use Rattle.sshpacket.specs.PacketReaderData.{HoldsNothingAfter, KeepsLittle, PacketReaderData, ReaderLeaves, ReaderWaits, packet_reader_data}
use Rattle.sshpacket.proofs.ClearLemmas.{answers_any, leaves_any, leaves_kept, only_any, tells_any, waits_on}
use Rattle.sshpacket.proofs.clear_reader.ClearReader.next.Goals as goal

pub returns-in-Ok : goal.returns-in-Ok
unfolding packets_of
returns-in-Ok c =
    let s : PacketReaderData = packet_reader_data c.args.self.now.packets in
    let piece = c.args.piece.now in
    let answer : Result PacketStep PacketFault = Ok c.in-Ok.step in
    let new : PacketReader = c.next.follows.lender-at-none in
    let left = c.next.follows.holds-at-none in
    let leaves : ReaderWaits no_suite c.args.self.now.packets → ReaderLeaves no_suite s piece answer new
    = λ waits. subst (λ (r : Result PacketStep PacketFault). ReaderLeaves no_suite s piece r new) c.in-Ok.is (left.0 waits) in (
      (
        refl,
        λ _. tt,
        (
          λ waits m. leaves_any no_suite m s waits.clear piece answer new (leaves (waits.waits no_suite)),
          λ waits. waits_on no_suite s waits.clear piece c.in-Ok.step (record c.args.self.now { packets = new }) (leaves (waits.waits no_suite)),
          left.1,
          left.2,
          subst (λ (r : Result PacketStep PacketFault). HoldsNothingAfter r (packet_reader_data new)) c.in-Ok.is left.3,
          tt,
          subst (λ (r : Result PacketStep PacketFault). KeepsLittle r new) c.in-Ok.is left.5,
        ),
      ),
      record {
        tells = λ waits m. tells_any no_suite m s waits.clear piece answer (c.in-Ok.ensures.tells (waits.waits no_suite));
        only = λ waits m. only_any no_suite m s waits.clear piece answer (c.in-Ok.ensures.only (waits.waits no_suite));
        again = c.in-Ok.ensures.again;
        uses = c.in-Ok.ensures.uses;
        answers = λ waits m. answers_any no_suite m s waits.clear piece answer (c.in-Ok.ensures.answers (waits.waits no_suite));
        after = tt;
      },
    )

pub returns-in-Err : goal.returns-in-Err
unfolding packets_of
returns-in-Err c =
    let s : PacketReaderData = packet_reader_data c.args.self.now.packets in
    let piece = c.args.piece.now in
    let answer : Result PacketStep PacketFault = Err c.in-Err.fault in
    let new : PacketReader = c.next.follows.lender-at-none in
    let left = c.next.follows.holds-at-none in
    let leaves : ReaderWaits no_suite c.args.self.now.packets → ReaderLeaves no_suite s piece answer new
    = λ waits. subst (λ (r : Result PacketStep PacketFault). ReaderLeaves no_suite s piece r new) c.in-Err.is (left.0 waits) in (
      (
        refl,
        λ _. tt,
        (
          λ waits m. leaves_any no_suite m s waits.clear piece answer new (leaves (waits.waits no_suite)),
          λ waits. tt,
          left.1,
          left.2,
          tt,
          leaves_kept s c.next.result c.in-Err.fault new c.in-Err.is left.4,
          subst (λ (r : Result PacketStep PacketFault). KeepsLittle r new) c.in-Err.is left.5,
        ),
      ),
      record {
        tells = λ waits m. tells_any no_suite m s waits.clear piece answer (c.in-Err.ensures.tells (waits.waits no_suite));
        only = λ waits m. only_any no_suite m s waits.clear piece answer (c.in-Err.ensures.only (waits.waits no_suite));
        again = c.in-Err.ensures.again;
        uses = tt;
        answers = λ waits m. answers_any no_suite m s waits.clear piece answer (c.in-Err.ensures.answers (waits.waits no_suite));
        after = tt;
      },
    )
