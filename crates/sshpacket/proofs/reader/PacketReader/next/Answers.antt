use Rattle.std.proofs.Common.{rules, refl, Err, Ok, None, Some, drop, take}
use Rattle.sshpacket.specs.declared.reader.PacketStep.TheVariants.{More}
use Rattle.sshpacket.specs.PacketReaderData.{Advances, ParseAnswer, ReaderWaits, last_used, packet_reader_data, target_len}
use Rattle.sshpacket.proofs.AnswerLemmas.{only_of, step_answer, step_holds, step_keeps, step_leaves, step_uses, tells_of}
use Rattle.sshpacket.proofs.reader.PacketReader.next.Goals as goal

pub returns-in-Err : goal.returns-in-Err
unfolding packet_reader_data target_len
returns-in-Err g c =
    let m = g.S.Suite.meaning c.args.suite.now in
    let s = packet_reader_data c.args.self.now in
    let piece = c.args.piece.now in
    let answer : ReaderWaits m c.args.self.now → ParseAnswer m s piece (Err c.in-Err.fault)
    = λ waits other. (last_used c.advance.new.self, c.advance.ensures.taken, (c.in-Err.ensures.advances (record { no_fault = waits.no_fault; unfinished_is = waits.unfinished_is; knows = waits.knows })).1 other) in (
      (refl, λ _. tt, ((λ waits. let a = c.in-Err.ensures.advances (record { no_fault = waits.no_fault; unfinished_is = waits.unfinished_is; knows = waits.knows }) in (a.0, c.advance.ensures.taken, a.1)), search rules, c.advance.ensures.taken, tt, c.in-Err.ensures.kept.0, (c.in-Err.ensures.kept.1, c.in-Err.ensures.kept.2))),
      record {
        tells = λ waits. tells_of m s piece (Err c.in-Err.fault) (search rules) (answer waits);
        only = λ waits. only_of m s piece (Err c.in-Err.fault) (rw c.as_slice.ensures at c.front_means.ensures.only) (answer waits);
        again = search rules;
        uses = tt;
        answers = answer;
        means = search rules;
        after = tt;
      },
    )

pub returns-in-Ok-None : goal.returns-in-Ok-None
unfolding packet_reader_data target_len
returns-in-Ok-None g c =
    let m = g.S.Suite.meaning c.args.suite.now in
    let s = packet_reader_data c.args.self.now in
    let piece = c.args.piece.now in
    let told : ReaderWaits m c.args.self.now → Advances m s piece (Ok None) c.advance.new.self
    = λ waits. rw c.in-Ok-None.field-0-is at (c.in-Ok-None.ensures.advances (record { no_fault = waits.no_fault; unfinished_is = waits.unfinished_is; knows = waits.knows })) in
    let answer : ReaderWaits m c.args.self.now → ParseAnswer m s piece (Ok More) = λ waits. (told waits).2 in (
      (refl, λ _. tt, ((λ waits. let a = told waits in (a.0, a.1, a.3)), search rules, c.advance.ensures.taken, tt, tt, search rules)),
      record {
        tells = λ waits. tells_of m s piece (Ok More) (search rules) (answer waits);
        only = λ waits. only_of m s piece (Ok More) (rw c.as_slice.ensures at c.front_means.ensures.only) (answer waits);
        again = search rules;
        uses = tt;
        answers = answer;
        means = search rules;
        after = tt;
      },
    )

pub returns-in-Ok-Some : goal.returns-in-Ok-Some
unfolding packet_reader_data last_used target_len
returns-in-Ok-Some g c =
    let m = g.S.Suite.meaning c.args.suite.now in
    let s = packet_reader_data c.args.self.now in
    let piece = c.args.piece.now in
    let new = c.advance.new.self in
    let payload = take c.in-Ok-Some.payload_len (drop 5 new.packet.items) in
    let used = rw (c.in-Ok-Some.field-0-is) at c.in-Ok-Some.ensures.some in
    let told : ReaderWaits m c.args.self.now → Advances m s piece (Ok (Some c.in-Ok-Some.payload_len)) new
    = λ waits. rw c.in-Ok-Some.field-0-is at (c.in-Ok-Some.ensures.advances (record { no_fault = waits.no_fault; unfinished_is = waits.unfinished_is; knows = waits.knows })) in
    let answer : ReaderWaits m c.args.self.now → ParseAnswer m s piece (Ok c.step.result)
    = λ waits. step_answer m s piece payload new.taken c.step.result c.step.ensures c.advance.ensures.taken (told waits).1 in (
      (
        refl,
        λ _. tt,
        (
          (λ waits. let a = told waits in step_leaves m s piece payload new.taken c.step.result new c.step.ensures a.0 refl a.2),
          search rules,
          c.advance.ensures.taken,
          step_holds c.step.result (packet_reader_data new) used.1,
          tt,
          step_keeps payload _ _ c.step.result new c.step.ensures used.2,
        ),
      ),
      record {
        tells = λ waits. tells_of m s piece (Ok c.step.result) (search rules) (answer waits);
        only = λ waits. only_of m s piece (Ok c.step.result) (rw c.as_slice.ensures at c.front_means.ensures.only) (answer waits);
        again = search rules;
        uses = step_uses m s piece payload new.taken c.step.result c.step.ensures used.0 c.advance.ensures.taken;
        answers = answer;
        means = search rules;
        after = tt;
      },
    )
