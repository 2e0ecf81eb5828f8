use Rattle.std.proofs.Common.{◌≡◌, ◌<◌, ◌≤◌, ◌-◌, ◌∙◌, ◌++◌, ℕ, List, [], ap, arith, length, refl, subst}
use Rattle.std.proofs.lemmas.Grind.{common_steps}
use Rattle.sshcore.specs.Record.{record_of}
use Rattle.sshcore.specs.RecordData.{held_in}
use Rattle.sshcore.specs.RecordText.{IsShort, body_text, waits_text}
use Rattle.sshcore.proofs.LawsBelow.{Below}
use Rattle.sshcore.proofs.HistoryLemmas.{Streams}
use Rattle.sshcore.proofs.HoldingLemmas.{holding_so, same_waits}
use Rattle.sshcore.proofs.asking_paused.PausedEndpoint.record_holding.Goals as goal

pub returns-in_default-clause-none : goal.returns-in_default-clause-none
returns-in_default-clause-none g c = λ same p is.
    absurd (c.in_default.ensures (record_of p).missing (held_in (record_of p).reader) (body_text (record_of p) []) is.written.missing is.written.held is.bytes_are)

pub returns-in_default-missing_after-clause-none : goal.returns-in_default-missing_after-clause-none
returns-in_default-missing_after-clause-none g c = λ same p is.
    let read = c.in-Some.ensures (record_of p).missing (held_in (record_of p).reader) (body_text (record_of p) []) is.written.missing is.written.held is.bytes_are in
    subst (λ (n : ℕ). n ≤ length c.args.piece.now) read.0 (c.in_default-missing_after.ensures.none refl)

pub returns-clause-holds : goal.returns-clause-holds
returns-clause-holds g c = λ role config suite p is fits.
    let below : Below = record { numbers = c.numbers_law.ensures.message_number; alike = c.numbers_law.ensures.alike; right = c.markers_law.ensures.right } in
    let streams : Streams = record {
      packets = c.parser_by_law.ensures.packets;
      lines = c.parser_by_law.ensures.lines;
      nothing = c.stream_law.ensures.nothing;
      unit = c.stream_law.ensures.received_unit;
      refusal = c.stream_law.ensures.received_refusal;
      part = c.stream_law.ensures.received_part;
      one = c.stream_law.ensures.one;
      front = c.stream_law.ensures.prefix;
      more = c.stream_law.ensures.read_more;
      sent = c.stream_law.ensures.sent_append;
    } in
    let piece = c.args.piece.now in
    let missing = (record_of p).missing in
    let held = held_in (record_of p).reader in
    let body = body_text (record_of p) [] in
    let read = c.in-Some.ensures missing held body is.written.missing is.written.held is.bytes_are in
    let few : length piece < c.in-Some.waits.missing = c.in-Some-missing_after.ensures.fewer.0 in
    let left : c.in-Some-missing_after.missing ≡ c.in-Some.waits.missing - length piece = c.in-Some-missing_after.ensures.fewer.1 in
    let grown : c.extend_from_slice.new.self.items ≡ c.put_waits.new.out.items ++ c.in-Some.waits.rest.now = c.in_ok-extend_from_slice.ensures.items in
    let put : c.put_waits.new.out.items ++ c.in-Some.waits.rest.now ≡ c.in_ok-out.out.items ++ waits_text c.in-Some-missing_after.missing (c.in-Some.waits.held.now ++ piece) c.in-Some.waits.rest.now = c.in_ok-put_waits.ensures.adds c.in-Some.waits.rest.now in
    let begun : c.in_ok-out.out.items ≡ [] = c.in_ok-out.ensures.items in
    let front = waits_text c.in-Some-missing_after.missing (c.in-Some.waits.held.now ++ piece) c.in-Some.waits.rest.now in
    holding_so below streams g.S.Suite.meaning role config suite piece c.extend_from_slice.new.self.items p c.args.text.now is fits
    (subst (λ (n : ℕ). length piece < n) read.0 few)
    (grown ∙ (put ∙ (ap (λ (l : List ℕ). l ++ front) begun ∙ same_waits _ (missing - length piece) _ (held ++ piece) _ body
    (left ∙ ap (λ (n : ℕ). n - length piece) read.0) (ap (λ (l : List ℕ). l ++ piece) read.1) read.2)))
    (subst (λ (l : List ℕ). IsShort (l ++ piece)) read.1 c.in_ok-put_waits.ensures.held)
    (grind (arith, common_steps))
