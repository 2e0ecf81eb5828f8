use Rattle.std.proofs.Common.{◌∙◌, List, subst, ℕ}
use Rattle.std.proofs.lemmas.List.{append-nil}
use Rattle.sshcore.specs.RecordText.{Adds, IsShort, authentication_text, body_text, bytes_text, carried_text, exchange_text, option_text, reader_text, sending_text, waits_text}
use Rattle.sshcore.specs.RecordView.{record_data}
use Rattle.sshcore.proofs.RecordLemmas.{on_ok}
use Rattle.sshcore.proofs.record_writing.put_record.Goals as goal

pub returns-clause-adds : goal.returns-clause-adds
returns-clause-adds c =
    let r = record_data c.args.parts.now in
    let held = append-nil c.held.result.now ∙ c.held.ensures in
    let waits = subst (λ (held : List ℕ). Adds (waits_text r.missing held) c.args.out.now.items c.put_waits.new.out.items) held c.in_ok-put_waits.ensures.adds in
    on_ok c.put_waiting.result
    (λ waiting rest.
    let waited = option_text bytes_text r.waiting rest in
    let read = reader_text r.reader waited in
    let sent = sending_text r.sending read in
    let carried = carried_text r.carried sent in
    let authenticated = authentication_text r.authentication carried in
    waiting rest ∙ (c.in_ok-put_reader.ensures.adds waited ∙ (c.in_ok-put_sending.ensures.adds read ∙ (c.in_ok-put_carried.ensures.adds sent
    ∙ (c.in_ok-put_authentication.ensures.adds carried ∙ (c.in_ok-put_exchange.ensures.adds authenticated ∙ (c.in_ok-put_front.ensures.adds (exchange_text r.exchange authenticated) ∙ waits (body_text r rest))))))))
    c.put_waiting.ensures.adds

pub returns-clause-fits : goal.returns-clause-fits
returns-clause-fits c =
    on_ok c.put_waiting.result
    (λ waiting. record {
      missing = c.in_ok-put_waits.ensures.missing;
      held = subst IsShort (append-nil c.held.result.now ∙ c.held.ensures) c.in_ok-put_waits.ensures.held;
      left = c.in_ok-put_front.ensures.fits;
      exchange = c.in_ok-put_exchange.ensures.fits;
      authentication = c.in_ok-put_authentication.ensures.fits;
      carried = c.in_ok-put_carried.ensures.fits;
      sending = c.in_ok-put_sending.ensures.fits;
      reader = c.in_ok-put_reader.ensures.fits;
      waiting = waiting;
    })
    c.put_waiting.ensures.fits
