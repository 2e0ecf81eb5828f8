use Rattle.std.proofs.Common.{◌≡◌, ◌∙◌, Bool, List, Option, sym, ℕ}
use Rattle.sshneg.specs.declared.side.Side.{Side}
use Rattle.sshcore.specs.declared.phase_table.Phase.{Phase}
use Rattle.sshcore.specs.Output.{Sending}
use Rattle.sshcore.specs.RecordData.{AuthenticationRecord, ExchangeRecord, ReaderRecord, RecordData, held_in}
use Rattle.sshcore.specs.StateData.{Carried}
use Rattle.sshcore.proofs.record_reading.RecordReader.record.Goals as goal

same_record : (missing missing_ : ℕ) (role role_ : Side) (confirmed confirmed_ : Bool) (left left_ : ℕ) (phase phase_ : Phase) (guess guess_ : Bool) (exchange exchange_ : ExchangeRecord) (authentication authentication_ : AuthenticationRecord) (carried carried_ : Carried) (sending sending_ : Sending) (reader reader_ : ReaderRecord) (waiting waiting_ : Option (List ℕ)) → missing ≡ missing_ → role ≡ role_ → confirmed ≡ confirmed_ → left ≡ left_ → phase ≡ phase_ → guess ≡ guess_ → exchange ≡ exchange_ → authentication ≡ authentication_ → carried ≡ carried_ → sending ≡ sending_ → reader ≡ reader_ → waiting ≡ waiting_
    → ◌≡◌ {A = RecordData} (record { missing = missing; role = role; confirmed = confirmed; left = left; phase = phase; guess = guess; exchange = exchange; authentication = authentication; carried = carried; sending = sending; reader = reader; waiting = waiting })
    (record { missing = missing_; role = role_; confirmed = confirmed_; left = left_; phase = phase_; guess = guess_; exchange = exchange_; authentication = authentication_; carried = carried_; sending = sending_; reader = reader_; waiting = waiting_ })
same_record _ _ _ _ _ _ _ _ _ _ _ _ _ _ _ _ _ _ _ _ _ _ _ _ e0 e1 e2 e3 e4 e5 e6 e7 e8 e9 e10 e11 = cc

pub returns : goal.returns
returns c = λ x rest fits e.
    let version = c.version.ensures _ e in
    let missing = c.number-missing.ensures x.missing _ fits.missing version.0 in
    let held = c.bytes-held.ensures (held_in x.reader) _ fits.held missing.1 in
    let role = c.role-role.ensures x.role _ tt held.1 in
    let confirmed = c.flag-confirmed.ensures x.confirmed _ tt role.1 in
    let left = c.number-left.ensures x.left _ fits.left confirmed.1 in
    let phase = c.phase-phase.ensures x.phase _ tt left.1 in
    let guess = c.flag-guess.ensures x.guess _ tt phase.1 in
    let exchange = c.exchange-exchange.ensures x.exchange _ fits.exchange guess.1 in
    let authentication = c.authentication-authentication.ensures x.authentication _ fits.authentication exchange.1 in
    let carried = c.carried-carried.ensures x.carried _ fits.carried authentication.1 in
    let sending = c.sending-sending.ensures x.sending _ fits.sending carried.1 in
    let reader = c.reader-reader.ensures x.reader _ (fits.reader, sym held.0) sending.1 in
    let waiting = c.waiting-waiting.ensures x.waiting _ fits.waiting reader.1 in (
      same_record _ _ _ _ _ _ _ _ _ _ _ _ _ _ _ _ _ _ _ _ _ _ _ _ missing.0 role.0 confirmed.0 left.0 phase.0 guess.0 exchange.0 authentication.0 carried.0 sending.0 reader.0 waiting.0,
      waiting.1,
      waiting.2 ∙ (reader.2 ∙ (sending.2 ∙ (carried.2 ∙ (authentication.2 ∙ (exchange.2 ∙ (guess.2 ∙ (phase.2 ∙ (left.2 ∙ (confirmed.2 ∙ (role.2 ∙ (held.2 ∙ (missing.2 ∙ version.1)))))))))))),
    )
