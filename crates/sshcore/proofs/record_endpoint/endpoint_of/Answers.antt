use Rattle.std.proofs.Common.{◌≡◌, ◌∙◌, Option, ap, inl, map, rules, subst, sym}
use Rattle.sshcore.specs.declared.input.Input.{Input}
use Rattle.sshcore.specs.AskingData.{WaitingData}
use Rattle.sshwire.specs.declared.line_form.LineForm.{LineForm}
use Rattle.sshcore.specs.Directions.{form_of}
use Rattle.sshcore.specs.ConfigView.{attempt_data}
use Rattle.sshcore.specs.StateData.{state_data}
use Rattle.sshcore.specs.EndpointConfig.{config_data, role_of}
use Rattle.sshcore.specs.Record.{record_of}
use Rattle.sshcore.specs.RecordData.{RecordData}
use Rattle.sshcore.specs.RecordMade.{FitsState, IsSameInput, IsSameWaiting}
use Rattle.sshcore.specs.RecordView.{record_data}
use Rattle.sshcore.proofs.RecordMadeLemmas as made
use Rattle.sshcore.proofs.RecordMadeLemmas.{fits_state, mapped_none, none_some, some_is}
use Rattle.sshcore.proofs.record_endpoint.endpoint_of.Goals as goal

pub returns-then-is_of_other_version-clause-made : goal.returns-then-is_of_other_version-clause-made
returns-then-is_of_other_version-clause-made g c = λ p r.
    absurd (search (c.is_of_other_version.ensures.this _ r.is_record.bytes_are, c.if-is_of_other_version.true, rules))

pub returns-in_default-clause-made : goal.returns-in_default-clause-made
returns-in_default-clause-made g c = λ p r.
    none_some _ _ (mapped_none record_data c.record_in.result c.in_default.is) (c.record_in.ensures (record_of p) r.is_record.written r.is_record.bytes_are)

pub returns-then-ne-clause-made : goal.returns-then-ne-clause-made
returns-then-ne-clause-made g c = λ p r.
    let told = some_is (record_data c.in-Some.parts) (record_of p) (c.in-Some.ensures (record_of p) r.is_record.written r.is_record.bytes_are) in
    let same : c.in-Some.parts.role ≡ role_of c.args.config = ap (λ (x : RecordData). x.role) told ∙ r.fits.is_role in
    absurd (search (same, c.ne.ensures, c.if-ne.true, c.if-ne.ensures, c.role.ensures, rules))

pub returns-in_err-state-clause-made : goal.returns-in_err-state-clause-made
returns-in_err-state-clause-made g c = λ p r.
    let told = some_is (record_data c.in-Some.parts) (record_of p) (c.in-Some.ensures (record_of p) r.is_record.written r.is_record.bytes_are) in
    let so = c.in_err-state.ensures.made (subst FitsState (sym told) (fits_state g.S.Suite.meaning (role_of c.args.config) (config_data c.args.config) c.args.suite.now c.args.text.now p r)) in
    search (so, c.from_residual.ensures, rules)

pub returns-then-not-has_form-clause-made : goal.returns-then-not-has_form-clause-made
returns-then-not-has_form-clause-made g c = λ p r.
    let m = g.S.Suite.meaning in
    let role = role_of c.args.config in
    let config = config_data c.args.config in
    let told = some_is (record_data c.in-Some.parts) (record_of p) (c.in-Some.ensures (record_of p) r.is_record.written r.is_record.bytes_are) in
    let so = c.in_ok-state.ensures.made (subst FitsState (sym told) (fits_state m role config c.args.suite.now c.args.text.now p r)) in
    let form = made.has_form m role config c.args.suite.now c.args.text.now p r c.in-Some.parts c.in_ok-state.state told so in
    absurd (search (form, c.has_form.ensures, c.if-not-has_form.true, c.if-not-has_form.ensures, rules))

pub returns-in_err-input-clause-made : goal.returns-in_err-input-clause-made
returns-in_err-input-clause-made g c = λ p r.
    let m = g.S.Suite.meaning in
    let role = role_of c.args.config in
    let config = config_data c.args.config in
    let suite = c.args.suite.now in
    let text = c.args.text.now in
    let parts = c.in-Some.parts in
    let told = some_is (record_data parts) (record_of p) (c.in-Some.ensures (record_of p) r.is_record.written r.is_record.bytes_are) in
    let lines = made.reader_so m role config suite text p r parts told in
    let missing = made.missing_so m role config suite text p r parts told in
    let so = c.in_err-input.ensures.made lines.0 lines.1 missing in
    search (so, c.from_residual-in_err-input.ensures, rules)

pub returns-in_err-waiting-clause-made : goal.returns-in_err-waiting-clause-made
returns-in_err-waiting-clause-made g c = λ p r.
    let m = g.S.Suite.meaning in
    let role = role_of c.args.config in
    let config = config_data c.args.config in
    let suite = c.args.suite.now in
    let text = c.args.text.now in
    let parts = c.in-Some.parts in
    let told = some_is (record_data parts) (record_of p) (c.in-Some.ensures (record_of p) r.is_record.written r.is_record.bytes_are) in
    let so = c.in_ok-state.ensures.made (subst FitsState (sym told) (fits_state m role config suite text p r)) in
    let kept = made.kept_so m role config suite text p r parts c.in_ok-state.state c.with_left-state.result told so (map attempt_data c.plan.result.now) (map attempt_data c.last_of.result.now)
    c.plan.ensures.plan c.last_of.ensures.last c.with_left-state.ensures.same in
    let lines = made.reader_so m role config suite text p r parts told in
    let missing = made.missing_so m role config suite text p r parts told in
    let input = made.input_so m role config suite text p r parts c.line_form.result c.in_ok-input.input told (c.in_ok-input.ensures.made lines.0 lines.1 missing) in
    let asked = made.asked_so m role config suite text p r (state_data c.with_left-state.result) c.line_form.result c.in_ok-input.input kept input in
    let waits = c.in_err-waiting.ensures.made p.waiting asked (sym (ap (λ (x : RecordData). x.waiting) told)) in
    search (waits, c.from_residual-in_err-waiting.ensures, rules)

pub returns-clause-made : goal.returns-clause-made
returns-clause-made g c = λ p r.
    let m = g.S.Suite.meaning in
    let role = role_of c.args.config in
    let config = config_data c.args.config in
    let suite = c.args.suite.now in
    let text = c.args.text.now in
    let parts = c.in-Some.parts in
    let told = some_is (record_data parts) (record_of p) (c.in-Some.ensures (record_of p) r.is_record.written r.is_record.bytes_are) in
    let so = c.in_ok-state.ensures.made (subst FitsState (sym told) (fits_state m role config suite text p r)) in
    let kept = made.kept_so m role config suite text p r parts c.in_ok-state.state c.with_left-state.result told so (map attempt_data c.plan.result.now) (map attempt_data c.last_of.result.now)
    c.plan.ensures.plan c.last_of.ensures.last c.with_left-state.ensures.same in
    let lines = made.reader_so m role config suite text p r parts told in
    let missing = made.missing_so m role config suite text p r parts told in
    let input = made.input_so m role config suite text p r parts c.line_form.result c.in_ok-input.input told (c.in_ok-input.ensures.made lines.0 lines.1 missing) in
    let asked = made.asked_so m role config suite text p r (state_data c.with_left-state.result) c.line_form.result c.in_ok-input.input kept input in
    let waits = c.in_ok-waiting.ensures.made p.waiting asked (sym (ap (λ (x : RecordData). x.waiting) told)) in
    record {
      kept = c.with.ensures.kept ∙ made.kept_last m role config suite text p r parts c.with_left-state.result told c.with_left-state.ensures.confirmed kept;
      input = subst (λ (i : Input). IsSameInput (form_of config.reading role) p.input i) (sym c.with.ensures.same.0)
          (subst (λ (f : LineForm). IsSameInput f p.input c.in_ok-input.input) c.line_form.ensures (made.same_input (m suite) c.line_form.result p.input c.in_ok-input.input (r.fits.fits.reads (inl r.is_record.is_open)) r.reading input));
      waiting = subst (λ (v : Option WaitingData). IsSameWaiting p.waiting v) (sym c.with.ensures.same.1) waits;
    }

pub returns-then-not-has_form-clause-version : goal.returns-then-not-has_form-clause-version
returns-then-not-has_form-clause-version g c = λ n rest short ne is.
    absurd (search (c.is_of_other_version.ensures.other n rest short ne is, c.if-is_of_other_version.false, rules))

pub returns-in_err-input-clause-version : goal.returns-in_err-input-clause-version
returns-in_err-input-clause-version g c = λ n rest short ne is.
    absurd (search (c.is_of_other_version.ensures.other n rest short ne is, c.if-is_of_other_version.false, rules))

pub returns-in_err-waiting-clause-version : goal.returns-in_err-waiting-clause-version
returns-in_err-waiting-clause-version g c = λ n rest short ne is.
    absurd (search (c.is_of_other_version.ensures.other n rest short ne is, c.if-is_of_other_version.false, rules))

pub returns-clause-version : goal.returns-clause-version
returns-clause-version g c = λ n rest short ne is.
    absurd (search (c.is_of_other_version.ensures.other n rest short ne is, c.if-is_of_other_version.false, rules))
