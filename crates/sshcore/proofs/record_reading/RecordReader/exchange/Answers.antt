use Rattle.std.proofs.Common.{◌≡◌, ◌∙◌, Bool, List, ℕ, Option}
use Rattle.sshwire.specs.declared.share_form.ShareForm.{ShareForm}
use Rattle.sshneg.specs.Fields.{AlgorithmsData}
use Rattle.sshcore.specs.RecordData.{ExchangeRecord}
use Rattle.sshcore.proofs.record_reading.RecordReader.exchange.Goals as goal

same_exchange : (shares shares_ : ShareForm) (strict strict_ : Bool) (first first_ : Bool) (version version_ : List ℕ) (kexinit kexinit_ : List ℕ) (session session_ : List ℕ) (algorithms algorithms_ : Option AlgorithmsData) → shares ≡ shares_ → strict ≡ strict_ → first ≡ first_ → version ≡ version_ → kexinit ≡ kexinit_ → session ≡ session_ → algorithms ≡ algorithms_ → ◌≡◌ {A = ExchangeRecord} (record { shares = shares; strict = strict; first = first; version = version; kexinit = kexinit; session = session; algorithms = algorithms }) (record { shares = shares_; strict = strict_; first = first_; version = version_; kexinit = kexinit_; session = session_; algorithms = algorithms_ })
same_exchange _ _ _ _ _ _ _ _ _ _ _ _ _ _ e0 e1 e2 e3 e4 e5 e6 = cc

pub returns : goal.returns
returns c = λ x rest fits e.
    let shares = c.form-shares.ensures x.shares _ tt e in
    let strict = c.flag-strict.ensures x.strict _ tt shares.1 in
    let first = c.flag-first.ensures x.first _ tt strict.1 in
    let version = c.bytes-version.ensures x.version _ fits.version first.1 in
    let kexinit = c.bytes-kexinit.ensures x.kexinit _ fits.kexinit version.1 in
    let session = c.bytes-session.ensures x.session _ fits.session kexinit.1 in
    let algorithms = c.names-algorithms.ensures x.algorithms _ fits.algorithms session.1 in
    (same_exchange _ _ _ _ _ _ _ _ _ _ _ _ _ _ shares.0 strict.0 first.0 version.0 kexinit.0 session.0 algorithms.0, algorithms.1, algorithms.2 ∙ (session.2 ∙ (kexinit.2 ∙ (version.2 ∙ (first.2 ∙ (strict.2 ∙ (shares.2)))))))
