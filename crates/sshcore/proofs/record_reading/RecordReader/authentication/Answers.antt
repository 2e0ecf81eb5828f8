use Rattle.std.proofs.Common.{◌≡◌, ◌∙◌, Bool, List, ℕ, Option}
use Rattle.sshcore.specs.RecordData.{AuthenticationRecord}
use Rattle.sshcore.proofs.record_reading.RecordReader.authentication.Goals as goal

same_authentication : (request request_ : ℕ) (allowance allowance_ : Option ℕ) (completed_user completed_user_ : List ℕ) (completed_service completed_service_ : List ℕ) (completed_password completed_password_ : Bool) (completed_publickey completed_publickey_ : Bool) → request ≡ request_ → allowance ≡ allowance_ → completed_user ≡ completed_user_ → completed_service ≡ completed_service_ → completed_password ≡ completed_password_ → completed_publickey ≡ completed_publickey_ → ◌≡◌ {A = AuthenticationRecord} (record { request = request; allowance = allowance; completed = record { user = completed_user; service = completed_service; password = completed_password; publickey = completed_publickey } }) (record { request = request_; allowance = allowance_; completed = record { user = completed_user_; service = completed_service_; password = completed_password_; publickey = completed_publickey_ } })
same_authentication _ _ _ _ _ _ _ _ _ _ _ _ e0 e1 e2 e3 e4 e5 = cc

pub returns : goal.returns
returns c = λ x rest fits e.
    let request = c.number-request.ensures x.request _ fits.request e in
    let allowance = c.allowance-allowance.ensures x.allowance _ fits.allowance request.1 in
    let completed_user = c.bytes-user.ensures x.completed.user _ fits.user allowance.1 in
    let completed_service = c.bytes-service.ensures x.completed.service _ fits.service completed_user.1 in
    let completed_password = c.flag-password.ensures x.completed.password _ tt completed_service.1 in
    let completed_publickey = c.flag-publickey.ensures x.completed.publickey _ tt completed_password.1 in
    (same_authentication _ _ _ _ _ _ _ _ _ _ _ _ request.0 allowance.0 completed_user.0 completed_service.0 completed_password.0 completed_publickey.0, completed_publickey.1, completed_publickey.2 ∙ (completed_password.2 ∙ (completed_service.2 ∙ (completed_user.2 ∙ (allowance.2 ∙ (request.2))))))
