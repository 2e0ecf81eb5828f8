use Rattle.std.proofs.Common.{◌≡◌, ◌∙◌, List, ℕ, Option, Some, sym}
use Rattle.sshcore.specs.RecordText.{FitsUserKey, user_key_text}
use Rattle.sshcore.specs.EndpointParts.{UserKeyData}
use Rattle.sshcore.proofs.RecordLemmas.{absent, fits_there, there}
use Rattle.sshcore.proofs.record_reading.RecordReader.user_key.Goals as goal

same_user_key : (algorithm algorithm_ : List ℕ) (blob blob_ : List ℕ) → algorithm ≡ algorithm_ → blob ≡ blob_ → ◌≡◌ {A = Option UserKeyData} (Some (record { algorithm = algorithm; blob = blob })) (Some (record { algorithm = algorithm_; blob = blob_ }))
same_user_key _ _ _ _ e0 e1 = cc

pub returns-then-not-flag : goal.returns-then-not-flag
returns-then-not-flag c = λ x rest fits e.
    absent user_key_text c.args.self.now c.flag.new.self c.flag.result c.flag.ensures x rest c.if-not-flag.true e

pub returns : goal.returns
returns c = λ x rest fits e.
    let found = there user_key_text c.args.self.now c.flag.new.self c.flag.result c.flag.ensures x rest c.if-not-flag.false e in
    let k = found.0 in
    let f = fits_there FitsUserKey x k fits found.1 in
    let algorithm = c.bytes-algorithm.ensures k.algorithm _ f.algorithm found.2 in
    let blob = c.bytes-blob.ensures k.blob _ f.blob algorithm.1 in
    (same_user_key _ _ _ _ algorithm.0 blob.0 ∙ sym found.1, blob.1, blob.2 ∙ (algorithm.2 ∙ found.3))
