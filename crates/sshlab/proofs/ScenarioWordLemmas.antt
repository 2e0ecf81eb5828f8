-- What is stated by the fields of a line, as the code sees them: lent.

use Rattle.std.proofs.Common.{◌≡◌, ℕ, zero, suc, List, [], ◌∷◌, length, drop, refl}
use Rattle.std.specs.Prelude.{◌==◌, ◌&&◌, Bool, true, false, if◌then◌else◌, None, Some, codes, nat_le, option_map, slice_index_or}
use Rattle.std.specs.Borrow.{Bor}
use Rattle.std.specs.Str.{bytes_eq}
use Rattle.std.proofs.lemmas.List.{drop-map, length-map}
use Rattle.sshcore.specs.ConfigParts.{ByKey, ByNothing, ByPassword}
use Rattle.sshlab.specs.ScenarioFields.{bytes_of, number_of, side_of}
use Rattle.sshlab.specs.ScenarioView.{texts}
use Rattle.sshlab.specs.Scenarios.{Allows, Denies, Distrusts, Does, Holds, Notes, Tries, attempting, client_value, delivery, field, proving, rounds, server_value, statement_by, statement_of_client, statement_of_server, step}

abbrev pub Lent : Type 0
Lent = List (Bor (List ℕ))

-- field i
abbrev pub lent : Lent → ℕ → List ℕ
lent fields i = (slice_index_or fields i (record { ref_ptr = (0, 0); now = [] })).now

field_text : (fields : Lent) (i : ℕ) → field (texts fields) i ≡ lent fields i
field_text [] i = refl
field_text (text ∷ fields) zero = refl
field_text (text ∷ fields) (suc i) = field_text fields i

count_of : (fields : Lent) → length (texts fields) ≡ length fields
count_of fields = length-map fields (λ text. text.now)

rest_of : (n : ℕ) (fields : Lent) → drop n (texts fields) ≡ texts (drop n fields)
rest_of n fields = drop-map (λ text. text.now) n fields

-- so many fields, or so many or more, and the first is this word
abbrev pub is_form : Lent → List ℕ → ℕ → Bool
is_form fields word count = (length fields == count) && bytes_eq (lent fields 0) word

abbrev pub is_start : Lent → List ℕ → ℕ → Bool
is_start fields word least = nat_le least (length fields) && bytes_eq (lent fields 0) word

pub step_seen : (fields : Lent) → step (texts fields) ≡ (
    if is_form fields (codes "deliver") 3 then delivery (side_of (lent fields 1)) (number_of (lent fields 2))
    else if is_form fields (codes "settle") 2 then rounds (number_of (lent fields 1)) else None)
unfolding step
step_seen fields = rw (count_of fields, field_text fields 0, field_text fields 1, field_text fields 2) refl

pub proving_seen : (fields : Lent) → proving (texts fields) ≡ (
    if is_form fields (codes "none") 1 then Some ByNothing
    else if is_form fields (codes "password") 2 then option_map ByPassword (bytes_of (lent fields 1))
    else if is_form fields (codes "publickey") 3 then option_map (λ secret. ByKey (lent fields 1) secret false) (bytes_of (lent fields 2)) else None)
unfolding proving
proving_seen fields = rw (count_of fields, field_text fields 0, field_text fields 1, field_text fields 2) refl

pub attempting_seen : (fields : Lent) → attempting (texts fields) ≡ (
    if is_form fields (codes "query") 3 then option_map (λ secret. ByKey (lent fields 1) secret true) (bytes_of (lent fields 2)) else proving (texts fields))
unfolding attempting
attempting_seen fields = rw (count_of fields, field_text fields 0, field_text fields 1, field_text fields 2) refl

pub of_client_seen : (fields : Lent) → statement_of_client (texts fields) ≡ (
    if is_start fields (codes "try") 3 then
    option_map (λ proof. Tries (record { user = lent fields 1; service = lent fields 2; proving = proof })) (attempting (texts (drop 3 fields)))
    else if length fields == 2 then client_value (lent fields 0) (lent fields 1) else None)
unfolding statement_of_client
of_client_seen fields = rw (count_of fields, rest_of 3 fields, field_text fields 0, field_text fields 1, field_text fields 2) refl

pub of_server_seen : (fields : Lent) → statement_of_server (texts fields) ≡ (
    if is_form fields (codes "hostkey") 3 then
    option_map (λ secret. Holds (record { algorithm = lent fields 1; secret = secret })) (bytes_of (lent fields 2))
    else if is_form fields (codes "notice") 2 then option_map Notes (bytes_of (lent fields 1))
    else if length fields == 2 then server_value (lent fields 0) (lent fields 1) else None)
unfolding statement_of_server
of_server_seen fields = rw (count_of fields, field_text fields 0, field_text fields 1, field_text fields 2) refl

pub statement_seen : (fields : Lent) → statement_by (texts fields) ≡ (
    if is_start fields (codes "client") 1 then statement_of_client (texts (drop 1 fields))
    else if is_start fields (codes "server") 1 then statement_of_server (texts (drop 1 fields))
    else if is_form fields (codes "distrust") 2 then Some (Distrusts (lent fields 1))
    else if is_start fields (codes "allow") 2 then option_map (Allows (lent fields 1)) (proving (texts (drop 2 fields)))
    else if is_form fields (codes "deny") 2 then option_map Denies (number_of (lent fields 1))
    else option_map Does (step (texts fields)))
unfolding statement_by
statement_seen fields = rw (count_of fields, rest_of 1 fields, rest_of 2 fields, field_text fields 0, field_text fields 1) refl
