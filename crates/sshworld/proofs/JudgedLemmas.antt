-- What the server answers to the requests of the course.

use Rattle.std.proofs.Common.{◌≡◌, inl, inr, if◌then◌else◌, subst, take, slice_get, ℕ, zero, suc, ◌+◌, ◌<◌, ◌≤◌, ◌==◌, ◌&&◌, Bool, true, false, cond, not, List, [], ◌∷◌, ◌++◌, append-nil, codes, length, Option, None, Some, refl, sym, ap, ◌∙◌, arith}
use Rattle.std.specs.Prelude.{nat_le}
use Rattle.std.proofs.lemmas.Bool.Decides.{nat_tests}
use Rattle.std.specs.Str.{bytes_eq}
use Rattle.std.proofs.lemmas.Bool.{cases_Bool}
use Rattle.sshwire.specs.TypeReadings.{is_name}
use Rattle.sshwire.specs.declared.share_form.ShareForm.{ShareForm}
use Rattle.sshmsg.specs.MessageData.{MessageData, MethodData, UserauthFailure, UserauthPkOk, UserauthSuccess, method_name}
use Rattle.sshmsg.specs.Written.{written_message}
use Rattle.sshneg.specs.declared.side.Side.TheVariants.{Client, Server}
use Rattle.sshneg.specs.ChoiceReadings.{is_in}
use Rattle.sshneg.specs.Derivations.{signed_text}
use Rattle.sshneg.specs.Fields.{AlgorithmsData}
use Rattle.sshneg.specs.Markers.{strict_marker}
use Rattle.sshneg.specs.Strictness.{is_strict}
use Rattle.sshpacket.specs.Suite.{SuiteData}
use Rattle.sshpacket.proofs.Places.{flat-push}
use Rattle.sshcore.specs.declared.end.Fault.TheVariants as fault
use Rattle.sshcore.specs.Attempts.{agreed_by}
use Rattle.sshcore.specs.ConfigParts.{AttemptData, ByKey, ByNothing, ByPassword, ClientData, CredentialData, ServerData, client_offer, own_marker, server_offer}
use Rattle.sshcore.specs.EndData.{AgreedData, Authenticated, Reply, fails, goes}
use Rattle.sshcore.specs.KnownBefore.{Known}
use Rattle.sshcore.specs.EndpointParts.{DecisionsData, KeyProof, PasswordProof, ProofData, config_of_server}
use Rattle.sshcore.specs.Plan.{asks, proving_name}
use Rattle.sshcore.specs.CompletedMethods.{Tried, are_completed, completed_after, none_completed}
use Rattle.sshcore.specs.Requests.{completes, more_reply, query_answer, tried_reply}
use Rattle.sshcore.specs.Tries.{is_decided, is_successful_at, proof_in, tried_with}
use Rattle.sshcore.proofs.CompletedMethodsLemmas.{complete_is}
use Rattle.sshcore.proofs.StepLemmas.{method_reply, request_reply, would_do}
use Rattle.sshworld.specs.Agreement.{agreed, session_between}
use Rattle.sshworld.specs.Course.{received_last}
use Rattle.sshworld.specs.Held.{held_method}
use Rattle.sshworld.specs.Judging.{is_proved, is_successful, is_usable, proved_by}
use Rattle.sshworld.specs.Offered.{offered}
use Rattle.sshworld.specs.Compatible.{CanSign}
use Rattle.sshworld.specs.Verdicts.{Exhausted, How, Limit, Success, Unknown, ends_by, is_accepted, tried_by, tried_of, verdict, verdict_after}
use Rattle.sshworld.specs.Wordings.{answer_to}
use Rattle.sshworld.proofs.Readable.{AreSound, HasShortBlob, IsTestedName}
use Rattle.sshworld.proofs.RequestLemmas.{Brings, brings}

-- markers
last_in : (names : List (List ℕ)) (name : List ℕ) → bytes_eq name name ≡ true → is_in (names ++ name ∷ []) name ≡ true
last_in [] name e = rw e refl
last_in (x ∷ names) name e = elim (cases_Bool (bytes_eq name x)) [
  | inl h ↦ rw h refl
  | inr h ↦ rw h (last_in names name e)
]

marked_client : (names : List (List ℕ)) (strict : Bool) → is_in names (strict_marker Client) ≡ false → is_in (names ++ own_marker Client strict) (strict_marker Client) ≡ strict
marked_client names true e = last_in names (strict_marker Client) refl
marked_client names false e = ap (λ (l : List (List ℕ)). is_in l (strict_marker Client)) (append-nil names) ∙ e

marked_server : (names : List (List ℕ)) (strict : Bool) → is_in names (strict_marker Server) ≡ false → is_in (names ++ own_marker Server strict) (strict_marker Server) ≡ strict
marked_server names true e = last_in names (strict_marker Server) refl
marked_server names false e = ap (λ (l : List (List ℕ)). is_in l (strict_marker Server)) (append-nil names) ∙ e

and_turned : (a b : Bool) → (a && b) ≡ (b && a)
and_turned true true = refl
and_turned true false = refl
and_turned false true = refl
and_turned false false = refl

pub client_strict : (c : ClientData) (s : ServerData) → AreSound c s → is_strict c.side.strict Client (server_offer s) ≡ (c.side.strict && s.side.strict)
client_strict c s sound = ap (λ (b : Bool). c.side.strict && b) (marked_server s.side.kex_algorithms s.side.strict sound.server_unmarked)

pub server_strict : (c : ClientData) (s : ServerData) → AreSound c s → is_strict s.side.strict Server (client_offer c) ≡ (c.side.strict && s.side.strict)
server_strict c s sound = ap (λ (b : Bool). s.side.strict && b) (marked_client c.side.kex_algorithms c.side.strict sound.client_unmarked) ∙ and_turned s.side.strict c.side.strict

decided_if : (sent : Bool) (decide : Option ProofData → Bool) (p : ProofData) → decide (Some p) ≡ sent → decide None ≡ false → (b : Bool) → decide (if b then Some p else None) ≡ (b && sent)
decided_if sent decide p given none true = given
decided_if sent decide p given none false = none

-- of a key, whose signature is the key's
decided_able : (sent : Bool) (decide : Option ProofData → Bool) (p : ProofData) → decide (Some p) ≡ sent → decide None ≡ false → (listed able : Bool)
    → decide (if listed then (if able && true then Some p else None) else None) ≡ ((listed && able) && sent)
decided_able sent decide p given none true true = given
decided_able sent decide p given none true false = none
decided_able sent decide p given none false able = none

and_apart : (a b c : Bool) → (a && (b && c)) ≡ ((a && b) && c)
and_apart true b c = refl
and_apart false b c = refl

-- where no more requests stood than are granted, the last one is the one of that number
last_test : (n t : ℕ) → n ≤ t → nat_le t n ≡ (n == t)
last_test n t h = grind (arith, nat_tests)

-- what a request brings that ends so, after those made
abbrev pub how_reply : SuiteData → DecisionsData → ClientData → ServerData → AlgorithmsData → List AttemptData → AttemptData → Option How → Reply
how_reply m d c s a made r None = goes (written_message (answer_to m d s made r) ∷ [])
how_reply m d c s a made r (Some Unknown) = fails fault.Service
how_reply m d c s a made r (Some (Success q)) = record { answers = written_message UserauthSuccess ∷ []; end = Authenticated (agreed m c s a q) }
how_reply m d c s a made r (Some Limit) = fails fault.TooManyTries
how_reply m d c s a made r (Some Exhausted) = goes []

-- the method of a request has the name of its attempt's
method_named : (m : SuiteData) (session user service : List ℕ) (p : CredentialData) → method_name (held_method m session user service p) ≡ proving_name p
method_named m session user service ByNothing = refl
method_named m session user service (ByPassword password) = refl
method_named m session user service (ByKey algorithm secret true) = refl
method_named m session user service (ByKey algorithm secret false) = refl

module _ (m : SuiteData) (d : DecisionsData) (c : ClientData) (s : ServerData) (sound : AreSound c s) (a : AlgorithmsData) (session : List ℕ) where
  successful_same : (n : ℕ) (user service : List ℕ) (p : CredentialData) → IsTestedName p → CanSign m p
      → is_successful_at m d (config_of_server s) session n user service (held_method m session user service p) ≡ (not (asks p) && (is_usable m s.methods p && d.user n user service (proved_by m p)))
  unfolding proof_in
  successful_same n user service ByNothing named signs = refl
  successful_same n user service (ByPassword password) named signs = decided_if (d.user n user service (PasswordProof password)) (λ o. is_decided d n user service o) (PasswordProof password) refl refl (is_in s.methods (codes "password"))
  successful_same n user service (ByKey algorithm secret true) named signs = refl
  successful_same n user service (ByKey algorithm secret false) named signs =
      let key : List ℕ = m.blob algorithm secret in
      let input : List ℕ = signed_text session user service algorithm key in
      ap (λ (v : Bool). is_decided d n user service (if is_in s.methods (codes "publickey")
      then (if (v && (m.can algorithm).signature) && m.verify algorithm key input (m.sign algorithm secret input) then Some (KeyProof algorithm key) else None) else None)) named
      ∙ ap (λ (v : Bool). is_decided d n user service (if is_in s.methods (codes "publickey") then (if (m.can algorithm).signature && v then Some (KeyProof algorithm key) else None) else None)) (signs input)
      ∙ decided_able (d.user n user service (KeyProof algorithm key)) (λ o. is_decided d n user service o) (KeyProof algorithm key) refl refl (is_in s.methods (codes "publickey")) (m.can algorithm).signature

  -- what a request came to is the same at the endpoint and by the configs
  pub tried_same : (made : List AttemptData) (n : ℕ) (r : AttemptData) → n ≡ length made + 1 → IsTestedName r.proving → CanSign m r.proving
      → tried_with r.user r.service (held_method m session r.user r.service r.proving) (is_successful_at m d (config_of_server s) session n r.user r.service (held_method m session r.user r.service r.proving)) ≡ tried_by m d s made r
  tried_same made n r at named signs =
      ap (λ (b : Bool). tried_with r.user r.service (held_method m session r.user r.service r.proving) b) (successful_same n r.user r.service r.proving named signs)
      ∙ ap (λ (k : ℕ). tried_with r.user r.service (held_method m session r.user r.service r.proving) (is_successful m d s k r)) at
      ∙ ap (λ (name : List ℕ). record { user = r.user; service = r.service; successful = if is_successful m d s (length made + 1) r then Some name else None }) (method_named m session r.user r.service r.proving)

  pub tried_more : (made : List AttemptData) (r : AttemptData) → tried_of m d s (made ++ r ∷ []) ≡ tried_of m d s made ++ tried_by m d s made r ∷ []
  tried_more made r = flat-push (λ before x. tried_by m d s before x ∷ []) [] made r

  -- where the server stands after the requests made
  module _ (version kexinit : List ℕ) (shares : ShareForm) (left : List AttemptData) (strict first : Bool) (allowance : Option ℕ) (made : List AttemptData) where
    abbrev k : Known
    k = record {
      version = version;
      kexinit = kexinit;
      algorithms = a;
      shares = shares;
      session = session;
      request = length made + 1;
      left = left;
      completed = completed_after none_completed (tried_of m d s made);
      strict = strict;
      first = first;
      allowance = allowance;
    }

    module _ (r : AttemptData) (granted : length made + 1 ≤ s.tries) where
      abbrev method : MethodData
      method = held_method m session r.user r.service r.proving

      -- all required methods are completed after a successful request
      done_same : (b : Bool) → is_successful m d s (length made + 1) r ≡ b → (b && completes (config_of_server s) k r.user r.service method b) ≡ is_accepted m d s made r
      done_same false e = rw e refl
      done_same true e =
          let t : Tried = tried_with r.user r.service method true in
          let name : method_name method ≡ proving_name r.proving = method_named m session r.user r.service r.proving in
          let same : t ≡ tried_by m d s made r = rw (e, name) refl in
          let whole : tried_of m d s made ++ t ∷ [] ≡ tried_of m d s (made ++ r ∷ []) = ap (λ (x : Tried). tried_of m d s made ++ x ∷ []) same ∙ sym (tried_more made r) in
          rw e (complete_is (tried_of m d s made) t (method_name method) refl s.required sound.required ∙ ap (λ (l : List Tried). are_completed s.required r.user r.service l) whole)

      -- a request that isn't the last is told so much
      more_same : (x : MessageData) → x ≡ answer_to m d s made r → (last : Bool) → (length made + 1 == s.tries) ≡ last → more_reply (config_of_server s) k x ≡ how_reply m d c s a made r (if last then Some Limit else None)
      more_same x is last e =
          ap (λ (b : Bool). cond b (fails fault.TooManyTries) (goes (written_message x ∷ []))) (last_test (length made + 1) s.tries granted ∙ e)
          ∙ by last
        where
          by : (last : Bool) → cond last (fails fault.TooManyTries) (goes (written_message x ∷ [])) ≡ how_reply m d c s a made r (if last then Some Limit else None)
          by true = refl
          by false = ap (λ (y : MessageData). goes (written_message y ∷ [])) is

      -- a request that is no query
      other_same : is_successful_at m d (config_of_server s) session (length made + 1) r.user r.service method ≡ is_successful m d s (length made + 1) r
          → answer_to m d s made r ≡ UserauthFailure s.methods (is_successful m d s (length made + 1) r) → agreed_by k r.user r.service ≡ agreed m c s a r
          → tried_reply (config_of_server s) k r.user r.service method (is_successful_at m d (config_of_server s) session (length made + 1) r.user r.service method)
          ≡ how_reply m d c s a made r (if is_accepted m d s made r then Some (Success r) else (if length made + 1 == s.tries then Some Limit else None))
      other_same successful answer agreed_is =
          ap (λ (b : Bool). tried_reply (config_of_server s) k r.user r.service method b) successful
          ∙ ap (λ (b : Bool). cond b (record { answers = written_message UserauthSuccess ∷ []; end = Authenticated (agreed_by k r.user r.service) })
          (more_reply (config_of_server s) k (UserauthFailure s.methods (is_successful m d s (length made + 1) r)))) (done_same (is_successful m d s (length made + 1) r) refl)
          ∙ by (is_accepted m d s made r)
        where
          by : (b : Bool) → cond b (record { answers = written_message UserauthSuccess ∷ []; end = Authenticated (agreed_by k r.user r.service) })
              (more_reply (config_of_server s) k (UserauthFailure s.methods (is_successful m d s (length made + 1) r)))
              ≡ how_reply m d c s a made r (if b then Some (Success r) else (if length made + 1 == s.tries then Some Limit else None))
          by true = ap (λ (g : AgreedData). record { answers = written_message UserauthSuccess ∷ []; end = Authenticated g }) agreed_is
          by false = more_same (UserauthFailure s.methods (is_successful m d s (length made + 1) r)) (sym answer) (length made + 1 == s.tries) refl

    -- a query
    would_same : (user service algorithm secret : List ℕ) → is_name algorithm ≡ true → nat_le (length (m.blob algorithm secret)) 8192 ≡ true
        → would_do m d (config_of_server s) k user service algorithm (m.blob algorithm secret) ≡ is_proved m d s (length made + 1) (record { user = user; service = service; proving = ByKey algorithm secret true })
    would_same user service algorithm secret named short =
        rw (named, short) (and_apart (is_in s.methods (codes "publickey")) (m.can algorithm).signature (d.user (length made + 1) user service (KeyProof algorithm (m.blob algorithm secret))))

    method_same : (user service : List ℕ) (p : CredentialData) → IsTestedName p → CanSign m p → HasShortBlob m p → length made + 1 ≤ s.tries → agreed_by k user service ≡ agreed m c s a (record { user = user; service = service; proving = p })
        → method_reply m d (config_of_server s) k user service (held_method m session user service p)
        ≡ how_reply m d c s a made (record { user = user; service = service; proving = p })
        (if is_accepted m d s made (record { user = user; service = service; proving = p }) then Some (Success (record { user = user; service = service; proving = p }))
        else (if length made + 1 == s.tries then Some Limit else None))
    method_same user service ByNothing named signs short granted agreed_is =
        other_same (record { user = user; service = service; proving = ByNothing }) granted (successful_same (length made + 1) user service ByNothing named signs) refl agreed_is
    method_same user service (ByPassword password) named signs short granted agreed_is =
        other_same (record { user = user; service = service; proving = ByPassword password }) granted (successful_same (length made + 1) user service (ByPassword password) named signs) refl agreed_is
    method_same user service (ByKey algorithm secret false) named signs short granted agreed_is =
        other_same (record { user = user; service = service; proving = ByKey algorithm secret false }) granted (successful_same (length made + 1) user service (ByKey algorithm secret false) named signs) refl agreed_is
    method_same user service (ByKey algorithm secret true) named signs short granted agreed_is =
        let r : AttemptData = record { user = user; service = service; proving = ByKey algorithm secret true } in
        more_same r granted (query_answer (config_of_server s) algorithm (m.blob algorithm secret) (would_do m d (config_of_server s) k user service algorithm (m.blob algorithm secret)))
        (ap (λ (b : Bool). if b then UserauthPkOk algorithm (m.blob algorithm secret) else UserauthFailure s.methods false) (would_same user service algorithm secret named short)) (length made + 1 == s.tries) refl

    pub judged : (r : AttemptData) → IsTestedName r.proving → CanSign m r.proving → HasShortBlob m r.proving → length made + 1 ≤ s.tries
        → session ≡ session_between m c s a → strict ≡ is_strict s.side.strict Server (client_offer c)
        → request_reply m d (config_of_server s) k r.user r.service (held_method m session r.user r.service r.proving) ≡ how_reply m d c s a made r (ends_by m d s made r)
    unfolding request_reply
    judged r named signs short granted es et = by (is_in s.services r.service)
      where
        agreed_is : agreed_by k r.user r.service ≡ agreed m c s a r
        agreed_is =
            ap (λ (b : Bool). record { algorithms = a; strict = b; session = session; user = r.user; service = r.service }) (et ∙ server_strict c s sound)
            ∙ ap (λ (h : List ℕ). record { algorithms = a; strict = c.side.strict && s.side.strict; session = h; user = r.user; service = r.service }) es

        by : (has : Bool) → cond has (method_reply m d (config_of_server s) k r.user r.service (held_method m session r.user r.service r.proving)) (fails fault.Service)
            ≡ how_reply m d c s a made r (if not has then Some Unknown else (if is_accepted m d s made r then Some (Success r) else (if length made + 1 == s.tries then Some Limit else None)))
        by true = method_same r.user r.service r.proving named signs short granted agreed_is
        by false = refl

-- a request that ends nothing isn't the last that is granted
none_last : (m : SuiteData) (d : DecisionsData) (s : ServerData) (made : List AttemptData) (r : AttemptData) → ends_by m d s made r ≡ None → (length made + 1 == s.tries) ≡ false
none_last m d s made r e = by (not (is_in s.services r.service)) (is_accepted m d s made r) (length made + 1 == s.tries) e
  where
    by : (x y z : Bool) → cond x (Some Unknown) (cond y (Some (Success r)) (cond z (Some Limit) None)) ≡ None → z ≡ false
    by true y z e = absurd (cc (e))
    by false true z e = absurd (cc (e))
    by false false true e = absurd (cc (e))
    by false false false e = refl

pub brings_at : (m : SuiteData) (d : DecisionsData) (c : ClientData) (s : ServerData) (j : ℕ) (x : AttemptData) → slice_get (offered m d s c.plan) j ≡ Some x
    → Brings (ends_by m d s (take j (offered m d s c.plan)) x) (j + 1) (verdict m d c s)
unfolding verdict
brings_at m d c s j x get =
    subst (λ (n : ℕ). Brings (ends_by m d s (take j (offered m d s c.plan)) x) n (verdict_after (ends_by m d s) [] (offered m d s c.plan))) (let e : 0 + j + 1 ≡ j + 1 = omega arith in e)
    (brings (ends_by m d s) [] (offered m d s c.plan) j x get)

pub get_in : {A : Type 0} (xs : List A) (j : ℕ) → j < length xs → (x : A) × (slice_get xs j ≡ Some x)
get_in [] j h = absurd (omega (arith, h))
get_in (x ∷ xs) zero h = (x, refl)
get_in (x ∷ xs) (suc j) h = get_in xs j (omega (arith, h))

pub take_length : {A : Type 0} (xs : List A) (j : ℕ) → j ≤ length xs → length (take j xs) ≡ j
take_length xs zero h = refl
take_length [] (suc j) h = absurd (omega (arith, h))
take_length (x ∷ xs) (suc j) h = ap suc (take_length xs j (omega (arith, h)))

-- each request that is made is granted
pub granted : (m : SuiteData) (d : DecisionsData) (c : ClientData) (s : ServerData) → 1 ≤ s.tries → (verdict m d c s).requests ≤ length (offered m d s c.plan) → (j : ℕ) → j < (verdict m d c s).requests → j + 1 ≤ s.tries
granted m d c s some most zero h = omega (arith, some)
granted m d c s some most (suc j) h =
    let before : j + 1 ≤ s.tries = granted m d c s some most j (omega (arith, h)) in
    let x = get_in (offered m d s c.plan) j (omega (arith, h, most)) in
    let none = none_last m d s (take j (offered m d s c.plan)) x.0 ((brings_at m d c s j x.0 x.1).before (omega (arith, h))) in
    let made_is : length (take j (offered m d s c.plan)) ≡ j = take_length (offered m d s c.plan) j (omega (arith, h, most)) in
    let not_last : (j + 1 == s.tries) ≡ false = sym (ap (λ (n : ℕ). n + 1 == s.tries) made_is) ∙ none in
    later j before not_last
  where
    later : (j : ℕ) → j + 1 ≤ s.tries → (j + 1 == s.tries) ≡ false → suc j + 1 ≤ s.tries
    later j before none = grind (arith, nat_tests)

pub some_received : (how : How) (n : ℕ) → (n ≡ 0 → how ≡ Exhausted) → 1 ≤ n + received_last how
some_received how zero f = omega (arith, ap received_last (f refl))
some_received how (suc n) f = omega arith
