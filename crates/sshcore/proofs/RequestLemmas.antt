-- What a request of authentication proves, and how it is answered.

use Rattle.std.proofs.Common.{◌≡◌, Bor, ℕ, ◌≤◌, Bool, true, false, List, [], ◌∷◌, length, map, Option, None, Some, option_map, inl, inr, refl, sym, ap, ◌∙◌, arith, cond, if◌then◌else◌}
use Rattle.std.specs.Prelude.{◌&&◌, IfSome, nat_le, string_bytes}
use Rattle.std.proofs.lemmas.List.{length-map}
use Rattle.sshwire.specs.Types.{names_body}
use Rattle.sshmsg.specs.MessageData.{MessageData, MethodData, NoMethod, OtherMethod, Password, PasswordChange, PublicKey, PublicKeyQuery, UserauthFailure, UserauthSuccess, method_name}
use Rattle.sshmsg.specs.Written.{written_message}
use Rattle.sshneg.specs.ChoiceReadings.{is_in}
use Rattle.sshpacket.specs.Suite.{SuiteData}
use Rattle.sshcore.specs.declared.end.Fault.TheVariants as fault
use Rattle.sshcore.specs.Attempts.{agreed_by}
use Rattle.sshcore.specs.EndData.{Authenticated, EndData, Reply, fails, goes}
use Rattle.sshcore.specs.Authenticating.{FitsClaim, HasName, claimed_reply, claims, tried_key}
use Rattle.sshcore.specs.Brings.{IsOngoing}
use Rattle.sshcore.specs.StateData.{Carried, StateData}
use Rattle.sshcore.specs.KnownBefore.{Known}
use Rattle.sshcore.specs.EndpointParts.{ConfigData, DecisionsData, KeyProof, ProofData}
use Rattle.sshcore.specs.Requests.{claim_step, completes, is_last_try, is_signed, is_successful, may_do, method_step, more_reply, query_reply, request_step, tried_reply}
use Rattle.sshcore.specs.Questions.{QuestionData, UserQuestion, decided, is_yes}
use Rattle.sshcore.specs.QuestionsView.{claim_method, claim_proof}
use Rattle.sshcore.specs.Step.{AtOnce, Asks, asked_in, settled}
use Rattle.sshmsg.specs.declared.message.Method.{Method}
use Rattle.sshmsg.specs.declared.message.Method.TheVariants as method
use Rattle.sshmsg.specs.View.{method_data}
use Rattle.sshcore.specs.Judging.{KeepsMethod}
use Rattle.sshcore.specs.declared.pending.Claim.{Claim}
use Rattle.sshcore.specs.declared.pending.Claim.TheVariants as claim
use Rattle.std.specs.Global.{Global, Vec}
use Rattle.std.specs.Prelude.{String}
use Rattle.sshcore.specs.CompletedMethods.{completed_after_one, is_complete, kept_completed, successful_completed}
use Rattle.sshcore.specs.Tries.{is_decided, key_of, proof_in, tried_with}
use Rattle.sshcore.proofs.ConfigLemmas.{BodyLaw}
use Rattle.sshcore.proofs.ConfigOffers.{few_names}

-- the names of a short text are few
pub few_texts : {X : Type 0} → BodyLaw → (view : X → List ℕ) (texts : List X) (names : List (List ℕ)) → map view texts ≡ names → length (names_body names) ≤ 1000
    → length texts ≤ 1001
few_texts body view texts names same short =
    let few : length names ≤ 1001 = few_names body names short in
    let long : length (map view texts) ≡ length texts = length-map texts view in
    let one : length (map view texts) ≡ length names = ap length same in
    omega arith

-- what a server finds by this name among its services
abbrev pub FindsService : ConfigData → List ℕ → Option (Bor (List ℕ)) → Type 0
FindsService config name found = option_map (λ (own : Bor (List ℕ)). own.now) found ≡ (if is_in config.services name then Some name else None)

-- it has none of them, or this one
pub missed : (has : Bool) (name : List ℕ) (found : Option (Bor (List ℕ))) → option_map (λ (own : Bor (List ℕ)). own.now) found ≡ (if has then Some name else None)
    → found ≡ None → has ≡ false
missed true name found e is = absurd cc
missed false name found e is = refl

pub had : (has : Bool) (name : List ℕ) (found : Option (Bor (List ℕ))) (own : Bor (List ℕ))
    → option_map (λ (own : Bor (List ℕ)). own.now) found ≡ (if has then Some name else None) → found ≡ Some own → (has ≡ true) × (own.now ≡ name)
had true name found own e is = (refl, cc)
had false name found own e is = absurd cc

-- what a request asks, by what is kept of what it claims
pub claims_ask : (config : ConfigData) (known : Known) (user service : List ℕ) (method kept : MethodData) (o : Option Claim) (p : Option ProofData) → is_signed kept ≡ is_signed method
    → option_map claim_proof o ≡ p → IfSome o (λ c. claim_method c ≡ kept)
    → option_map (λ c. UserQuestion known.request user service (claim_proof c) (is_signed (claim_method c))) o ≡ asked_in (claim_step config known user service method p)
claims_ask config known user service method kept None p same proves keeps = rw (← proves) refl
claims_ask config known user service method kept (Some c) p same proves keeps =
    ap (λ (b : Bool). Some (UserQuestion known.request user service (claim_proof c) b)) (ap is_signed keeps ∙ same) ∙ (rw (← proves) refl)

module _ (m : SuiteData) (d : DecisionsData) (config : ConfigData) (known : Known) (user service : List ℕ) where
  -- a request that asks nothing is answered as one that was tried in vain
  calm_query : (last may : Bool) (f : Reply) (q : QuestionData) (g : Bool → Reply) → asked_in (cond last (AtOnce f) (cond may (Asks q (λ answer. g (is_yes answer))) (AtOnce (g false)))) ≡ None
      → cond last f (g false) ≡ settled d (cond last (AtOnce f) (cond may (Asks q (λ answer. g (is_yes answer))) (AtOnce (g false))))
  calm_query true may f q g calm = refl
  calm_query false true f q g calm = absurd cc
  calm_query false false f q g calm = refl

  calm_claim : (method : MethodData) (o : Option ProofData) → asked_in (claim_step config known user service method o) ≡ None
      → more_reply config known (UserauthFailure config.methods false) ≡ settled d (claim_step config known user service method o)
  calm_claim method None calm = refl
  calm_claim method (Some proof) calm = absurd cc

  calm_method : (method : MethodData) → asked_in (method_step m config known user service method) ≡ None
      → more_reply config known (UserauthFailure config.methods false) ≡ settled d (method_step m config known user service method)
  calm_method NoMethod calm = calm_claim NoMethod (proof_in m config known.session user service NoMethod) calm
  calm_method (Password password) calm = calm_claim (Password password) (proof_in m config known.session user service (Password password)) calm
  calm_method (PasswordChange old new) calm = calm_claim (PasswordChange old new) (proof_in m config known.session user service (PasswordChange old new)) calm
  calm_method (PublicKey algorithm key signature) calm = calm_claim (PublicKey algorithm key signature) (proof_in m config known.session user service (PublicKey algorithm key signature)) calm
  calm_method (PublicKeyQuery algorithm key) calm =
      calm_query (is_last_try config known) (may_do m config algorithm key) (fails fault.TooManyTries) (UserQuestion known.request user service (KeyProof algorithm key) false) (query_reply config algorithm key) calm
  calm_method (OtherMethod name fields) calm = calm_claim (OtherMethod name fields) (proof_in m config known.session user service (OtherMethod name fields)) calm

  -- and is none that is successful
  vain_claim : (method : MethodData) (o : Option ProofData) → asked_in (claim_step config known user service method o) ≡ None → is_decided d known.request user service o ≡ false
  vain_claim method None calm = refl
  vain_claim method (Some proof) calm = absurd cc

  vain_method : (method : MethodData) → asked_in (method_step m config known user service method) ≡ None → is_successful m d config known user service method ≡ false
  unfolding proof_in
  vain_method NoMethod calm = vain_claim NoMethod (proof_in m config known.session user service NoMethod) calm
  vain_method (Password password) calm = vain_claim (Password password) (proof_in m config known.session user service (Password password)) calm
  vain_method (PasswordChange old new) calm = refl
  vain_method (PublicKey algorithm key signature) calm = vain_claim (PublicKey algorithm key signature) (proof_in m config known.session user service (PublicKey algorithm key signature)) calm
  vain_method (PublicKeyQuery algorithm key) calm = refl
  vain_method (OtherMethod name fields) calm = refl

  -- a request that asks is answered by the answer
  asked_query : (last may : Bool) (f : Reply) (q : QuestionData) (g : Bool → Reply) (x : QuestionData)
      → asked_in (cond last (AtOnce f) (cond may (Asks q (λ answer. g (is_yes answer))) (AtOnce (g false)))) ≡ Some x
      → settled d (cond last (AtOnce f) (cond may (Asks q (λ answer. g (is_yes answer))) (AtOnce (g false)))) ≡ g (is_yes (decided d x))
  asked_query true may f q g x asks = absurd cc
  asked_query false true f q g x asks = let same : q ≡ x = cc in ap (λ (y : QuestionData). g (is_yes (decided d y))) same
  asked_query false false f q g x asks = absurd cc

  asked_claim : (method : MethodData) (o : Option ProofData) (x : QuestionData) → asked_in (claim_step config known user service method o) ≡ Some x
      → settled d (claim_step config known user service method o) ≡ tried_reply config known user service method (is_yes (decided d x))
  asked_claim method None x asks = absurd cc
  asked_claim method (Some proof) x asks =
      let same : UserQuestion known.request user service proof (is_signed method) ≡ x = cc in
      ap (λ (y : QuestionData). tried_reply config known user service method (is_yes (decided d y))) same

  asked_method : (method : MethodData) (x : QuestionData) → asked_in (method_step m config known user service method) ≡ Some x
      → settled d (method_step m config known user service method) ≡ claimed_reply config known user service method (is_yes (decided d x))
  asked_method NoMethod x asks = asked_claim NoMethod (proof_in m config known.session user service NoMethod) x asks
  asked_method (Password password) x asks = asked_claim (Password password) (proof_in m config known.session user service (Password password)) x asks
  asked_method (PasswordChange old new) x asks = asked_claim (PasswordChange old new) (proof_in m config known.session user service (PasswordChange old new)) x asks
  asked_method (PublicKey algorithm key signature) x asks = asked_claim (PublicKey algorithm key signature) (proof_in m config known.session user service (PublicKey algorithm key signature)) x asks
  asked_method (PublicKeyQuery algorithm key) x asks =
      asked_query (is_last_try config known) (may_do m config algorithm key) (fails fault.TooManyTries) (UserQuestion known.request user service (KeyProof algorithm key) false) (query_reply config algorithm key) x asks
  asked_method (OtherMethod name fields) x asks = asked_claim (OtherMethod name fields) (proof_in m config known.session user service (OtherMethod name fields)) x asks

  -- and is successful by it
  decided_claim : (method : MethodData) (o : Option ProofData) (x : QuestionData) → asked_in (claim_step config known user service method o) ≡ Some x
      → is_decided d known.request user service o ≡ is_yes (decided d x)
  decided_claim method None x asks = absurd cc
  decided_claim method (Some proof) x asks =
      let same : UserQuestion known.request user service proof (is_signed method) ≡ x = cc in
      ap (λ (y : QuestionData). is_yes (decided d y)) same

  query_unsuccessful : (algorithm key : List ℕ) → is_successful m d config known user service (PublicKeyQuery algorithm key) ≡ false
  unfolding proof_in
  query_unsuccessful algorithm key = refl

  decided_method : (method : MethodData) (x : QuestionData) → asked_in (method_step m config known user service method) ≡ Some x
      → is_successful m d config known user service method ≡ (claims method && is_yes (decided d x))
  decided_method NoMethod x asks = decided_claim NoMethod (proof_in m config known.session user service NoMethod) x asks
  decided_method (Password password) x asks = decided_claim (Password password) (proof_in m config known.session user service (Password password)) x asks
  decided_method (PasswordChange old new) x asks = decided_claim (PasswordChange old new) (proof_in m config known.session user service (PasswordChange old new)) x asks
  decided_method (PublicKey algorithm key signature) x asks = decided_claim (PublicKey algorithm key signature) (proof_in m config known.session user service (PublicKey algorithm key signature)) x asks
  decided_method (PublicKeyQuery algorithm key) x asks = query_unsuccessful algorithm key
  decided_method (OtherMethod name fields) x asks = decided_claim (OtherMethod name fields) (proof_in m config known.session user service (OtherMethod name fields)) x asks

  module _ (method : MethodData) where
    -- by whether the server has the service
    in_service : (has : Bool) (x : QuestionData) → asked_in (cond has (method_step m config known user service method) (AtOnce (fails fault.Service))) ≡ Some x
        → asked_in (method_step m config known user service method) ≡ Some x
        × (settled d (cond has (method_step m config known user service method) (AtOnce (fails fault.Service))) ≡ settled d (method_step m config known user service method))
    in_service true x asks = (asks, refl)
    in_service false x asks = absurd cc

    pub asked_request : (x : QuestionData) → asked_in (request_step m config known user service method) ≡ Some x
        → settled d (request_step m config known user service method) ≡ claimed_reply config known user service method (is_yes (decided d x))
    unfolding request_step
    asked_request x asks = let two = in_service (is_in config.services service) x asks in two.1 ∙ asked_method method x two.0

    pub decided_request : (x : QuestionData) → asked_in (request_step m config known user service method) ≡ Some x
        → is_successful m d config known user service method ≡ (claims method && is_yes (decided d x))
    unfolding request_step
    decided_request x asks = let two = in_service (is_in config.services service) x asks in decided_method method x two.0

    vain_service : (has : Bool) → asked_in (cond has (method_step m config known user service method) (AtOnce (fails fault.Service))) ≡ None
        → IsOngoing (settled d (cond has (method_step m config known user service method) (AtOnce (fails fault.Service)))).end → is_successful m d config known user service method ≡ false
    vain_service true calm goes_on = vain_method method calm
    vain_service false calm (inl shut) = absurd cc
    vain_service false calm (inr (a, shut)) = absurd cc

    pub vain_request : asked_in (request_step m config known user service method) ≡ None → IsOngoing (settled d (request_step m config known user service method)).end
        → is_successful m d config known user service method ≡ false
    unfolding request_step
    vain_request calm goes_on = vain_service (is_in config.services service) calm goes_on

    module _ (found : Option (Bor (List ℕ))) (e : FindsService config service found) where
      -- the answer to a request of a service that the server doesn't have
      pub reply_elsewhere : found ≡ None → fails fault.Service ≡ settled d (request_step m config known user service method)
      unfolding request_step
      reply_elsewhere is =
          let off : is_in config.services service ≡ false = missed (is_in config.services service) service found e is in
          rw off refl

      -- and of one that it has, which asks nothing
      pub reply_vain : (own : Bor (List ℕ)) → found ≡ Some own → asked_in (request_step m config known user service method) ≡ None
          → more_reply config known (UserauthFailure config.methods false) ≡ settled d (request_step m config known user service method)
      unfolding request_step
      reply_vain own is = by (is_in config.services service) (had (is_in config.services service) service found own e is).0
        where
          by : (has : Bool) → has ≡ true → asked_in (cond has (method_step m config known user service method) (AtOnce (fails fault.Service))) ≡ None
              → more_reply config known (UserauthFailure config.methods false) ≡ settled d (cond has (method_step m config known user service method) (AtOnce (fails fault.Service)))
          by true on calm = calm_method method calm
          by false on calm = absurd cc

-- what is asked of a request for a service: nothing of one that the server doesn't have
module _ (m : SuiteData) (config : ConfigData) (known : Known) (user service : List ℕ) (method : MethodData) (found : Option (Bor (List ℕ))) (e : FindsService config service found) where
  pub asks_elsewhere : found ≡ None → ◌≡◌ {A = Option QuestionData} None (asked_in (request_step m config known user service method))
  unfolding request_step
  asks_elsewhere is = rw (missed (is_in config.services service) service found e is) refl

  pub asks_here : (own : Bor (List ℕ)) → found ≡ Some own → asked_in (method_step m config known user own.now method) ≡ asked_in (request_step m config known user service method)
  unfolding request_step
  asks_here own is = let both = had (is_in config.services service) service found own e is in rw (both.0, both.1) refl

-- the answer to a request that ends nothing, as the last that is granted and before it
pub more_last : (config : ConfigData) (known : Known) (x : MessageData) → nat_le config.tries known.request ≡ true → fails fault.TooManyTries ≡ more_reply config known x
more_last config known x last = rw last refl

pub more_goes : (config : ConfigData) (known : Known) (x : MessageData) → nat_le config.tries known.request ≡ false → goes (written_message x ∷ []) ≡ more_reply config known x
more_goes config known x more = rw more refl

-- what is kept after a successful request
module _ (config : ConfigData) (k mid other : Known) (user service : List ℕ) (method : MethodData)
    (forgot : mid ≡ record k { completed = kept_completed k.completed (record { user = user; service = service; successful = None }) })
    (completed : other ≡ record mid { completed = successful_completed mid.completed (tried_with user service method true) (Some (method_name method)) }) where
  successful_known : other ≡ record k { completed = completed_after_one k.completed (tried_with user service method true) }
  successful_known = completed ∙ ap (λ (x : Known). record x { completed = successful_completed x.completed (tried_with user service method true) (Some (method_name method)) }) forgot

  successful_complete : (b : Bool) → is_complete config.required other.completed ≡ b → completes config k user service method true ≡ b
  successful_complete b e = ap (λ (x : Known). is_complete config.required x.completed) (sym successful_known) ∙ e

  pub successful_done : is_complete config.required other.completed ≡ true
      → ◌≡◌ {A = Reply} (record { answers = written_message UserauthSuccess ∷ []; end = Authenticated (agreed_by other user service) }) (tried_reply config k user service method true)
  successful_done done =
      ap (λ (x : Known). record { answers = written_message UserauthSuccess ∷ []; end = Authenticated (agreed_by x user service) }) successful_known
      ∙ sym (rw (successful_complete true done) refl)

  pub successful_more : is_complete config.required other.completed ≡ false → more_reply config other (UserauthFailure config.methods true) ≡ tried_reply config k user service method true
  successful_more none =
      ap (λ (x : Known). more_reply config x (UserauthFailure config.methods true)) successful_known ∙ sym (rw (successful_complete false none) refl)

-- a request that is kept and is no query
abbrev NoQuery : Claim → Type 0
NoQuery x = (algorithm : String Global) (blob : Vec ℕ) → x ≡ claim.Query algorithm blob → ⊥

pub claims_other : (x : Claim) → NoQuery x → claims (claim_method x) ≡ true
claims_other claim.None other = refl
claims_other (claim.Password password) other = refl
claims_other (claim.Query algorithm blob) other = absurd (other algorithm blob refl)
claims_other (claim.Key algorithm blob) other = refl

pub named_other : (config : ConfigData) (known : Known) (x : Claim) → NoQuery x → FitsClaim config known (claim_method x) → HasName (claim_method x)
named_other config known claim.None other fits = tt
named_other config known (claim.Password password) other fits = tt
named_other config known (claim.Query algorithm blob) other fits = absurd (other algorithm blob refl)
named_other config known (claim.Key algorithm blob) other fits = fits

pub claimed_other : (config : ConfigData) (known : Known) (user service : List ℕ) (x : Claim) → NoQuery x → (allowed : Bool)
    → tried_reply config known user service (claim_method x) allowed ≡ claimed_reply config known user service (claim_method x) allowed
claimed_other config known user service claim.None other allowed = refl
claimed_other config known user service (claim.Password password) other allowed = refl
claimed_other config known user service (claim.Query algorithm blob) other allowed = absurd (other algorithm blob refl)
claimed_other config known user service (claim.Key algorithm blob) other allowed = refl

-- no request by another method carries a key along, and none that wasn't successful
pub unkeyed : (c : Carried) (method : MethodData) → key_of method ≡ [] → (successful : Bool) → tried_key c method successful ≡ c
unkeyed c method none true = rw none refl
unkeyed c method none false = refl

pub untried : (c : Carried) (method : MethodData) → tried_key c method false ≡ c
untried c method = refl

-- what is kept after a request, as the endpoint goes on
module _ (old new : StateData) where
  pub with_end : (known : Known) → new ≡ record old { known = known } → new ≡ record old { end = new.end; known = known }
  with_end known e = e ∙ ap (λ (x : EndData). record old { end = x; known = known }) (sym (ap (λ (k : StateData). k.end) e))

-- a key that is kept of a signed request
pub key_kept : (config : ConfigData) (known : Known) (algorithm key signature : List ℕ) (c : Claim) → claim_method c ≡ PublicKey algorithm key [] → HasName (claim_method c) → KeepsMethod config known (PublicKey algorithm key signature) c
key_kept config known algorithm key signature claim.None e named = absurd cc
key_kept config known algorithm key signature (claim.Password password) e named = absurd cc
key_kept config known algorithm key signature (claim.Query name blob) e named = absurd cc
key_kept config known algorithm key signature (claim.Key name blob) e named =
    let same : string_bytes name ≡ algorithm = cc in
    let bytes : blob.items ≡ key = cc in
    (signature, rw (same, bytes) refl, named)

-- what any other method asks: nothing
module _ (m : SuiteData) (config : ConfigData) (known : Known) (user service : List ℕ) where
  pub other_asks : (x : Method) → (x ≡ method.None → ⊥) → ((password : Bor (List ℕ)) → x ≡ method.Password password → ⊥)
      → ((algorithm key signature : Bor (List ℕ)) → x ≡ method.PublicKey algorithm key signature → ⊥) → ((algorithm key : Bor (List ℕ)) → x ≡ method.PublicKeyQuery algorithm key → ⊥)
      → ◌≡◌ {A = Option QuestionData} None (asked_in (method_step m config known user service (method_data x)))
  unfolding proof_in
  other_asks method.None a b e f = absurd (a refl)
  other_asks (method.Password password) a b e f = absurd (b password refl)
  other_asks (method.PasswordChange old new) a b e f = refl
  other_asks (method.PublicKey name blob signature) a b e f = absurd (e name blob signature refl)
  other_asks (method.PublicKeyQuery name blob) a b e f = absurd (f name blob refl)
  other_asks (method.Other x) a b e f = refl
