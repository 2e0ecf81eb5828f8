-- Verdicts and courses of plans with key queries and required methods, evaluated.

use Rattle.std.proofs.Common.{◌≡◌, ℕ, ◌==◌, Bool, true, false, List, [], ◌∷◌, ◌++◌, codes, refl, None}
use Rattle.std.specs.Prelude.{◌&&◌, ◌||◌, not}
use Rattle.std.specs.Str.{bytes_eq}
use Rattle.sshmsg.specs.Written.{written_message}
use Rattle.sshpacket.specs.Suite.{SuiteData}
use Rattle.sshcore.specs.ConfigParts.{AttemptData, ByKey, ByNothing, ByPassword, ClientData, CredentialData, ServerData}
use Rattle.sshcore.specs.EndpointParts.{DecisionsData, KeyProof, NoProof, PasswordProof, ProofData}
use Rattle.sshworld.specs.Course.{Requests, client_part, server_part}
use Rattle.sshworld.specs.Guesses.{NoGuess}
use Rattle.sshworld.specs.Outcome.{BothEnds}
use Rattle.sshworld.specs.Rounds.{after_rounds, all_received}
use Rattle.sshworld.specs.Verdicts.{Exhausted, Limit, Success, verdict}
use Rattle.sshworld.specs.Wording.{Wording}
use Rattle.sshworld.specs.Wordings.{answer_to}

-- a suite, a client and a server of which only what stands here matters
module _ (suite : SuiteData) (anyone : ClientData) (any : ServerData) where
  m : SuiteData
  m = record suite { blob = λ algorithm secret. 66 ∷ secret; can = λ algorithm. record { signature = true; encryption = false } }

  -- and one that signs with nothing
  unable : SuiteData
  unable = record suite { blob = λ algorithm secret. 66 ∷ secret; can = λ algorithm. record { signature = false; encryption = false } }

  service : List ℕ
  service = codes "ssh-connection"

  -- whose requests are allowed: these passwords and keys of al, this password of bo, and al without any; but not those of this number
  knows : List ℕ → ProofData → Bool
  knows user NoProof = bytes_eq user (codes "al")
  knows user (PasswordProof password) = (bytes_eq user (codes "al") || bytes_eq user (codes "bo")) && bytes_eq password (0 ∷ [])
  knows user (KeyProof algorithm key) = bytes_eq user (codes "al") && (bytes_eq algorithm (codes "h") && bytes_eq key (66 ∷ 0 ∷ []))

  denying : ℕ → DecisionsData
  denying denied = record { host_key = λ algorithm blob. true; user = λ number user service proof. not (number == denied) && knows user proof; signature = λ number algorithm blob input. None }

  attempt : List ℕ → CredentialData → AttemptData
  attempt user proving = record { user = user; service = service; proving = proving }

  server : List (List ℕ) → List (List ℕ) → ℕ → ServerData
  server methods required tries = record any { services = service ∷ []; methods = methods; required = required; tries = tries }

  both : List (List ℕ)
  both = codes "password" ∷ codes "publickey" ∷ []

  client : List AttemptData → ClientData
  client plan = record anyone { plan = plan }

  -- one attempt that asks first
  asking : List AttemptData
  asking = attempt (codes "al") (ByKey (codes "h") (0 ∷ []) true) ∷ []

  itself : AttemptData
  itself = attempt (codes "al") (ByKey (codes "h") (0 ∷ []) false)

  -- It succeeds at its second request; where request 1 or 2 is denied, or publickey isn't listed, none is left; of two requests the
  -- second still succeeds, and of one the query was the last.
  queries : (verdict m (denying 0) (client asking) (server both [] 6) ≡ record { requests = 2; how = Success itself }) × (verdict m (denying 1) (client asking) (server both [] 6) ≡ record { requests = 1; how = Exhausted }) × (verdict m (denying 2) (client asking) (server both [] 6) ≡ record { requests = 2; how = Exhausted }) × (verdict m (denying 0) (client asking) (server both [] 2) ≡ record { requests = 2; how = Success itself }) × (verdict m (denying 0) (client asking) (server both [] 1) ≡ record { requests = 1; how = Limit }) × (verdict m (denying 0) (client asking) (server (codes "password" ∷ []) [] 6) ≡ record { requests = 1; how = Exhausted })
  unfolding verdict m service knows denying attempt server both client asking itself
  queries = (refl, refl, refl, refl, refl, refl)

  -- by an algorithm with which the suite doesn't sign no query is confirmed, and no request is successful
  unsigned : (verdict unable (denying 0) (client asking) (server both [] 6) ≡ record { requests = 1; how = Exhausted }) × (verdict unable (denying 0) (client (itself ∷ [])) (server both [] 6) ≡ record { requests = 1; how = Exhausted })
  unfolding verdict unable service knows denying attempt server both client asking itself
  unsigned = (refl, refl)

  -- plans of more than one attempt
  al_password : AttemptData
  al_password = attempt (codes "al") (ByPassword (0 ∷ []))

  bo_password : AttemptData
  bo_password = attempt (codes "bo") (ByPassword (0 ∷ []))

  al_nothing : AttemptData
  al_nothing = attempt (codes "al") ByNothing

  -- Both methods are required: they succeed at the second request, also as the last that is granted; of one request the first was the
  -- last; another user between them empties what was completed; a query between them doesn't; and `none` completes nothing.
  required : (verdict m (denying 0) (client (al_password ∷ itself ∷ [])) (server both both 6) ≡ record { requests = 2; how = Success itself }) × (verdict m (denying 0) (client (al_password ∷ itself ∷ [])) (server both both 2) ≡ record { requests = 2; how = Success itself }) × (verdict m (denying 0) (client (al_password ∷ itself ∷ [])) (server both both 1) ≡ record { requests = 1; how = Limit }) × (verdict m (denying 0) (client (al_password ∷ bo_password ∷ itself ∷ [])) (server both both 6) ≡ record { requests = 3; how = Exhausted }) × (verdict m (denying 0) (client (al_password ∷ asking)) (server both both 6) ≡ record { requests = 3; how = Success itself }) × (verdict m (denying 0) (client (al_nothing ∷ [])) (server both both 6) ≡ record { requests = 1; how = Exhausted })
  unfolding verdict m service knows denying attempt server both client asking itself al_password bo_password al_nothing
  required = (refl, refl, refl, refl, refl, refl)

  -- changed and changed back, the same method twice, and another service: a run is broken by each change; a request that fails breaks
  -- none
  runs : (verdict m (denying 0) (client (al_password ∷ bo_password ∷ al_password ∷ itself ∷ [])) (server both both 6) ≡ record { requests = 4; how = Success itself }) × (verdict m (denying 0) (client (al_password ∷ al_password ∷ [])) (server both both 6) ≡ record { requests = 2; how = Exhausted }) × (verdict m (denying 2) (client (al_password ∷ al_password ∷ itself ∷ [])) (server both both 6) ≡ record { requests = 3; how = Success itself }) × (verdict m (denying 3) (client (al_password ∷ asking)) (server both both 6) ≡ record { requests = 3; how = Exhausted })
  unfolding verdict m service knows denying attempt server both client asking itself al_password bo_password al_nothing
  runs = (refl, refl, refl, refl)

  -- the FAILURE that answers the first password
  partial : written_message (answer_to m (denying 0) (server both both 6) [] al_password) ≡ 51 ∷ 0 ∷ 0 ∷ 0 ∷ 18 ∷ (codes "password,publickey" ++ 1 ∷ [])
  unfolding written_message m service knows denying attempt server both client asking itself al_password
  partial = refl

  -- An attempt that asks, and succeeds: five rounds are enough, and four are not.
  rounds : (w : Wording) (ends : BothEnds)
      → (after_rounds (client_part (record w { banner = [] }) NoGuess (Requests (record { requests = 2; how = Success itself })) ends) (server_part (record w { banner = [] }) NoGuess (Requests (record { requests = 2; how = Success itself })) ends) 5
      ≡ all_received (client_part (record w { banner = [] }) NoGuess (Requests (record { requests = 2; how = Success itself })) ends) (server_part (record w { banner = [] }) NoGuess (Requests (record { requests = 2; how = Success itself })) ends))
      × (after_rounds (client_part (record w { banner = [] }) NoGuess (Requests (record { requests = 2; how = Success itself })) ends) (server_part (record w { banner = [] }) NoGuess (Requests (record { requests = 2; how = Success itself })) ends) 4
      ≡ record { client = 6; server = 6 })
  rounds w ends = (refl, refl)
