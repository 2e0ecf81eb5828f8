-- What an endpoint that ended authenticated has received: RFC 4252 section 5.1.

use Rattle.std.specs.Prelude.{◌≡◌, ℕ, true, List, [], ◌∷◌, ◌++◌, Ok}
use Rattle.sshmsg.specs.MessageData.{MethodData, UserauthRequest, UserauthSuccess}
use Rattle.sshmsg.specs.Messages.{message_in}
use Rattle.sshneg.specs.declared.side.Side.{Side}
use Rattle.sshneg.specs.declared.side.Side.TheVariants.{Client, Server}
use Rattle.sshneg.specs.ChoiceReadings.{is_in}
use Rattle.sshpacket.specs.Stream.{Units}
use Rattle.sshpacket.specs.Suite.{SuiteData}
use Rattle.sshcore.specs.declared.phase_table.Phase.TheVariants as phase
use Rattle.sshcore.specs.Attempts.{agreed_by}
use Rattle.sshcore.specs.ConfigParts.{AttemptData}
use Rattle.sshcore.specs.Directions.{payloads_in}
use Rattle.sshcore.specs.EndData.{AgreedData}
use Rattle.sshcore.specs.KnownBefore.{Known, known_at}
use Rattle.sshcore.specs.EndpointParts.{ConfigData, DecisionsData, Setup}
use Rattle.sshcore.specs.Phases.{phase_at}
use Rattle.sshcore.specs.CompletedMethods.{Tried, are_completed}
use Rattle.sshcore.specs.Requests.{is_successful}
use Rattle.sshcore.specs.Tries.{tried_at, tried_with}

-- A server accepts a user: this payload is the user's request for a service by some method; the server has the service; the
-- request is successful, so it is no query, it proves something, and the decision on that is yes; and after it all required methods
-- are completed: in the unbroken run of requests for this user and service that it ends, for each of them one was successful.
pub record AcceptsUser (m : SuiteData) (d : DecisionsData) (config : ConfigData) (known : Known) (tried : List Tried) (payload : List ℕ) (a : AgreedData) : Type 0 where
  pub method : MethodData
  pub requests : message_in known.shares payload ≡ Ok (UserauthRequest a.user a.service method)
  pub has_service : is_in config.services a.service ≡ true
  pub successful : is_successful m d config known a.user a.service method ≡ true
  pub completed : are_completed config.required a.user a.service (tried ++ tried_with a.user a.service method true ∷ []) ≡ true

-- A client is accepted: this payload is a SUCCESS, and user and service are those of the attempt that the client made last, which
-- is the first of those that its plan still has.
pub record WasAccepted (known : Known) (payload : List ℕ) (a : AgreedData) : Type 0 where
  pub succeeds : message_in known.shares payload ≡ Ok UserauthSuccess
  pub made : AttemptData
  pub later : List AttemptData
  pub left_are : known.left ≡ made ∷ later
  pub user_is : a.user ≡ made.user
  pub service_is : a.service ≡ made.service

-- by what a user is accepted, by the role
abbrev pub IsAcceptedUser : SuiteData → DecisionsData → Side → ConfigData → Known → List Tried → List ℕ → AgreedData → Type 0
IsAcceptedUser m d Client config known tried payload a = WasAccepted known payload a
IsAcceptedUser m d Server config known tried payload a = AcceptsUser m d config known tried payload a

-- An endpoint ended authenticated: its last payload came in phase auth, and the phase is the same after it. It agreed on what
-- the payloads before have given, which are the algorithms, strictness and the session identifier; and by what they have given
-- this user is accepted by the last payload for this service.
pub record IsAuthenticated (setup : Setup) (units : Units) (a : AgreedData) : Type 0 where
  pub version : List ℕ
  pub before : Units
  pub last : List ℕ
  pub units_are : units ≡ version ∷ (before ++ last ∷ [])
  pub in_auth : phase_at setup.role setup.config.offer before ≡ phase.Auth
  pub stays_in_auth : phase_at setup.role setup.config.offer (payloads_in units) ≡ phase.Auth
  pub agrees : a ≡ agreed_by (known_at setup version before) a.user a.service
  pub accepted_user : IsAcceptedUser setup.suite setup.decisions setup.role setup.config (known_at setup version before) (tried_at setup version before) last a
