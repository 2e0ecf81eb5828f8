-- An endpoint that asks and waits, and its history. What it decides isn't its own: what is claimed of it holds of all decisions, and of a
-- call that answers of all that answer so.

use Rattle.std.specs.Prelude.{◌≡◌, ℕ, ◌≤◌, Bool, true, false, List, [], ◌∷◌, ◌++◌, length, take, Option, None, Some}
use Rattle.sshneg.specs.declared.side.Side.{Side}
use Rattle.sshpacket.specs.Stream.{Sent}
use Rattle.sshpacket.specs.Suite.{SuiteData}
use Rattle.sshcore.specs.declared.asking_endpoint.Fed.{Fed}
use Rattle.sshcore.specs.declared.asking_endpoint.Fed.TheVariants as fed
use Rattle.sshcore.specs.declared.end.Fault.TheVariants as fault
use Rattle.sshcore.specs.AskingData.{AskingData, WaitingData, asking_setup}
use Rattle.sshcore.specs.Directions.{spells}
use Rattle.sshcore.specs.EndData.{Authenticated, Closed, Disconnected, EndData, Failed, Open, by_owner, end_data, parting}
use Rattle.sshcore.specs.EndpointParts.{ConfigData, DecisionsData, Setup}
use Rattle.sshcore.specs.Endpoints.{held_at}
use Rattle.sshcore.specs.History.{BrokenOff}
use Rattle.sshcore.specs.Inputs.{held_by, turns_left}
use Rattle.sshcore.specs.Questions.{AnswerData, QuestionData, decided_by}
use Rattle.sshcore.specs.StateData.{state_data}
use Rattle.sshcore.specs.Unread.{AskingStands}

-- how an asking endpoint is: open, authenticated, failed, closed or disconnected
abbrev pub asking_end : {S : Type 0} → AskingData S → EndData
asking_end e = end_data e.state.end

-- what an endpoint asks that is so: what the waiting packet asks, while it is open
abbrev pub asked_at : EndData → Option WaitingData → Option QuestionData
asked_at Open None = None
asked_at Open (Some w) = Some w.question
asked_at (Authenticated a) w = None
asked_at (Failed f) w = None
asked_at (Closed reason) w = None
asked_at (Disconnected reason) w = None

-- the question of an asking endpoint: what the waiting packet asks, while the endpoint is open
abbrev pub asked_by : {S : Type 0} → AskingData S → Option QuestionData
asked_by e = asked_at (asking_end e) e.waiting

-- an asking endpoint is open and asks nothing, so it may be given bytes
pub record IsReadyForBytes {S : Type 0} (e : AskingData S) : Type 0 where
  pub is_open : asking_end e ≡ Open
  pub waits_for_none : e.waiting ≡ None

-- An asking endpoint has received and sent these bytes, if it is decided so (RFC 4253 sections 4 to 11). Where a packet waits for its
-- answer, the history ends before that packet. If memory ran out, `BrokenOff` says what was sent. If the owner disconnected, these are the
-- bytes before that, and `AskingLeaves` says what was sent last.
abbrev pub AskingAfter : {S : Type 0} → (S → SuiteData) → DecisionsData → AskingData S → List ℕ → List ℕ → Type 0
AskingAfter meaning d e h s = AskingStands (asking_setup meaning d e) (state_data e.state) e.input e.waiting h s

-- what never changes
pub record IsSameAsking {S : Type 0} (old new : AskingData S) : Type 0 where
  pub same_role : new.role ≡ old.role
  pub same_config : new.config ≡ old.config
  pub same_suite : new.suite ≡ old.suite

-- how many bytes were used, and whether it asks
abbrev pub bytes_used : Fed → ℕ
bytes_used (fed.Used used) = used
bytes_used (fed.Asks used) = used

-- whether this return value of `feed` says that the endpoint asks
abbrev pub is_question : Fed → Bool
is_question (fed.Used used) = false
is_question (fed.Asks used) = true

-- What a call did that used these bytes, whatever is decided: what was appended stands after what was there, and whatever the endpoint has
-- received and sent before, it has now received and sent these besides. No such call ends an endpoint as its owner does.
pub record AskingFed {S : Type 0} (meaning : S → SuiteData) (old new : AskingData S) (taken before after : List ℕ) : Type 0 where
  pub added : List ℕ
  pub appended : after ≡ before ++ added
  pub follows : (d : DecisionsData) (h s : List ℕ) → AskingAfter meaning d old h s → AskingAfter meaning d new (h ++ taken) (s ++ added)
  pub uncut : (d : DecisionsData) (h s : List ℕ) → AskingAfter meaning d old h s → by_owner (asking_end new) ≡ true → asking_end old ≡ asking_end new
  pub same : IsSameAsking old new

-- What an answer did: nothing more is received, and the packet is answered as by all decisions that answer its question so (RFC 4253
-- section 8, RFC 4252 sections 5 and 7).
pub record Answered {S : Type 0} (meaning : S → SuiteData) (answer : AnswerData) (old new : AskingData S) (before after : List ℕ) : Type 0 where
  pub added : List ℕ
  pub appended : after ≡ before ++ added
  pub follows : (d : DecisionsData) → decided_by d (asked_by old) ≡ answer → (h s : List ℕ) → AskingAfter meaning d old h s → AskingAfter meaning d new h (s ++ added)
  pub uncut : (d : DecisionsData) → decided_by d (asked_by old) ≡ answer → (h s : List ℕ) → AskingAfter meaning d old h s → by_owner (asking_end new) ≡ false
  pub waits_for_none : new.waiting ≡ None
  pub same : IsSameAsking old new

-- Memory ran out after these bytes came: BrokenOff tells of all of them, but for a packet that waited for its answer.
pub record BrokenBefore (setup : Setup) (w : Option WaitingData) (h s : List ℕ) : Type 0 where
  pub earlier : List ℕ
  pub unread : List ℕ
  pub received : h ≡ earlier ++ unread
  pub all : w ≡ None → unread ≡ []
  pub broken : BrokenOff setup earlier s

-- What a call did that ran out of memory, whatever is decided: it used some of the piece, and sent whole packets, a prefix of those
-- that it would have sent (profile).
pub record AskingBreaks {S : Type 0} (meaning : S → SuiteData) (old new : AskingData S) (piece before after : List ℕ) : Type 0 where
  pub used : ℕ
  pub within : used ≤ length piece
  pub added : List ℕ
  pub appended : after ≡ before ++ added
  pub follows : (d : DecisionsData) (h s : List ℕ) → AskingAfter meaning d old h s
      → BrokenBefore (asking_setup meaning d old) old.waiting (h ++ take used piece) (s ++ added)
  pub same : IsSameAsking old new

-- an open asking endpoint of this role, config and suite that waits for no answer, has received nothing and sent what was appended,
-- whatever is decided (RFC 4253 sections 4.2, 7 and 7.1)
pub record AskingMade {S : Type 0} (meaning : S → SuiteData) (role : Side) (config : ConfigData) (suite : S) (new : AskingData S) (before after : List ℕ) : Type 0 where
  pub added : List ℕ
  pub appended : after ≡ before ++ added
  pub begins : (d : DecisionsData) → AskingAfter meaning d new [] added
  pub is_open : asking_end new ≡ Open
  pub waits_for_none : new.waiting ≡ None
  pub is_role : new.role ≡ role
  pub is_config : new.config ≡ config
  pub is_suite : new.suite ≡ suite

-- what the end of input does to an open endpoint: it has failed, asks no more, and has received and sent the same bytes (profile)
pub record AskingCuts {S : Type 0} (meaning : S → SuiteData) (old new : AskingData S) : Type 0 where
  pub cut : asking_end new ≡ Failed fault.Cut
  pub follows : (d : DecisionsData) (h s : List ℕ) → AskingAfter meaning d old h s → AskingAfter meaning d new h s
  pub same : IsSameAsking old new

-- What the call did by which its owner disconnected an open endpoint (RFC 4253 section 11.1). The endpoint has ended, asks no more and has
-- received the same. It has sent a DISCONNECT with this reason after what it had sent.
pub record AskingLeaves {S : Type 0} (meaning : S → SuiteData) (old new : AskingData S) (reason : ℕ) (description before after : List ℕ) : Type 0 where
  pub left : asking_end new ≡ Disconnected reason
  pub added : List ℕ
  pub appended : after ≡ before ++ added
  pub follows : (d : DecisionsData) (h s : List ℕ) → AskingAfter meaning d old h s → AskingAfter meaning d new h s
  pub sent : (d : DecisionsData) (h s : List ℕ) (a : AskingAfter meaning d old h s)
      → Sent (spells (meaning old.suite) old.role old.config a.stands.units) (s ++ added) (old.config.version ∷ (a.stands.answers ++ parting reason description ∷ []))
  pub same : IsSameAsking old new

-- how many bytes are held of the unfinished line or packet: none while a packet waits
abbrev pub asking_held : {S : Type 0} → AskingData S → ℕ
asking_held e = held_at (asking_end e) (held_by e.input)

-- the bound of turns of an endpoint
abbrev pub asking_turns : {S : Type 0} → AskingData S → ℕ
asking_turns e = turns_left (asking_end e) e.input
