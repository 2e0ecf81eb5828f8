-- An endpoint and its history.

use Rattle.std.specs.Prelude.{◌≡◌, ℕ, ◌≤◌, true, List, [], ◌∷◌, ◌++◌, length, take}
use Rattle.sshwire.specs.Lines.{LineOpen}
use Rattle.sshneg.specs.declared.side.Side.{Side}
use Rattle.sshpacket.specs.Stream.{Sent, Units}
use Rattle.sshpacket.specs.Suite.{SuiteData}
use Rattle.sshcore.specs.declared.end.Fault.TheVariants as fault
use Rattle.sshcore.specs.Directions.{others_of, spells}
use Rattle.sshcore.specs.EndData.{Authenticated, Closed, Disconnected, EndData, Failed, Open, by_owner, end_data, parting}
use Rattle.sshcore.specs.EndpointData.{EndpointData, endpoint_setup}
use Rattle.sshcore.specs.History.{BrokenOff}
use Rattle.sshcore.specs.Inputs.{EndpointStands, held_by, turns_left}
use Rattle.sshcore.specs.StateData.{state_data}
use Rattle.sshcore.specs.EndpointParts.{ConfigData, DecisionsData}

-- how an endpoint is: open, authenticated, failed, closed or disconnected
abbrev pub endpoint_end : {S D : Type 0} → EndpointData S D → EndData
endpoint_end e = end_data e.state.end

-- An endpoint has received and sent these bytes (RFC 4253 sections 4 to 11). If memory ran out, `BrokenOff` says what was sent. If the
-- owner disconnected, these are the bytes before that, and `Leaves` says what was sent last.
abbrev pub EndpointAfter : {S D : Type 0} → (S → SuiteData) → (D → DecisionsData) → EndpointData S D → List ℕ → List ℕ → Type 0
EndpointAfter meaning policy e h s = EndpointStands (endpoint_setup meaning policy e) (state_data e.state) e.input h s

-- what never changes
pub record IsSameEndpoint {S D : Type 0} (old new : EndpointData S D) : Type 0 where
  pub same_role : new.role ≡ old.role
  pub same_config : new.config ≡ old.config
  pub same_suite : new.suite ≡ old.suite
  pub same_decisions : new.decisions ≡ old.decisions

-- What a call did that used these bytes: what was appended stands after what was there, and whatever the endpoint has received and sent
-- before, it has now received and sent these besides. No such call ends an endpoint as its owner does.
pub record Fed {S D : Type 0} (meaning : S → SuiteData) (policy : D → DecisionsData) (old new : EndpointData S D) (taken before after : List ℕ) : Type 0 where
  pub added : List ℕ
  pub appended : after ≡ before ++ added
  pub follows : (h s : List ℕ) → EndpointAfter meaning policy old h s → EndpointAfter meaning policy new (h ++ taken) (s ++ added)
  pub uncut : (h s : List ℕ) → EndpointAfter meaning policy old h s → by_owner (endpoint_end new) ≡ true → endpoint_end old ≡ endpoint_end new
  pub same : IsSameEndpoint old new

-- What a call did that ran out of memory: it used some of the piece, and sent whole packets, a prefix of those that it would have
-- sent (profile).
pub record Breaks {S D : Type 0} (meaning : S → SuiteData) (policy : D → DecisionsData) (old new : EndpointData S D) (piece before after : List ℕ) : Type 0 where
  pub used : ℕ
  pub within : used ≤ length piece
  pub added : List ℕ
  pub appended : after ≡ before ++ added
  pub follows : (h s : List ℕ) → EndpointAfter meaning policy old h s
      → BrokenOff (endpoint_setup meaning policy old) (h ++ take used piece) (s ++ added)
  pub same : IsSameEndpoint old new

-- an open endpoint of this role, config, suite and decisions that has received nothing and sent what was appended (RFC 4253 sections 4.2, 7
-- and 7.1)
pub record EndpointMade {S D : Type 0} (meaning : S → SuiteData) (policy : D → DecisionsData) (role : Side) (config : ConfigData) (suite : S) (decisions : D) (new : EndpointData S D) (before after : List ℕ) : Type 0 where
  pub added : List ℕ
  pub appended : after ≡ before ++ added
  pub begins : EndpointAfter meaning policy new [] added
  pub is_open : endpoint_end new ≡ Open
  pub is_role : new.role ≡ role
  pub is_config : new.config ≡ config
  pub is_suite : new.suite ≡ suite
  pub is_decisions : new.decisions ≡ decisions

-- what the end of input does to an open endpoint: it has failed, and has received and sent the same bytes (profile)
pub record Cuts {S D : Type 0} (meaning : S → SuiteData) (policy : D → DecisionsData) (old new : EndpointData S D) : Type 0 where
  pub cut : endpoint_end new ≡ Failed fault.Cut
  pub follows : (h s : List ℕ) → EndpointAfter meaning policy old h s → EndpointAfter meaning policy new h s
  pub same : IsSameEndpoint old new

-- What the call did by which its owner told an open endpoint to disconnect: the endpoint has ended, and has received the same; and
-- it has sent a DISCONNECT with this reason after what it had sent. After has no such answer, for it tells of what was received: so
-- what was sent last stands in `sent`, as a unit after the answers (RFC 4253 section 11.1).
pub record Leaves {S D : Type 0} (meaning : S → SuiteData) (policy : D → DecisionsData) (old new : EndpointData S D) (reason : ℕ) (description before after : List ℕ) : Type 0 where
  pub left : endpoint_end new ≡ Disconnected reason
  pub added : List ℕ
  pub appended : after ≡ before ++ added
  pub follows : (h s : List ℕ) → EndpointAfter meaning policy old h s → EndpointAfter meaning policy new h s
  pub sent : (h s : List ℕ) (a : EndpointAfter meaning policy old h s)
      → Sent (spells (meaning old.suite) old.role old.config a.units) (s ++ added) (old.config.version ∷ (a.answers ++ parting reason description ∷ []))
  pub same : IsSameEndpoint old new

-- how many bytes are held: none once the endpoint has ended
abbrev pub held_at : EndData → ℕ → ℕ
held_at Open n = n
held_at (Authenticated a) n = 0
held_at (Failed f) n = 0
held_at (Closed reason) n = 0
held_at (Disconnected reason) n = 0

-- how many bytes of an unfinished unit an endpoint holds; none once it has ended
abbrev pub buffered_of : {S D : Type 0} → EndpointData S D → ℕ
buffered_of e = held_at (endpoint_end e) (held_by e.input)

-- how many bytes that is, of what was received: of the unfinished line before the version line, of the unfinished packet after it
abbrev pub HasUnfinished : Side → Units → List ℕ → EndData → ℕ → Type 0
HasUnfinished role [] rest Open n = (left : ℕ) × (line : List ℕ) × LineOpen (others_of role) rest left line × (n ≡ length line)
HasUnfinished role (version ∷ before) rest Open n = n ≡ length rest
HasUnfinished role units rest (Authenticated a) n = n ≡ 0
HasUnfinished role units rest (Failed f) n = n ≡ 0
HasUnfinished role units rest (Closed reason) n = n ≡ 0
HasUnfinished role units rest (Disconnected reason) n = n ≡ 0

-- how many turns may come in which no byte is used: by this bound the loop of `feed` ends
abbrev pub turns_of : {S D : Type 0} → EndpointData S D → ℕ
turns_of e = turns_left (endpoint_end e) e.input
