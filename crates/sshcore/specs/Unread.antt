-- A packet that an asking endpoint has read, and that isn't answered yet.

use Rattle.std.specs.Prelude.{◌≡◌, ◌≤◌, ◌+◌, ◌%◌, ◌^◌, ℕ, Bool, if◌then◌else◌, List, [], ◌++◌, length, Option, None, Some}
use Rattle.sshmsg.specs.MessageData.{MessageData}
use Rattle.sshneg.specs.declared.side.Side.{Side}
use Rattle.sshpacket.specs.declared.limits.TheConstants.{PACKET_LIMIT}
use Rattle.sshpacket.specs.declared.reader.PacketReader.{PacketReader}
use Rattle.sshpacket.specs.KeysData.{KeysData}
use Rattle.sshpacket.specs.PacketReaderData.{PacketReaderData, ahead, packet_reader_data}
use Rattle.sshpacket.specs.Parse.{whole}
use Rattle.sshpacket.specs.Suite.{SuiteData, next_keys}
use Rattle.sshcore.specs.declared.input.Input.{Input}
use Rattle.sshcore.specs.declared.input.Input.TheVariants as input
use Rattle.sshcore.specs.AskingData.{WaitingData}
use Rattle.sshcore.specs.Brings.{Brings, IsOngoing}
use Rattle.sshcore.specs.EndData.{Open}
use Rattle.sshcore.specs.EndpointParts.{ConfigData, DecisionsData, Setup, setup_with}
use Rattle.sshcore.specs.Exchanged.{HasForm}
use Rattle.sshcore.specs.Inputs.{CanRead, EndpointStands, Steps}
use Rattle.sshcore.specs.Keeping.{FitsConfig}
use Rattle.sshcore.specs.Judging.{IsPending}
use Rattle.sshcore.specs.QuestionAt.{question_at}
use Rattle.sshcore.specs.Questions.{AnswerData, decided}
use Rattle.sshcore.specs.QuestionsView.{pending_question}
use Rattle.sshcore.specs.StateData.{StateData, keys_due, keys_left}

-- From `i` a packet was read with the last of these bytes, and the reader stands at `j`: nothing is held, and the next packet has the
-- next keys and the next number (RFC 4253 section 6.4). Nothing more was done with it.
pub record ReadsPacket (m : SuiteData) (i j : Input) (w : WaitingData) (taken : List ℕ) : Type 0 where
  pub before : PacketReader
  pub after : PacketReader
  pub was : i ≡ input.Packets before
  pub is : j ≡ input.Packets after
  pub reads : ahead m (packet_reader_data before) taken ≡ whole w.payload (length (packet_reader_data before).held + length taken)
  pub left : packet_reader_data after ≡ record (packet_reader_data before) {
    keys = next_keys m (packet_reader_data before).keys (length (packet_reader_data before).held + length taken);
    held = [];
    seq = ((packet_reader_data before).seq + 1) % 2 ^ 32;
  }

-- What was received is all that was acted upon; or, where a packet waits for its answer, that and the bytes of the packet.
abbrev pub IsUnread : SuiteData → Input → List ℕ → Option WaitingData → Input → List ℕ → Type 0
IsUnread m i earlier None j h = (i ≡ j) × (earlier ≡ h)
IsUnread m i earlier (Some w) j h = (taken : List ℕ) × (h ≡ earlier ++ taken) × ReadsPacket m i j w taken

-- An asking endpoint that keeps this, with this reader, and where this packet waits, has received and sent these bytes: it stands as
-- after what came earlier, of which a history tells, and has read one packet more where one waits.
pub record AskingStands (setup : Setup) (kept : StateData) (j : Input) (w : Option WaitingData) (h s : List ℕ) : Type 0 where
  pub earlier : List ℕ
  pub reader : Input
  pub stands : EndpointStands setup kept reader earlier s
  pub unread : IsUnread setup.suite reader earlier w j h

-- a packet reader that holds nothing, right after a packet
abbrev pub IsIdle : Input → Type 0
IsIdle (input.Lines reader) = ⊥
IsIdle (input.Packets reader) = (packet_reader_data reader).held ≡ []

-- what is kept of a packet that waits is what its answer needs
pub record KeepsPacket (m : SuiteData) (role : Side) (config : ConfigData) (kept : StateData) (w : WaitingData) : Type 0 where
  pub message : MessageData
  pub waits : IsPending m role config kept w.payload message w.pending
  pub question_is : w.question ≡ pending_question w.pending

-- where a packet waits, an endpoint whose session goes on is open, the packet asks, and what is kept of it is what its answer needs
pub record IsAsked (m : SuiteData) (role : Side) (config : ConfigData) (kept : StateData) (j : Input) (w : WaitingData) : Type 0 where
  pub is_open : kept.end ≡ Open
  pub idle : IsIdle j
  pub short : length w.payload ≤ PACKET_LIMIT
  pub asks : question_at m role config kept w.payload ≡ Some w.question
  pub keeps : KeepsPacket m role config kept w

-- where a packet waits and the session goes on, the packet asks, and what is kept of it is what its answer needs
abbrev pub IsAskedBy : SuiteData → Side → ConfigData → StateData → Input → Option WaitingData → Type 0
IsAskedBy m role config kept j None = Unit {0}
IsAskedBy m role config kept j (Some w) = IsOngoing kept.end → IsAsked m role config kept j w

-- What becomes of a packet with this number and payload: it asks nothing and is answered, whatever is decided; or it asks and waits, and
-- nothing else is done.
abbrev pub TakesPacket : SuiteData → Side → ConfigData → StateData → StateData → ℕ → List ℕ → List ℕ → List ℕ → Option WaitingData → Type 0
TakesPacket m role config old new packet payload before after None =
    (question_at m role config old payload ≡ None) × ((d : DecisionsData) → HasForm m old → Brings (setup_with m d role config) old new packet payload before after)
TakesPacket m role config old new packet payload before after (Some w) =
    (new ≡ old) × (after ≡ before) × (w.payload ≡ payload) × (question_at m role config new w.payload ≡ Some w.question) × KeepsPacket m role config new w

-- what is true of every asking endpoint: where its session goes on, its reader may be given bytes, and what it keeps is of use with
-- its suite and its config
pub record IsAskingEndpoint (m : SuiteData) (role : Side) (config : ConfigData) (kept : StateData) (j : Input) (w : Option WaitingData) : Type 0 where
  pub reads : IsOngoing kept.end → CanRead m j
  pub asked : IsAskedBy m role config kept j w
  pub keeps : IsOngoing kept.end → FitsConfig m config kept

-- A packet was read that asks, with the last of these bytes, and nothing more was done.
pub record StopsAt (m : SuiteData) (role : Side) (config : ConfigData) (i : Input) (old : StateData) (j : Input) (new : StateData) (w : WaitingData) (taken before after : List ℕ) : Type 0 where
  pub same : new ≡ old
  pub nothing_sent : after ≡ before
  pub reads : ReadsPacket m i j w taken
  pub asked : IsAsked m role config new j w

-- What a step did that used these bytes: it went on, whatever is decided; or it stopped at a packet that asks.
abbrev pub AskingSteps : SuiteData → Side → ConfigData → Input → StateData → Input → StateData → Option WaitingData → List ℕ → List ℕ → List ℕ → Type 0
AskingSteps m role config i old j new None taken before after = (d : DecisionsData) → Steps (setup_with m d role config) i old j new taken before after
AskingSteps m role config i old j new (Some w) taken before after = StopsAt m role config i old j new w taken before after

-- What an answer did, wherever the packet was read: a step that used the packet's bytes, for all decisions that answer so.
abbrev pub AnswerSteps : SuiteData → Side → ConfigData → AnswerData → WaitingData → Input → StateData → Input → StateData → List ℕ → List ℕ → Type 0
AnswerSteps m role config answer w j old k new before after =
    (d : DecisionsData) → decided d w.question ≡ answer → (i : Input) (taken : List ℕ) → ReadsPacket m i j w taken → Steps (setup_with m d role config) i old k new taken before after

-- The keys that are due after a packet are taken into use (RFC 4253 section 7.3), from number 0 where the endpoint is strict.
abbrev pub reads_with : Option KeysData → Bool → PacketReaderData → PacketReaderData
reads_with None strict r = r
reads_with (Some keys) strict r = record r { keys = Some keys; seq = if strict then 0 else r.seq }

-- the keys that are due are now in use by the reader, and no longer kept beside it
pub record Turns (old new : StateData) (p q : PacketReader) : Type 0 where
  pub left : new ≡ record old { carried = record old.carried { pending = keys_left old.phase old.carried.pending } }
  pub reads : packet_reader_data q ≡ reads_with (keys_due old.phase old.carried.pending) old.known.strict (packet_reader_data p)

-- the keys that are due are now in use by the reader; the input has to be packets before and after
abbrev pub IsTurned : StateData → StateData → Input → Input → Type 0
IsTurned old new (input.Packets p) (input.Packets q) = Turns old new p q
IsTurned old new i j = ⊥
