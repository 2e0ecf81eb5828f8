-- What a delivery does, and what several do, one after another.

use Rattle.std.specs.Prelude.{◌≡◌, ◌≢◌, ◌+◌, ◌≤◌, ◌⊎◌, ℕ, zero, suc, List, [], ◌∷◌, min, take}
use Rattle.sshneg.specs.declared.side.Side.{Side}
use Rattle.sshpacket.specs.Places.{IsPrefix}
use Rattle.sshpacket.specs.Suite.{SuiteData}
use Rattle.sshcore.specs.declared.end.Fault.TheVariants as fault
use Rattle.sshcore.specs.EndData.{Failed, Open}
use Rattle.sshcore.specs.History.{BrokenOff}
use Rattle.sshcore.specs.EndpointParts.{DecisionsData, Setup, setup_with}
use Rattle.sshworld.specs.declared.side.Delivery.{Delivery}
use Rattle.sshneg.specs.declared.side.Side.TheVariants.{Client, Server}
use Rattle.sshworld.specs.WorldCourse.{WorldHolds}
use Rattle.sshworld.specs.Worlds.{IsSameSetup, NodeData, WorldData, config_at, node_at, node_opposite, waiting_for}

-- The next n bytes were moved to a side: it used all of them, or those up to its end, and what it sent by that is appended to
-- what it had sent before; and memory didn't run out. Where none were moved, nothing changed.
pub record TakesIn (n : ℕ) (old new : NodeData) : Type 0 where
  pub moved_on : new.moved ≡ old.moved + n
  pub used_on : old.used ≤ new.used
  pub used_within : new.used ≤ new.moved
  pub all_used : new.end ≡ Open → new.used ≡ new.moved
  pub more_sent : IsPrefix old.sent new.sent
  pub had_memory : old.end ≢ Failed fault.Memory → new.end ≢ Failed fault.Memory
  pub by_none : n ≡ 0 → new ≡ old

-- A delivery of n bytes to a side; the other doesn't change.
pub record Delivered {S D : Type 0} (to : Side) (n : ℕ) (old new : WorldData S D) : Type 0 where
  pub receiver : TakesIn n (node_at to old) (node_at to new)
  pub sender : node_opposite to new ≡ node_opposite to old

-- The next n bytes were moved to a side, and memory ran out: it has failed by that. It doesn't count those that it used of them.
-- What it sent by that is appended to what it had sent before, so that it has sent whole packets, a prefix of those that it would
-- have sent (profile).
pub record BreaksOff (setup : Setup) (n : ℕ) (old new opposite : NodeData) : Type 0 where
  pub failed : new.end ≡ Failed fault.Memory
  pub moved_on : new.moved ≡ old.moved + n
  pub same_used : new.used ≡ old.used
  pub more_sent : IsPrefix old.sent new.sent
  pub used : ℕ
  pub used_within : used ≤ n
  pub broken_off : BrokenOff setup (take (old.used + used) opposite.sent) new.sent

module _ {S D : Type 0} (meaning : S → SuiteData) (policy : D → DecisionsData) where
  -- A delivery of n bytes was done: the configs, the suite and the decisions are the same, and what is true of every world is true of
  -- the new one.
  pub record Done (to : Side) (n : ℕ) (old new : WorldData S D) : Type 0 where
    pub delivered : Delivered to n old new
    pub setup : IsSameSetup old new
    pub holds : WorldHolds meaning policy new

  -- A delivery of a schedule moves the lesser of its count and what waits.
  abbrev pub DoneBy : Delivery → WorldData S D → WorldData S D → Type 0
  DoneBy d old new = Done d.to (min d.count (waiting_for d.to old)) old new

  -- a delivery of so many bytes as wait
  abbrev pub DoneAll : Side → WorldData S D → WorldData S D → Type 0
  DoneAll to old new = Done to (waiting_for to old) old new

  -- the deliveries of a schedule, in order, each of them done; so each world between two of them keeps the headline
  abbrev pub Runs : List Delivery → WorldData S D → WorldData S D → Type 0
  Runs [] old new = new ≡ old
  Runs (d ∷ later) old new = (mid : WorldData S D) × DoneBy d old mid × Runs later mid new

  -- A round: all waiting bytes to the server, then all waiting bytes to the client.
  abbrev pub Round : WorldData S D → WorldData S D → Type 0
  Round old new = (mid : WorldData S D) × DoneAll Server old mid × DoneAll Client mid new

  -- so many rounds, one after another
  abbrev pub Rounds : ℕ → WorldData S D → WorldData S D → Type 0
  Rounds zero old new = new ≡ old
  Rounds (suc n) old new = (mid : WorldData S D) × Round old mid × Rounds n mid new

  -- A delivery of n bytes for which memory ran out; the side that doesn't receive doesn't change.
  pub record Refused (to : Side) (n : ℕ) (old new : WorldData S D) : Type 0 where
    pub receiver : BreaksOff (setup_with (meaning old.suite) (policy old.decisions) to (config_at to old)) n (node_at to old) (node_at to new) (node_opposite to old)
    pub sender : node_opposite to new ≡ node_opposite to old

  -- a delivery of so many bytes as wait for which it was
  abbrev pub RefusedAll : Side → WorldData S D → WorldData S D → Type 0
  RefusedAll to old new = Refused to (waiting_for to old) old new

  -- the first delivery of a schedule for which it was; those before it were done
  abbrev pub RunsInto : List Delivery → WorldData S D → WorldData S D → Type 0
  RunsInto [] old new = ⊥
  RunsInto (d ∷ later) old new = Refused d.to (min d.count (waiting_for d.to old)) old new ⊎ ((mid : WorldData S D) × DoneBy d old mid × RunsInto later mid new)

  -- the first delivery of a round for which memory ran out
  abbrev pub RoundInto : WorldData S D → WorldData S D → Type 0
  RoundInto old new = RefusedAll Server old new ⊎ ((mid : WorldData S D) × DoneAll Server old mid × RefusedAll Client mid new)

  -- the first delivery of so many rounds for which memory ran out; the rounds before it were done
  abbrev pub RoundsInto : ℕ → WorldData S D → WorldData S D → Type 0
  RoundsInto zero old new = ⊥
  RoundsInto (suc n) old new = RoundInto old new ⊎ ((mid : WorldData S D) × Round old mid × RoundsInto n mid new)
