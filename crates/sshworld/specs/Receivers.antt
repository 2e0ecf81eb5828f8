-- One side while the schedule goes on.

use Rattle.std.specs.Prelude.{◌≡◌, ◌≢◌, ℕ, List, length}
use Rattle.sshwire.specs.Feeding.{StandsOpen}
use Rattle.sshwire.specs.LineReaderData.{Finished, Progress}
use Rattle.sshwire.specs.Meaning.{BeginsPreamble, IsLineRefused}
use Rattle.sshworld.specs.declared.greetings.Receiver.{Receiver}
use Rattle.sshworld.specs.declared.greetings.Reception.{Reception}
use Rattle.sshworld.specs.declared.greetings.Reception.TheVariants as reception

-- the reader of a side that waits may be fed
abbrev pub MayRead : Reception → Progress → Type 0
MayRead (reception.Waiting n) progress = progress ≢ Finished
MayRead _ progress = Unit {0}

-- what a side that accepts k other lines has received is what these bytes are
abbrev pub Follows : ℕ → List ℕ → Progress → Reception → Type 0
Follows k received progress (reception.Waiting n) = StandsOpen k received progress × (n ≡ length received)
Follows k received progress (reception.Got text) = BeginsPreamble k text received
Follows k received progress (reception.Refused code) = IsLineRefused k received code

-- these bytes were moved to the side, and it has received what they are
pub record ReceiverStands (k : ℕ) (received : List ℕ) (receiver : Receiver) : Type 0 where
  pub counted : receiver.moved ≡ length received
  pub follows : Follows k received receiver.reader.progress receiver.reception

-- the reader has ended, or waits in so many bytes
abbrev pub HasAll : Reception → ℕ → Type 0
HasAll (reception.Waiting n) len = n ≡ len
HasAll _ len = Unit {0}
